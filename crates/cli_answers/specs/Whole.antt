-- That lines show names whole: `up_to` never leaves one out.
use Rattle.std.specs.Prelude.{◌≤◌, ◌≡◌, length}
use Rattle.limits.specs.Limits.{max_string}
use Rattle.text.specs.String.{Str}
use Rattle.table.specs.Text.{check, table_of}
use Rattle.table_facts.specs.Facts.{name_of}
use Rattle.table_facts.specs.declared.Row.{Row}
use Rattle.cli_answers.specs.Lines.{name_in}

-- of any text, the names of groups and the ids of rules
pub record WholeNames : Type 0 where
  -- none is longer than a line has room for
  pub fits : (text : Str) (row : Row) → length (name_of (check text) (table_of text) row) ≤ max_string
  -- so that a line has the name as the table has it
  pub shown : (text : Str) (row : Row) → name_in text row ≡ name_of (check text) (table_of text) row
