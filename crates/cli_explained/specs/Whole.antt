-- That lines show ids whole: `up_to` never leaves one out.
use Rattle.std.specs.Prelude.{ℕ, ◌≡◌}
use Rattle.limits.specs.Limits.{max_string}
use Rattle.text.specs.String.{Str}
use Rattle.table.specs.Text.{check, table_of}
use Rattle.table.specs.Checked.{Accepted}
use Rattle.text_make.specs.Text.{up_to}
use Rattle.cli_explained.specs.Explained.{rule_of}

-- the rule of any number, in an accepted table
pub record WholeIds : Type 0 where
  pub shown : (text : Str) → check text ≡ Accepted → (n : ℕ) → up_to max_string (rule_of (table_of text).rules n).id ≡ (rule_of (table_of text).rules n).id
