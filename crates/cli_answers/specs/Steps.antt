-- What a program answers that lists a user's groups.
use Rattle.std.specs.Prelude.{◌≡◌, ◌++◌}
use Rattle.text.specs.String.{Str}
use Rattle.table.specs.Text.{check, table_of}
use Rattle.table.specs.Group.{groups_of}
use Rattle.table.specs.Checked.{Accepted}
use Rattle.cli_answers.specs.Rows.{group_lines}

-- a line for each of them was added to d, if the table is accepted
abbrev pub ListsGroups : Str → Str → Str → Str → Type 0
ListsGroups text user d d' = check text ≡ Accepted → d' ≡ d ++ group_lines text (groups_of (table_of text) user)
