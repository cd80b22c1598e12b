-- What is printed of a table's rows and of a user's groups, one fact a line.
use Rattle.std.specs.Prelude.{ℕ, ◌+◌, List, [], ◌∷◌, ◌++◌}
use Rattle.limits.specs.Limits.{max_string}
use Rattle.text.specs.String.{Str, bytes}
use Rattle.table.specs.Text.{table_of}
use Rattle.table.specs.Group.{groups_of, group_count}
use Rattle.table.specs.Counted.{Counted}
use Rattle.table.specs.Counted as counted
use Rattle.table.specs.declared.GroupNumber.{GroupNumber}
use Rattle.table_facts.specs.declared.Row.TheVariants.{Group}
use Rattle.text_make.specs.Decimal.{decimal}
use Rattle.text_make.specs.Text.{fact}
use Rattle.cli_answers.specs.Lines.{name_in}

-- how many rows of each kind an accepted table has
unfoldable pub row_lines : ℕ → ℕ → ℕ → Str
row_lines groups members rules = fact (bytes "accepted\ngroups ") groups ++ fact (bytes "members ") members ++ fact (bytes "rules ") rules

-- the longest line with a count of groups
abbrev pub max_count_line : ℕ
max_count_line = 28

-- how many groups list a user; a refusal has words of its own
unfoldable pub groups_line : Counted → Str
groups_line (counted.Count n first) = fact (bytes "groups ") n
groups_line counted.NoGroup = bytes "groups 0\n"
groups_line (counted.Declined number line) = []

-- the number and the name of one of them
unfoldable pub group_line : Str → GroupNumber → Str
group_line text g = bytes "group " ++ decimal g.0 ++ bytes " " ++ name_in text (Group g) ++ bytes "\n"

-- the longest such line
abbrev pub max_group_line : ℕ
max_group_line = 28 + max_string

-- a line for each of the groups of these numbers
unfoldable pub group_lines : Str → List ℕ → Str
group_lines text [] = []
group_lines text (g ∷ gs) = group_line text (record { 0 = g }) ++ group_lines text gs

-- below the count, where there is a group
unfoldable pub below_count : Counted → Str → Str
below_count (counted.Count n first) ls = ls
below_count counted.NoGroup ls = []
below_count (counted.Declined number line) ls = []

-- what `burgee groups` prints: how many groups list the user, and each of them
unfoldable pub groups_text : Str → Str → Str
groups_text text user =
    groups_line (group_count text user) ++ below_count (group_count text user) (group_lines text (groups_of (table_of text) user))
