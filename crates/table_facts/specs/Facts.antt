-- Names of a table's rows, for the command line.
use Rattle.std.specs.Prelude.{ℕ, ◌≤◌, ◌<◌, List, [], map, ltb, length, get_or}
use Rattle.text.specs.Test.{whether◌then◌else◌}
use Rattle.text.specs.String.{Str}
use Rattle.table.specs.Table.{Table}
use Rattle.table.specs.Table as rule
use Rattle.table_rows.specs.Strings.{rows_of}
use Rattle.table_rows.specs.Rules.{id_at, origin_at}
use Rattle.table_place.specs.Place.{str_in}
use Rattle.table.specs.Checked.{Checked}
use Rattle.table.specs.Checked as checked
use Rattle.table_facts.specs.declared.Row.{Row}
use Rattle.table_facts.specs.declared.Row.TheVariants.{Group, Rule}

-- the name of a group, the id of a rule: "Rules and groups are numbered from 0 in text order." Empty where there is no such row.
unfoldable pub name_of : Checked → Table → Row → Str
name_of (checked.Refused n l) t row = []
name_of checked.Accepted t (Group g) = get_or t.groups g.0 []
name_of checked.Accepted t (Rule k) = get_or (map (λ (r : rule.Rule). r.id) t.rules) k.0 []

-- what is stored of a name into d: nothing where it does not fit
unfoldable pub stored_of : List ℕ → Str → Str
stored_of d s = whether ltb (length d) (length s) then [] else s

-- ---- ids by the positions of rules in decoded bytes

-- those of n rules
unfoldable pub ids_in : List ℕ → List ℕ → ℕ → List Str
ids_in f starts n = rows_of (λ j. str_in f (id_at f (get_or starts j 0))) n 0

-- they lie within the bytes, and `starts` has the rules' positions
pub record Identified (f starts : List ℕ) (n : ℕ) : Type 0 where
  pub laid : (i : ℕ) → i < n → origin_at f (get_or starts i 0) ≤ length f
  pub room : n ≤ length starts
