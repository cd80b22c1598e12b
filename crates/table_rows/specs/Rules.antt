-- The rules of a checked table, read from its decoded bytes by the positions of their action bytes.
use Rattle.std.specs.Prelude.{◌≡◌, ℕ, ◌+◌, ◌≤◌, List, eqb, length, get_or}
use Rattle.table.specs.Table.{Rule}
use Rattle.table.specs.Layout.{rule_mode, rule_subject_kind, rule_subject}
use Rattle.table_place.specs.Place.{str_end, str_in, path_in, path_end}
use Rattle.table_rows.specs.Strings.{rows_of}

-- "action (0 deny, 1 permit), mode (1 read, 2 write), subject (0 user, 1 group), S subject name, S id, S origin, path": where the rule's id,
-- origin and path stand
unfoldable pub id_at : List ℕ → ℕ → ℕ
id_at f at = str_end f (at + rule_subject)

unfoldable pub origin_at : List ℕ → ℕ → ℕ
origin_at f at = str_end f (id_at f at)

unfoldable pub path_at : List ℕ → ℕ → ℕ
path_at f at = str_end f (origin_at f at)

-- the rule at a position, and where it ends
unfoldable pub rule_in : List ℕ → ℕ → Rule
rule_in f at = record {
  permit = eqb (get_or f at 0) 1;
  mode = get_or f (at + rule_mode) 0;
  by_group = eqb (get_or f (at + rule_subject_kind) 0) 1;
  subject = str_in f (at + rule_subject);
  id = str_in f (id_at f at);
  origin = str_in f (origin_at f at);
  path = path_in f (path_at f at);
}

unfoldable pub rule_end : List ℕ → ℕ → ℕ
rule_end f at = path_end f (path_at f at)

-- k rules, the first with number i
unfoldable pub rules_in : List ℕ → List ℕ → ℕ → ℕ → List Rule
rules_in f starts k i = rows_of (λ j. rule_in f (get_or starts j 0)) k i

-- a rule that was read stands there, within the bytes
pub record RuleStands (f : List ℕ) (at : ℕ) (r : Rule) : Type 0 where
  pub is : r ≡ rule_in f at
  pub id_fits : origin_at f at ≤ length f
  pub fits : rule_end f at ≤ length f
