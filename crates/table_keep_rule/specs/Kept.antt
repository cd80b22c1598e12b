-- What a rule that is kept changes: `old` are the bytes before it, f its frame, n the rules before it.
use Rattle.std.specs.Prelude.{ℕ, ◌+◌, ◌*◌, ◌%◌, ◌≤◌, ◌<◌, ◌≡◌, true, List, [], ◌∷◌, ◌++◌, map, length, get_or, set}
use Rattle.std.proofs.Math.Option.{some}
use Rattle.limits.specs.Limits.{max_rules}
use Rattle.text.specs.String.{Str}
use Rattle.text.specs.Frame.{got}
use Rattle.text_set.specs.Set.{Holds}
use Rattle.table_rows.specs.Strings.{hash_of}
use Rattle.table.specs.Table.{Rule}
use Rattle.table.specs.Layout.{kind_rule, after_kind}
use Rattle.table.specs.Frame.{rule, rule_body, entry_of}
use Rattle.table.specs.Walk.{OfKind}

-- the ids of rules, in order
unfoldable pub ids_of : List Rule → List Str
ids_of rs = map (λ (r : Rule). r.id) rs

-- ---- the set of ids, an array (text_set/specs/Set) of the program's own size: sorted keys, their count, and a place for each hash

abbrev pub id_places : ℕ
id_places = 8 * max_rules

abbrev pub first_id_place : ℕ
first_id_place = max_rules + 1

abbrev pub id_keys : ℕ
id_keys = first_id_place + id_places

-- an id's place in the set
unfoldable pub id_place : Str → ℕ
id_place s = first_id_place + hash_of s % id_places

-- the set has these ids, which are n
pub record Ids (f keys : List ℕ) (n : ℕ) (ids : List Str) : Type 0 where
  pub held : Holds id_place f keys max_rules ids
  pub counted : length ids ≡ n

-- ---- what taking a rule needs

pub record RuleReady (old f keys : List ℕ) (n : ℕ) : Type 0 where
  pub kind : OfKind kind_rule f
  pub long : length keys ≡ id_keys
  pub before : List Str
  pub ids : Ids old keys n before

-- ---- what a rule that is kept changes: `holder` is its group's number, where its subject is a group

pub record RuleKept (groups : List Str) (old f starts holders keys : List ℕ) (n : ℕ) (starts' holders' keys' : List ℕ) : Type 0 where
  pub kept : Rule
  pub holder : ℕ
  pub reads : entry_of f ≡ some (rule kept)
  pub body : rule_body f after_kind ≡ got kept (length f)
  pub room : n < max_rules
  pub held : kept.by_group ≡ true → (holder < length groups) × (get_or groups holder [] ≡ kept.subject)
  pub starts_set : starts' ≡ set starts n (length old + after_kind)
  pub holders_set : holders' ≡ set holders n holder
  pub keys_long : length keys' ≡ id_keys
  pub ids_held : (before : List Str) → Ids old keys n before → Holds id_place (old ++ f) keys' max_rules (before ++ (kept.id ∷ []))
