-- What is to be shown of the verdicts, as types. The theorems are in proofs/Theorems.
use Rattle.std.specs.Prelude.{◌≡◌, ◌↔◌, Bool, true, false, ℕ, ltb}
use mathlib.Core.List.{Permᴰ}
use Rattle.std.proofs.Math.Option.{Option, none, some}
use Rattle.std.proofs.Math.ListN.{get_elem?}
use Rattle.text.specs.Test.{◌and◌, ◌∈◌, all}
use Rattle.text.specs.String.{Str}
use Rattle.path.specs.Path.{Key, Elem, Path}
use Rattle.path.specs.Refusal.{key_twice}
use Rattle.table.specs.Table.{Rule, Table}
use Rattle.verdict.specs.Cover.{covers}
use Rattle.verdict.specs.Order.{better, earlier, Numbered}
use Rattle.verdict.specs.Verdict.{Request, at, matches, decider, permits, opposes, Tree, ALL, NONE, MIXED, tree}

-- ---- the single-path verdict

-- n is a rule of the table with its number; it passes the test; no rule that passes is over it
pub record Best (over : Rule → Rule → Bool) (test : Rule → Bool) (t : Table) (n : Numbered) : Type 0 where
  pub numbered : get_elem? t.rules n.number ≡ some n.rule
  pub passes : test n.rule ≡ true
  pub unbeaten : (s : Rule) → s ∈ t.rules → test s ≡ true → over s n.rule ≡ false

-- by default where no rule matches, and else by the best of those that match
abbrev pub Decided : Table → Request → Option Numbered → Type 0
Decided t q none = (s : Rule) → s ∈ t.rules → matches t q s ≡ false
Decided t q (some n) = Best better (matches t q) t n

-- ---- the tree verdict

-- a path of bytes: the names and values of a `Path` are lists of any numbers, those of a path that can be written are lists of these
abbrev pub is_byte : ℕ → Bool
is_byte b = ltb b 256

unfoldable pub key_of_bytes : Key → Bool
key_of_bytes k = all is_byte k.name and all is_byte k.value

unfoldable pub elem_of_bytes : Elem → Bool
elem_of_bytes e = all is_byte e.name and all key_of_bytes e.keys

unfoldable pub of_bytes : Path → Bool
of_bytes p = all elem_of_bytes p

-- "judged over every such D by the single-path definition": every path of bytes at or beneath the asked one, of any length and with any keys,
-- "each key once an element", gets the action b
abbrev pub Everywhere : Table → Request → Bool → Type 0
Everywhere t q b = (d : Path) → of_bytes d ≡ true → covers q.path d ≡ true → key_twice d ≡ false → permits t (at q d) ≡ b

-- the answer is ALL exactly if all are permitted, NONE exactly if all are denied, and otherwise MIXED, with a rule that opposes and no such of
-- smaller id
pub record TreeDecided (t : Table) (q : Request) (answer : Tree) : Type 0 where
  pub every : (answer ≡ ALL) ↔ Everywhere t q true
  pub never : (answer ≡ NONE) ↔ Everywhere t q false
  pub mixed : ¬ Everywhere t q true → ¬ Everywhere t q false → (n : Numbered) × (answer ≡ MIXED n) × Best earlier (opposes t q) t n

-- ---- the order of the lines

-- u has t's groups, members and rules in another order
pub record Reordered (t u : Table) : Type 0 where
  pub groups : Permᴰ t.groups u.groups
  pub members : Permᴰ t.members u.members
  pub rules : Permᴰ t.rules u.rules

-- the rule's id, or none for the default
unfoldable pub id_of : Option Numbered → Option Str
id_of none = none
id_of (some n) = some n.rule.id

-- the tree answer, and with MIXED the id of the rule named
pub data TreeById : Type 0 where
  every never : TreeById
  mixed : Str → TreeById

unfoldable pub by_id : Tree → TreeById
by_id ALL = every
by_id NONE = never
by_id (MIXED n) = mixed n.rule.id

-- the same action, the same deciding id or the same default, the same tree answer and the same id of the rule named
pub record SameAnswers (t u : Table) (q : Request) : Type 0 where
  pub action : permits t q ≡ permits u q
  pub deciding : id_of (decider t q) ≡ id_of (decider u q)
  pub word : by_id (tree t q) ≡ by_id (tree u q)
