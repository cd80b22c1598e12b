-- The orders of rules, and the best of a list.
use Rattle.std.specs.Prelude.{ℕ, suc, ◌+◌, Bool, List, [], ◌∷◌, length}
use Rattle.std.proofs.Math.Option.{Option, none, some}
use Rattle.text.specs.Test.{whether◌then◌else◌}
use Rattle.text.specs.String.{more, before}
use Rattle.path.specs.Path.{Path}
use Rattle.table.specs.Table.{Rule}
use Rattle.verdict.specs.Cover.{definite}

-- "definite keys, counted over the whole rule path"
unfoldable pub definites : Path → ℕ
definites [] = 0
definites (e ∷ es) = length (definite e) + definites es

-- 1 unless b holds: so a user weighs more than a group, and a deny more than a permit
abbrev pub one_unless : Bool → ℕ
one_unless b = whether b then 0 else 1

-- "more elements; then more definite keys, counted over the whole rule path; then user over group; then deny over permit ..; then .. the
-- smaller id in byte order, where a proper prefix is smaller"
unfoldable pub better : Rule → Rule → Bool
better r s =
    more (length r.path) (length s.path)
    (more (definites r.path) (definites s.path)
    (more (one_unless r.by_group) (one_unless s.by_group)
    (more (one_unless r.permit) (one_unless s.permit)
    (before r.id s.id))))

-- "the one with the smallest id"
unfoldable pub earlier : Rule → Rule → Bool
earlier r s = before r.id s.id

-- ---- the best of a list

-- a rule with its number: "Rules and groups are numbered from 0 in text order."
pub record Numbered : Type 0 where
  pub number : ℕ
  pub rule : Rule

-- of two candidates the one that is over the other; the first where none is
unfoldable pub prefer : (Rule → Rule → Bool) → Option Numbered → Option Numbered → Option Numbered
prefer over none y = y
prefer over (some n) none = some n
prefer over (some n) (some m) = some (whether over m.rule n.rule then m else n)

-- the rule, if it passes
unfoldable pub candidate : (Rule → Bool) → ℕ → Rule → Option Numbered
candidate test i r = whether test r then some (record { number = i; rule = r }) else none

-- the best by the order `over` of the rules that pass the test; the list's first rule has the number i
unfoldable pub choose : (Rule → Rule → Bool) → (Rule → Bool) → ℕ → List Rule → Option Numbered
choose over test i [] = none
choose over test i (r ∷ rs) = prefer over (candidate test i r) (choose over test (suc i) rs)
