-- What every accepted table has, as far as the proofs about verdicts ask for it.
use Rattle.std.specs.Prelude.{◌≡◌, false}
use Rattle.text.specs.Test.{◌∈◌, twice}
use Rattle.path.specs.Refusal.{key_twice}
use Rattle.table.specs.Table.{Rule, Table}
use Rattle.table.specs.Refusal.{same_id}

-- no rule id twice, and no key twice in an element
pub record Orderly (t : Table) : Type 0 where
  pub ids : twice same_id t.rules ≡ false
  pub keys : (r : Rule) → r ∈ t.rules → key_twice r.path ≡ false
