use mathlib.Core.Path.{refl}
use Prim.Native.Nat.{zero-le}
use Rattle.table_place.specs.Place.{keys_end, keys_in}
use Rattle.verdict_compare.proofs.place.Element.no_keys.Goals as goal

pub invariant_of-result : goal.invariant_of-result
unfolding keys_end
invariant_of-result c = record { inside = zero-le }

pub returns : goal.returns
unfolding keys_in
returns c = refl
