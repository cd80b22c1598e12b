use mathlib.Core.Path.{◌≡◌}
use Prim.Native.Nat.{◌-◌, ◌≤◌}
use lib.ListN.{length}
use Rattle.table_place.specs.Place.{keys_end}
use Rattle.table_place.proofs.keys_end.Given as goal

-- the keys that are left lie within the bytes, and end where all of them end
abbrev pub invariant-loop : goal.invariant-loop
invariant-loop l = (keys_end (l.k - l.counter) l.f l.q ≤ length l.f) × (keys_end l.k l.f l.at ≡ keys_end (l.k - l.counter) l.f l.q)
