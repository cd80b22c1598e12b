-- `find` equals its definition. The invariant: the place among all is i and the place among the rest.
use mathlib.Core.Path.{◌≡◌}
use Prim.Native.Nat.{◌+◌, ◌-◌}
use Rattle.table_rows.specs.Strings.{place, strings_in}
use Rattle.table_rows.proofs.find.Given as goal

-- the place among all strings is i and the place among those from i on
abbrev pub invariant-loop-i : goal.invariant-loop-i
invariant-loop-i l = place l.name (strings_in l.f l.starts l.n 0) ≡ l.i + place l.name (strings_in l.f l.starts (l.n - l.i) l.i)
