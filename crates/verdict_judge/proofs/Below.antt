-- Where there is a best rule, its number is below that of the rules.
use mathlib.Core.Path.{◌≡◌, sym, ap}
use mathlib.Core.Option.{none, some}
use Prim.Native.Nat.{ℕ, ◌<◌}
use native.Mathlib.Omega.{arith}
use Rattle.verdict.specs.Order.{Numbered}
use Rattle.verdict_judge.specs.Best.{NumberBelow}

pub some_below : (n : ℕ) (x : Numbered) → x.number < n → NumberBelow n (some x)
some_below n x l m e = let k : x ≡ m = cc in let i : x.number ≡ m.number = ap (λ (y : Numbered). y.number) k in omega arith

pub none_below : (n : ℕ) → NumberBelow n none
none_below n m e = let z : ◌≡◌ {A = ℕ} 0 1 = cc in absurd (omega arith)
