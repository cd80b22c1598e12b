-- Prefixes and suffixes as parts; an asterisk at an end stands in a string that is not empty.
use mathlib.Core.Path.{◌≡◌, sym, ap, ◌∙◌}
use mathlib.Core.Bool.{Bool, true, false}
use Prim.Native.Nat.{ℕ, ◌-◌, ◌≤◌, ◌<◌}
use native.Mathlib.Omega.{arith}
use lib.Dec.{eqb}
use lib.ListN.{length, take, drop, get_or, length-drop, get_or-eq_default}
use lib.Seq.{take_all}
use borrow.Author.Tests.{eqb-true, eqb-false, le-leb, lt-leb}
use Rattle.text.specs.Test.{◌and◌}
use Rattle.text.specs.String.{Str, same}
use Rattle.text.proofs.Tests.{by, clash}
use Rattle.text_affix.specs.Affix.{begins, ends, star_first, star_last}

pub front : (n : ℕ) (v : Str) → take (n - 0) (drop 0 v) ≡ take n v
front n v = let q : n - 0 ≡ n = omega arith in rw q

module _ (p v : Str) where
  pub begins_in : (n : ℕ) (r : Bool) → n ≡ length p → n ≤ length v → r ≡ same p (take n v) → r ≡ begins p v
  unfolding begins ◌and◌
  begins_in n r e l h = rw (← e, le-leb n (length v) l) h

  pub begins_out : (n : ℕ) → n ≡ length p → length v < n → false ≡ begins p v
  unfolding begins ◌and◌
  begins_out n e l = rw (← e, lt-leb n (length v) l)

  pub ends_in : (m n from : ℕ) (r : Bool) → m ≡ length v → n ≡ length p → from ≡ m - n → n ≤ m → r ≡ same p (take (m - from) (drop from v)) → r ≡ ends p v
  unfolding ends ◌and◌
  ends_in m n from r a b c l h =
      let q : length v - length p ≡ from = omega arith in
      rw (le-leb (length p) (length v) (omega arith), q) (h ∙ ap (same p) (take_all (m - from) (drop from v) (omega (arith, length-drop from v))))

  pub ends_out : length v < length p → false ≡ ends p v
  unfolding ends ◌and◌
  ends_out l = rw (lt-leb (length p) (length v) l)

module _ (t : Str) where
  pub no_first : length t ≡ 0 → false ≡ star_first t
  no_first e = let z : get_or t 0 0 ≡ 0 = get_or-eq_default t 0 (omega arith) in rw z

  pub no_last : length t ≡ 0 → false ≡ star_last t
  no_last e = let z : get_or t (length t - 1) 0 ≡ 0 = get_or-eq_default t 0 (omega arith) in rw z

  some_byte : (b : Bool) → (length t ≡ 0 → false ≡ b) → b ≡ true → 0 < length t
  some_byte b none h = by (eqb (length t) 0) (λ z. clash h (sym (none (eqb-true _ _ z)))) (λ z. let n = eqb-false (length t) 0 z in omega (arith, n))

  pub first_inside : star_first t ≡ true → 0 < length t
  first_inside h = some_byte (star_first t) no_first h

  pub last_inside : star_last t ≡ true → 0 < length t
  last_inside h = some_byte (star_last t) no_last h
