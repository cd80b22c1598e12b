-- Tests and choices once their test is decided: the ruleset `choices` for a function's tactic attribute.
use Rattle.std.proofs.Common.{◌≡◌, ℕ, Bool, true, false, eq-eqb}
use borrow.Author.Tests.{ne_eqb, lt-ltb, le-ltb}
use Rattle.text.specs.Test.{◌and◌, ◌or◌, whether◌then◌else◌}

pub and_true : {a : Bool} (b : Bool) → a ≡ true → (a and b) ≡ b
unfolding ◌and◌
and_true b h = rw h

pub and_false : {a : Bool} (b : Bool) → a ≡ false → (a and b) ≡ false
unfolding ◌and◌
and_false b h = rw h

pub or_true : {a : Bool} (b : Bool) → a ≡ true → (a or b) ≡ true
unfolding ◌or◌
or_true b h = rw h

pub or_false : {a : Bool} (b : Bool) → a ≡ false → (a or b) ≡ b
unfolding ◌or◌
or_false b h = rw h

module _ {A : Type 0} {t : Bool} where
  pub when_true : (x y : A) → t ≡ true → (whether t then x else y) ≡ x
  unfolding whether◌then◌else◌
  when_true x y h = rw h

  pub when_false : (x y : A) → t ≡ false → (whether t then x else y) ≡ y
  unfolding whether◌then◌else◌
  when_false x y h = rw h

pub ruleset choices = (and_true, and_false, or_true, or_false, when_true, when_false, eq-eqb, ne_eqb, lt-ltb, le-ltb)
