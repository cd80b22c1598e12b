-- The figure of a line, digit after digit.
use Prim.Native.Nat.{ℕ, ◌+◌, ◌-◌, ◌/◌, ◌^◌, ◌≤◌, ◌<◌}
use native.Mathlib.Omega.{arith}
use native.Mathlib.Decide.{dec_lt}
use native.Mathlib.Numerals.{add-one}
use borrow.Author.Tests.{lt-ltb, le-ltb, le-leb, lt-leb, ne_eqb, leb-true, ltb-true}
use Rattle.text.proofs.Tests.{and_l, and_r, and_left, and_right}
use mathlib.Core.Path.{◌≡◌, ◌∙◌}
use mathlib.Core.Bool.{true, false}
use mathlib.Core.Option.{none}
use Rattle.std.specs.Prelude.{Some, None}
use Rattle.std.specs.Prelude.{Option as RustOption}
use lib.Dec.{leb, ltb}
use lib.ListN.{length, drop, get_or, drop_of_length-le}
use lib.Seq.{drop-cons}
use Rattle.text.specs.Test.{◌and◌, whether◌then◌else◌}
use Rattle.text.specs.Byte.{is_digit}
use Rattle.text.specs.String.{Str}
use Rattle.season_sum.specs.Reading.{fits, followed, continues, number_from, figure_of}
use Rattle.season_sum.specs.Steps.{Reads, ReadsNumber, number, bad}
use Rattle.season_sum.specs.declared.reading.Figure.{Figure}

-- ---- digits

-- what a digit is
pub record Digit (b : ℕ) : Type 0 where
  pub low : 48 ≤ b
  pub high : b ≤ 57

pub digit : (b : ℕ) → is_digit b ≡ true → Digit b
digit b h = record { low = leb-true 48 b (and_left (leb 48 b) (leb b 57) h); high = leb-true b 57 (and_right (leb 48 b) (leb b 57) h) }

-- ---- a digit after a number

module _ (n b : ℕ) where
  pub no_digit : is_digit b ≡ false → false ≡ continues n b
  unfolding continues ◌and◌
  no_digit h = rw h

  pub after_zero : is_digit b ≡ true → n ≡ 0 → false ≡ continues n b
  unfolding continues ◌and◌
  after_zero h z = rw (h, z)

  pub next_digit : is_digit b ≡ true → (n ≡ 0 → ⊥) → leb n ((18446744073709551615 - (b - 48)) / 10) ≡ continues n b
  unfolding continues ◌and◌
  next_digit h z = rw (h, lt-ltb 0 n (omega arith)) (go (dec_lt (followed n b) (2 ^ 64)))
    where
      go : Dec (followed n b < 2 ^ 64) → leb n ((18446744073709551615 - (b - 48)) / 10) ≡ fits (followed n b)
      go (yes l) = rw (le-leb n ((18446744073709551615 - (b - 48)) / 10) (omega arith), lt-ltb _ _ l)
      go (no l) = rw (lt-leb n ((18446744073709551615 - (b - 48)) / 10) (omega (arith, (digit b h).high)), le-ltb (followed n b) (2 ^ 64) (omega arith))

  -- the digit that may follow, and the number with it
  pub continued : continues n b ≡ true → Digit b × (followed n b < 2 ^ 64)
  unfolding continues
  continued h = (digit b (and_l (is_digit b) _ h), ltb-true (followed n b) (2 ^ 64) (and_r (ltb 0 n) _ (and_r (is_digit b) _ h)))

-- ---- the number from a position on

module _ (text : Str) (i v : ℕ) where
  pub number_none : length text ≤ i → number_from v (drop i text) ≡ none
  unfolding number_from
  number_none h = rw (drop_of_length-le text h)

  module _ (l : i < length text) where
    pub number_ends : (at n : ℕ) → at ≤ i → number_from n (drop at text) ≡ number_from v (drop i text) → get_or text i 0 ≡ 10 → ReadsNumber text at n (Some (record { value = v; next = i + 1 }))
    unfolding number_from whether◌then◌else◌
    number_ends at n p e h = number {r = record { value = v; next = i + 1 }} (e ∙ rw (drop-cons text i 0 l, h, add-one)) (omega arith) (omega arith)

    pub number_stops : (get_or text i 0 ≡ 10 → ⊥) → continues v (get_or text i 0) ≡ false → number_from v (drop i text) ≡ none
    unfolding number_from whether◌then◌else◌
    number_stops h c = rw (drop-cons text i 0 l, ne_eqb _ 10 h, c)

    pub number_more : (get_or text i 0 ≡ 10 → ⊥) → continues v (get_or text i 0) ≡ true → number_from v (drop i text) ≡ number_from (followed v (get_or text i 0)) (drop (i + 1) text)
    unfolding number_from whether◌then◌else◌
    number_more h c = rw (drop-cons text i 0 l, ne_eqb _ 10 h, c, add-one)

-- ---- the figure of the line at a position

module _ (text : Str) (at : ℕ) (l : at < length text) where
  pub figure_none : is_digit (get_or text at 0) ≡ false → Reads text at (figure_of (drop at text)) None
  unfolding figure_of whether◌then◌else◌
  figure_none h = bad (rw (drop-cons text at 0 l, h))

  figure_begins : is_digit (get_or text at 0) ≡ true → figure_of (drop at text) ≡ number_from (get_or text at 0 - 48) (drop (at + 1) text)
  unfolding figure_of whether◌then◌else◌
  figure_begins h = rw (drop-cons text at 0 l, h, add-one)

  pub figure_read : {r : RustOption Figure} → is_digit (get_or text at 0) ≡ true → Reads text (at + 1) (number_from (get_or text at 0 - 48) (drop (at + 1) text)) r → Reads text at (figure_of (drop at text)) r
  figure_read h (number {r} e p w) = number {r = r} (figure_begins h ∙ e) (omega arith) w
  figure_read h (bad e) = bad (figure_begins h ∙ e)
