-- Figures added place by place.
use Prim.Native.Nat.{ℕ, ◌+◌, ◌-◌, ◌^◌, ◌≤◌, ◌<◌}
use native.Mathlib.Omega.{arith}
use native.Mathlib.Numerals.{add-one}
use borrow.Author.Tests.{lt-ltb, le-ltb, le-leb, lt-leb}
use native.Mathlib.Decide.{dec_lt}
use lib.Dec.{leb}
use mathlib.Core.Bool.{true, false}
use mathlib.Core.Path.{◌≡◌, refl, sym, ◌∙◌}
use mathlib.Core.List.{List, [], ◌∷◌, ◌++◌, append-nil}
use lib.ListN.{length, take, drop, get_or, set, length-set, take-append-drop, drop_of_length-le}
use lib.Seq.{drop-cons, take-suc-set, take_all, drop-set-lt, append_snoc}
use Rattle.text.specs.Test.{whether◌then◌else◌}
use Rattle.season_sum.specs.Reading.{fits}
use Rattle.season_sum.specs.Adding.{adding, sums_of}
use Rattle.season_sum.specs.Outcome.{Outcome}
use Rattle.season_sum.specs.Outcome.{Good, TooLarge}

pub sum_fits : (a b : ℕ) → a < 2 ^ 64 → leb b (18446744073709551615 - a) ≡ fits (a + b)
sum_fits a b h = go (dec_lt (a + b) (2 ^ 64))
  where
    go : Dec (a + b < 2 ^ 64) → leb b (18446744073709551615 - a) ≡ fits (a + b)
    go (yes l) = rw (le-leb b (18446744073709551615 - a) (omega arith), lt-ltb _ _ l)
    go (no l) = rw (lt-leb b (18446744073709551615 - a) (omega arith), le-ltb (a + b) (2 ^ 64) (omega arith))

-- the first i sums are made; the others are as they were
pub record Adding (ms ns : List ℕ) (i : ℕ) (out : List ℕ) : Type 0 where
  pub answer : adding 1 ms ns ≡ adding (i + 1) (drop i out) (drop i ns)
  pub stored : sums_of ms ns ≡ take i out ++ sums_of (drop i out) (drop i ns)
  pub long : length out ≡ length ms

-- the answer r, and what is left in the array
abbrev Answers : List ℕ → List ℕ → List ℕ → Outcome → Type 0
Answers ms ns out r = (r ≡ adding 1 ms ns) × (out ≡ sums_of ms ns)

pub adding_start : (ms ns : List ℕ) → Adding ms ns 0 ms
adding_start ms ns = record { answer = refl; stored = refl; long = refl }

module _ (ms ns : List ℕ) (i : ℕ) (out : List ℕ) (g : Adding ms ns i out) where
  pub adding_done : length ms ≤ i → Answers ms ns out Good
  unfolding adding sums_of
  adding_done h =
      let e : drop i out ≡ [] = drop_of_length-le out {i = i} (omega (arith, g.long)) in
      (sym (g.answer ∙ rw e), sym (g.stored ∙ rw (e, take_all i out (omega (arith, g.long))) (append-nil out)))

  module _ (h : i < length ms) (k : i < length ns) where
    here : drop i out ≡ get_or out i 0 ∷ drop (i + 1) out
    here = rw add-one (drop-cons out i 0 (omega (arith, g.long)))

    figure : drop i ns ≡ get_or ns i 0 ∷ drop (i + 1) ns
    figure = rw add-one (drop-cons ns i 0 k)

    pub adding_stops : fits (get_or out i 0 + get_or ns i 0) ≡ false → Answers ms ns out (TooLarge (i + 1))
    unfolding adding sums_of whether◌then◌else◌
    adding_stops t = (sym (g.answer ∙ rw (here, figure, t)), sym (g.stored ∙ rw (here, figure, t) (rw (← here) (take-append-drop i out))))

    pub adding_more : fits (get_or out i 0 + get_or ns i 0) ≡ true → Adding ms ns (i + 1) (set out i (get_or out i 0 + get_or ns i 0))
    unfolding adding sums_of whether◌then◌else◌
    adding_more t =
        let a : drop (i + 1) (set out i (get_or out i 0 + get_or ns i 0)) ≡ drop (i + 1) out = drop-set-lt (i + 1) out i _ (omega arith) in
        let b : take (i + 1) (set out i (get_or out i 0 + get_or ns i 0)) ≡ take i out ++ ((get_or out i 0 + get_or ns i 0) ∷ []) = rw add-one (take-suc-set out i _ (omega (arith, g.long))) in
        record {
          answer = g.answer ∙ rw (here, figure, t, a);
          stored = g.stored ∙ rw (here, figure, t, a, b) (sym (append_snoc (take i out) _ _));
          long = simp length-set g.long;
        }
