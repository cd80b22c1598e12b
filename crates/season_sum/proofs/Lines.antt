-- The lines of a report read one after another.
use Prim.Native.Nat.{ℕ, zero, suc, ◌+◌, ◌-◌, ◌≤◌, ◌<◌}
use native.Mathlib.Omega.{arith}
use mathlib.Core.Path.{◌≡◌, refl, sym, ◌∙◌}
use mathlib.Core.List.{List, [], ◌∷◌}
use mathlib.Core.Option.{Option, none, some}
use Rattle.std.specs.Prelude.{Some, None}
use lib.ListN.{length, drop, set, length-drop, drop_of_length-le}
use Rattle.text.specs.String.{Str}
use Rattle.text.specs.Fill.{put}
use Rattle.text.proofs.Filling.{Pending, fill_start, fill_set, fill_done}
use Rattle.season_sum.specs.Reading.{figure_of, onward, reading, figures_of}
use Rattle.season_sum.specs.Steps.{ReadsFigure, number, bad}
use Rattle.season_sum.specs.Outcome.{Outcome}
use Rattle.season_sum.specs.Outcome.{Good, NoFigure, LineCount}
use Rattle.season_sum.specs.declared.reading.Figure.{Figure}

few_more : (n : ℕ) (f : Option (ℕ × Str)) → ((t : Str) → length (figures_of n t) ≤ n) → length (onward [] f (λ m t. m ∷ figures_of n t)) ≤ suc n
unfolding onward
few_more n none h = omega arith
few_more n (some p) h = omega (arith, h p.1)

pub few : (n : ℕ) (s : Str) → length (figures_of n s) ≤ n
unfolding figures_of
few zero s = omega arith
few (suc n) s = few_more n (figure_of s) (few n)

-- ---- one line

-- a line is there
pub reading_some : (n l : ℕ) (s : Str) → 0 < length s → reading (suc n) l s ≡ onward (NoFigure l) (figure_of s) (λ m t. reading n (l + 1) t)
unfolding reading
reading_some n l [] h = absurd (omega arith)
reading_some n l (b ∷ s) h = refl

reading_over : (l : ℕ) (s : Str) → 0 < length s → reading 0 l s ≡ LineCount l
unfolding reading
reading_over l [] h = absurd (omega arith)
reading_over l (b ∷ s) h = refl

-- ---- i of all lines, those before `at`, are read, and their figures stored

pub record Reading (text : Str) (d : List ℕ) (all at i : ℕ) (out : List ℕ) : Type 0 where
  pub within : at ≤ length text
  pub answer : reading all 1 text ≡ reading (all - i) (i + 1) (drop at text)
  pub stored : Pending d 0 (figures_of all text) out i (figures_of (all - i) (drop at text))

-- the answer r, and what is left in the array
abbrev Read : Str → List ℕ → ℕ → List ℕ → Outcome → Type 0
Read text d all out r = (r ≡ reading all 1 text) × (out ≡ put d 0 (figures_of all text))

pub reading_start : (text : Str) (d : List ℕ) (all : ℕ) → all ≤ length d → Reading text d all 0 0 d
reading_start text d all h =
    let e : all - 0 ≡ all = omega arith in
    record {
      within = omega arith;
      answer = rw e;
      stored = rw e (fill_start d 0 (figures_of all text) (omega (arith, few all text)));
    }

module _ (text : Str) (d : List ℕ) (all at i : ℕ) (out : List ℕ) (g : Reading text d all at i out) where
  rest_long : length (drop at text) ≡ length text - at
  rest_long = length-drop at text

  -- nothing more is stored
  stopped : {r : Outcome} → figures_of (all - i) (drop at text) ≡ [] → r ≡ reading (all - i) (i + 1) (drop at text) → Read text d all out r
  stopped e a = (a ∙ sym g.answer, (fill_done d 0 (figures_of all text) out i (rw e at g.stored)).1)

  pub reading_done : all ≤ i → length text ≤ at → Read text d all out Good
  unfolding reading figures_of
  reading_done h l =
      let e : all - i ≡ 0 = omega arith in
      stopped (rw e) (rw (e, drop_of_length-le text l))

  pub reading_long : all ≤ i → at < length text → Read text d all out (LineCount (i + 1))
  unfolding figures_of
  reading_long h l =
      let e : all - i ≡ 0 = omega arith in
      stopped (rw e) (rw e (sym (reading_over (i + 1) (drop at text) (omega (arith, rest_long)))))

  module _ (h : i < all) where
    one_more : all - i ≡ suc (all - (i + 1))
    one_more = omega arith

    pub reading_short : length text ≤ at → Read text d all out (LineCount (i + 1))
    unfolding reading figures_of figure_of onward
    reading_short l = stopped (rw (one_more, drop_of_length-le text l)) (rw (one_more, drop_of_length-le text l))

    module _ (l : at < length text) where
      next_line : reading (all - i) (i + 1) (drop at text) ≡ onward (NoFigure (i + 1)) (figure_of (drop at text)) (λ m t. reading (all - (i + 1)) (i + 1 + 1) t)
      next_line = rw one_more (reading_some _ _ _ (omega (arith, rest_long)))

      pub reading_stops : ReadsFigure text at None → Read text d all out (NoFigure (i + 1))
      unfolding figures_of onward
      reading_stops (bad e) = stopped (rw (one_more, e)) (rw (next_line, e))

      module _ (r : Figure) where
        next_figures : ReadsFigure text at (Some r) → figures_of (all - i) (drop at text) ≡ r.value ∷ figures_of (all - (i + 1)) (drop r.next text)
        unfolding figures_of onward
        next_figures (number e p w) = rw (one_more, e)

        pub reading_on : ReadsFigure text at (Some r) → Reading text d all r.next (i + 1) (set out i r.value)
        unfolding onward
        reading_on (number e p w) =
            record {
              within = w;
              answer = g.answer ∙ next_line ∙ rw e;
              stored = fill_set d 0 (figures_of all text) out i r.value _ (rw (next_figures (number e p w)) at g.stored);
            }
