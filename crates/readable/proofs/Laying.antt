-- Lines converted one after another.
use mathlib.Core.Path.{◌≡◌, refl, sym, ap, ◌∙◌}
use mathlib.Core.List.{List, [], ◌∷◌, ◌++◌, append_assoc, append-nil}
use mathlib.Core.Option.{Option, none, some}
use Prim.Native.Nat.{ℕ, ◌+◌, ◌-◌, ◌≤◌, ◌<◌}
use native.Mathlib.Omega.{arith}
use borrow.Author.Tests.{le-leb, lt-leb}
use lib.ListN.{length, take, drop, drop_of_length-le}
use Rattle.text.specs.Test.{whether◌then◌else◌}
use Rattle.text.specs.String.{Str}
use Rattle.text.specs.Fill.{put}
use Rattle.text.specs.Steps.{Wrote}
use Rattle.text.proofs.Filling.{wrote_long, wrote_more, wrote_nothing}
use Rattle.table_line.specs.Lines.{lines}
use Rattle.readable.specs.Texts.{onward, ending, storing, stored}
use Rattle.readable.specs.Ended as ended
use Rattle.readable_parts.proofs.Stored.{front}

module _ (g : Str → Option Str) (room n at : ℕ) (l : Str) (ls : List Str) where
  end_none : g l ≡ none → (ending g room n at (l ∷ ls) ≡ ended.Unread n) × (stored g room at (l ∷ ls) ≡ [])
  unfolding ending onward stored storing
  end_none e = (rw e, rw e)

  end_full : (w : Str) → g l ≡ some w → room - at < length w → (ending g room n at (l ∷ ls) ≡ ended.Full) × (stored g room at (l ∷ ls) ≡ [])
  unfolding ending onward stored storing whether◌then◌else◌
  end_full w e h = (rw (e, lt-leb _ _ h), rw (e, lt-leb _ _ h))

  end_some : (w : Str) → g l ≡ some w → length w ≤ room - at
      → (ending g room n at (l ∷ ls) ≡ ending g room (n + 1) (at + length w) ls) × (stored g room at (l ∷ ls) ≡ w ++ stored g room (at + length w) ls)
  unfolding ending onward stored storing whether◌then◌else◌
  end_some w e h = (rw (e, le-leb _ _ h), rw (e, le-leb _ _ h))

-- the lines before `from` were converted, so that `out` has come of d; the next line has that number, and is to be stored at `at`
pub record Laying (g : Str → Option Str) (text : Str) (d : List ℕ) (from at number : ℕ) (out : List ℕ) : Type 0 where
  pub so_far : Str
  pub ends : ending g (length d) 1 0 (lines text) ≡ ending g (length d) number at (lines (drop from text))
  pub same : stored g (length d) 0 (lines text) ≡ so_far ++ stored g (length d) at (lines (drop from text))
  pub wrote : Wrote d 0 so_far out at
  pub fits : at ≤ length d
  pub counts : number ≤ from + 1
  pub inside : from ≤ length text

module _ (g : Str → Option Str) (text : Str) (d : List ℕ) where
  pub laying_start : Laying g text d 0 0 1 d
  laying_start = record { so_far = []; ends = refl; same = refl; wrote = wrote_nothing d 0; fits = omega arith; counts = omega arith; inside = omega arith }

  module _ (from at number : ℕ) (out : List ℕ) (s : Laying g text d from at number out) where
    pub laying_long : length out ≡ length d
    laying_long = wrote_long d 0 s.so_far out at s.wrote (omega (arith, s.wrote.ends, s.fits))

    pub laying_stop : (l : Str) (ls : List Str) → lines (drop from text) ≡ l ∷ ls → g l ≡ none
        → (ended.Unread number ≡ ending g (length d) 1 0 (lines text)) × (out ≡ put d 0 (stored g (length d) 0 (lines text)))
    laying_stop l ls e i =
        let a = end_none g (length d) number at l ls i in
        let x : ending g (length d) 1 0 (lines text) ≡ ended.Unread number = s.ends ∙ ap (ending g (length d) number at) e ∙ a.0 in
        let y : stored g (length d) 0 (lines text) ≡ s.so_far = s.same ∙ ap (λ (m : List Str). s.so_far ++ stored g (length d) at m) e ∙ ap (λ (m : Str). s.so_far ++ m) a.1 ∙ append-nil s.so_far in
        (sym x, s.wrote.same ∙ ap (put d 0) (sym y))

    module _ (l w : Str) (next end : ℕ) (e : lines (drop from text) ≡ l ∷ lines (drop next text)) (i : g l ≡ some w) (z piece : List ℕ) (v : Wrote z 0 w piece end) where
      is_end : end ≡ length w
      is_end = omega (arith, v.ends)

      pub laying_full : length out - at < end → (ended.Full ≡ ending g (length d) 1 0 (lines text)) × (out ≡ put d 0 (stored g (length d) 0 (lines text)))
      laying_full h =
          let a = end_full g (length d) number at l (lines (drop next text)) w i (omega (arith, is_end, laying_long)) in
          let x : ending g (length d) 1 0 (lines text) ≡ ended.Full = s.ends ∙ ap (ending g (length d) number at) e ∙ a.0 in
          let y : stored g (length d) 0 (lines text) ≡ s.so_far = s.same ∙ ap (λ (m : List Str). s.so_far ++ stored g (length d) at m) e ∙ ap (λ (m : Str). s.so_far ++ m) a.1 ∙ append-nil s.so_far in
          (sym x, s.wrote.same ∙ ap (put d 0) (sym y))

      pub laying_turn : end ≤ length out - at → from < next → next ≤ length text → (out' : List ℕ) → out' ≡ put out at (take end piece) → Laying g text d next (at + end) (number + 1) out'
      laying_turn h k m out' o =
          let a = end_some g (length d) number at l (lines (drop next text)) w i (omega (arith, is_end, laying_long)) in
          let j : at + end ≡ at + length w = omega (arith, is_end) in
          let p : take end piece ≡ w = front z w piece end v in
          rw j
          (record {
            so_far = s.so_far ++ w;
            ends = s.ends ∙ ap (ending g (length d) number at) e ∙ a.0;
            same =
                s.same ∙ ap (λ (q : List Str). s.so_far ++ stored g (length d) at q) e ∙ ap (λ (q : Str). s.so_far ++ q) a.1
                ∙ sym (append_assoc s.so_far w (stored g (length d) (at + length w) (lines (drop next text))));
            wrote = wrote_more d 0 s.so_far out at s.wrote (omega (arith, s.wrote.ends, s.fits)) w out' (at + length w) (record { ends = refl; same = o ∙ ap (put out at) p });
            fits = omega (arith, is_end, laying_long, s.fits);
            counts = omega (arith, s.counts);
            inside = m;
          })

    pub laying_done : length text ≤ from → (ended.All at ≡ ending g (length d) 1 0 (lines text)) × (out ≡ put d 0 (stored g (length d) 0 (lines text)))
    laying_done h =
        let e : lines (drop from text) ≡ [] = ap lines (drop_of_length-le text h) ∙ no_lines in
        let x : ending g (length d) 1 0 (lines text) ≡ ended.All at = s.ends ∙ ap (ending g (length d) number at) e ∙ end_nil in
        let y : stored g (length d) 0 (lines text) ≡ s.so_far = s.same ∙ ap (λ (m : List Str). s.so_far ++ stored g (length d) at m) e ∙ ap (λ (m : Str). s.so_far ++ m) stored_nil ∙ append-nil s.so_far in
        (sym x, s.wrote.same ∙ ap (put d 0) (sym y))
      where
        no_lines : lines [] ≡ []
        no_lines = unfold lines in refl

        end_nil : ending g (length d) number at [] ≡ ended.All at
        end_nil = unfold ending in refl

        stored_nil : stored g (length d) at [] ≡ []
        stored_nil = unfold stored in refl
