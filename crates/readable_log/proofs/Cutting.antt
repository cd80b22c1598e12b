-- The first line of a text, cut off and converted by itself.
use Prim.Native.Nat.{ℕ, suc, ◌+◌, ◌-◌, ◌≤◌, ◌<◌}
use native.Mathlib.Omega.{arith}
use mathlib.Core.Path.{◌≡◌, refl, sym, ◌∙◌}
use mathlib.Core.Bool.{true, false}
use mathlib.Core.List.{List, [], ◌∷◌}
use mathlib.Core.Option.{Option, none, some}
use borrow.Author.Tests.{ltb-true, ltb-false}
use lib.Dec.{eqb, ltb}
use lib.ListN.{length, take, drop, length-drop}
use lib.Seq.{take_all, drop-drop, drop-length, length-take-le}
use Rattle.limits.specs.Sizes.{max_log_line}
use Rattle.readable_parts.specs.declared.Direction.{Direction}
use Rattle.readable_parts.specs.declared.Direction.TheVariants.{Show, Pack}
use Rattle.readable_lines.specs.declared.Source.TheVariants.{Log}
use Rattle.text.specs.Test.{whether◌then◌else◌}
use Rattle.text.specs.String.{Str}
use Rattle.text.specs.Frame.{part}
use Rattle.text.proofs.Tests.{by}
use Rattle.text_search.specs.Search.{until, is}
use Rattle.text_search.proofs.Searching.{until_fits}
use Rattle.table_line.specs.Lines.{lines, onto}
use Rattle.path_read.specs.declared.reader.Stored.{Stored}
use Rattle.std.specs.Prelude.{Some, None}
use Rattle.path_read.specs.Steps.{MaybeStored, reached}
use Rattle.readable_lines.specs.Lines.{shown_for, shown_log_line, line_by}
use Rattle.readable_lines.specs.Steps.{Lays, lays, fails}
use Rattle.readable_lines.proofs.Lining.{unended_line}
use Rattle.readable_lines.proofs.Stored.{laid_to, laid_not}
use Rattle.readable_laws.proofs.LogLines.{shown_line_good, good_line_short}
use Rattle.readable_log.specs.Run.{overlong, LineEnds}

-- ---- where a line ends

ended : (s : Str) → until (is 10) s < length s → lines s ≡ take (suc (until (is 10) s)) s ∷ lines (drop (suc (until (is 10) s)) s)
unfolding lines onto until whether◌then◌else◌
ended [] h = absurd (omega arith)
ended (x ∷ s) h = by (eqb x 10) (λ u. rw u) (λ u. let h' = rw u at h in let i = ended s (omega arith) in rw (u, i))

module _ (text : Str) (from : ℕ) (h : from < length text) (stop : ℕ) (e : stop ≡ from + until (is 10) (drop from text)) where
  pub ends_after : stop < length text → LineEnds text from (stop + 1)
  ends_after l =
      let k : stop + 1 - from ≡ suc (until (is 10) (drop from text)) = omega arith in
      let m : from + suc (until (is 10) (drop from text)) ≡ stop + 1 = omega arith in
      let i = ended (drop from text) (omega (arith, length-drop from text)) in
      record { past = omega arith; inside = omega arith; first = rw k (i ∙ rw (drop-drop (suc (until (is 10) (drop from text))) from text, m)) }

  pub ends_open : length text ≤ stop → LineEnds text from stop
  ends_open l =
      let s = drop from text in
      let n = length-drop from text in
      let f = until_fits (is 10) s in
      let z : stop ≡ length text = omega arith in
      let i = unended_line s (omega arith) (omega arith) in
      record {
        past = omega arith;
        inside = omega arith;
        first = rw z (rw (take_all (length text - from) s (omega arith), drop-length text) (i ∙ (unfold lines in refl)));
      }

-- ---- one line

-- a line of a text is one line by itself
alone : (s l : Str) (ls : List Str) → lines s ≡ l ∷ ls → lines l ≡ l ∷ []
unfolding lines onto
alone [] l ls e = let z : ◌≡◌ {A = ℕ} 0 1 = cc in absurd (omega arith)
alone (b ∷ s) l ls e =
    by (eqb b 10)
    (λ u. let i : (b ∷ []) ∷ lines s ≡ l ∷ ls = rw u at e in let j : l ≡ b ∷ [] = cc in rw (j, u))
    (λ u. go (λ m ms k. alone s m ms k) u (lines s) refl (rw u at e))
  where
    go : ((m : Str) (ms : List Str) → lines s ≡ m ∷ ms → lines m ≡ m ∷ []) → eqb b 10 ≡ false → (ms : List Str) → lines s ≡ ms → onto false b ms ≡ l ∷ ls → lines l ≡ l ∷ []
    go ih u [] k h =
        let i : (b ∷ []) ∷ [] ≡ l ∷ ls = (unfold onto in h) in
        let j : l ≡ b ∷ [] = cc in
        rw j (unfold lines onto in rw u)
    go ih u (m ∷ ms) k h =
        let i : (b ∷ m) ∷ ms ≡ l ∷ ls = (unfold onto in h) in
        let j : l ≡ b ∷ m = cc in
        let a : lines m ≡ m ∷ [] = ih m ms k in
        rw j (unfold lines onto in rw (u, a))

module _ (g : Str → Option Str) (text : Str) (from end : ℕ) (e : LineEnds text from end) where
  only : lines (part text from end) ≡ part text from end ∷ []
  only = alone (drop from text) (part text from end) (lines (drop end text)) e.first

  pub cut_fails : {d d' : List ℕ} → g (part text from end) ≡ none → Lays g text from d d' None
  cut_fails h = fails e.first h

  module _ {d d' : List ℕ} {q : MaybeStored} (c : Lays g (part text from end) 0 d d' q) where
    pub cut_unread : q ≡ None → Lays g text from d d' None
    cut_unread h =
        let u = laid_not c h in
        let i : u.0 ∷ u.1 ≡ part text from end ∷ [] = sym u.2 ∙ only in
        let j : u.0 ≡ part text from end = cc in
        fails e.first (rw j at u.3)

    pub cut_lays : {o : Stored} → q ≡ Some o → Lays g text from d d' (reached end o.end)
    cut_lays {o = o} h =
        let u = laid_to c h in
        let i : u.0 ∷ lines (drop o.next (part text from end)) ≡ part text from end ∷ [] = sym u.2 ∙ only in
        let j : u.0 ≡ part text from end = cc in
        lays {next = end} e.first (rw j at u.3) u.4 u.5 e.past e.inside

  pub cut_long : length (part text from end) ≡ end - from
  cut_long = length-take-le (end - from) (drop from text) (omega (arith, e.inside, length-drop from text))

-- ---- a line that is too long

too_long : (l : Str) → max_log_line < length l → (o : Option Str) → shown_log_line l ≡ o → o ≡ none
too_long l h none e = refl
too_long l h (some r) e = let q = shown_line_good l r e in absurd (omega (arith, good_line_short l q.0 q.1))

pub long_line : (d : Direction) (n : ℕ) → overlong d n ≡ true → (l : Str) → length l ≡ n → line_by Log d l ≡ none
unfolding overlong line_by shown_for shown_log_line
long_line Show n h l e = let k : max_log_line < n = ltb-true _ _ h in too_long l (omega arith) (shown_log_line l) refl
long_line Pack n h l e = absurd (let y : ◌≡◌ {A = ℕ} 0 1 = cc in omega arith)

pub short_line : (d : Direction) (n : ℕ) → overlong d n ≡ false → d ≡ Show → n ≤ max_log_line
unfolding overlong
short_line Show n h p = ltb-false max_log_line n h
short_line Pack n h p = grind arith
