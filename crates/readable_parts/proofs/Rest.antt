-- A path with which a frame or a line ends: it is made in the part of the buffer where it is to stand.
use mathlib.Core.Path.{◌≡◌, refl, sym, ap, ◌∙◌}
use mathlib.Core.Bool.{true, false}
use mathlib.Core.List.{List, [], ◌++◌, append-nil}
use mathlib.Core.Option.{Option, none, some}
use Prim.Native.Nat.{ℕ, ◌+◌, ◌-◌, ◌≤◌, ◌<◌}
use native.Mathlib.Omega.{arith}
use borrow.Author.Tests.{lt-ltb, le-ltb, le-leb, leb-true}
use lib.Dec.{leb}
use lib.ListN.{length, take, drop, length-drop, drop_of_length-le}
use lib.Seq.{take_all, drop-drop}
use Rattle.limits.specs.Sizes.{max_path_text}
use Rattle.text.specs.Test.{whether◌then◌else◌}
use Rattle.text.specs.String.{Str}
use Rattle.text.specs.Frame.{unread}
use Rattle.text.specs.Fill.{put}
use Rattle.text.proofs.Tests.{by}
use Rattle.path_read.specs.Calls.{answer, lent}
use Rattle.path_read.proofs.Longest.{bytes_bound, text_bound}
use Rattle.path_read.specs.Filled.{Filled}
use Rattle.path_read.specs.Filled.{Length, Refused}
use Rattle.path_read.specs.Steps.{reached}
use Rattle.readable_parts.specs.Parts.{rest, of_rest}
use Rattle.readable_parts.specs.declared.Direction.{Direction}
use Rattle.readable_parts.specs.declared.Direction.TheVariants.{Show, Pack}
use Rattle.readable_parts.specs.Steps.{Puts, puts, path_for}

-- what a call on path text answers
module _ (out : List ℕ) (o : Option Str) (w : Filled) (i : w ≡ answer out o) where
  pub answered : (n : ℕ) → w ≡ Length n → (s : Str) × (o ≡ some s) × (n ≡ length s) × (n ≤ length out) × (lent out o ≡ put out 0 s)
  unfolding answer lent whether◌then◌else◌
  answered n e = go o refl (sym e ∙ i)
    where
      go : (x : Option Str) → o ≡ x → Length n ≡ answer out x → (s : Str) × (o ≡ some s) × (n ≡ length s) × (n ≤ length out) × (lent out o ≡ put out 0 s)
      go none j h = let z : ◌≡◌ {A = ℕ} 0 1 = cc in absurd (omega arith)
      go (some s) j h =
          by (leb (length s) (length out))
          (λ u. let h' : Length n ≡ Length (length s) = h ∙ rw u in
          let k : n ≡ length s = cc in (s, j, k, omega (arith, leb-true (length s) (length out) u), rw (j, u)))
          (λ u. let h' : Length n ≡ Refused 23 = h ∙ rw u in let z : ◌≡◌ {A = ℕ} 0 1 = cc in absurd (omega arith))

  pub unanswered : ((s : Str) → o ≡ some s → length s ≤ length out) → (k : ℕ) → w ≡ Refused k → o ≡ none
  unfolding answer whether◌then◌else◌
  unanswered b k e = go o refl (sym e ∙ i)
    where
      go : (x : Option Str) → o ≡ x → Refused k ≡ answer out x → o ≡ none
      go none j h = j
      go (some s) j h =
          let h' : Refused k ≡ Length (length s) = h ∙ rw (le-leb _ _ (b s j)) in
          let z : ◌≡◌ {A = ℕ} 0 1 = cc in absurd (omega arith)

-- ---- the part of a list from `at` on

abbrev from : List ℕ → ℕ → List ℕ
from s at = take (length s - at) (drop at s)

pub tail : (s : List ℕ) (at : ℕ) → at ≤ length s → from s at ≡ drop at s
tail s at h = take_all (length s - at) (drop at s) (omega (arith, length-drop at s))

put_front : (d w : List ℕ) → put d 0 w ≡ w ++ drop (length w) d
unfolding put
put_front d w = let z : 0 + length w ≡ length w = omega arith in rw z

-- d, where the start of that part was filled
pub part_put : (d : List ℕ) (to : ℕ) (w : List ℕ) → to ≤ length d → take to d ++ (put (from d to) 0 w ++ drop (length d - to) (drop to d)) ≡ put d to w
part_put d to w h =
    let l : length (drop to d) ≤ length d - to = omega (arith, length-drop to d) in
    let a : drop (length d - to) (drop to d) ≡ [] = drop_of_length-le (drop to d) l in
    let b : put (from d to) 0 w ≡ w ++ drop (to + length w) d = ap (λ (z : List ℕ). put z 0 w) (tail d to h) ∙ put_front (drop to d) w ∙ ap (λ (z : List ℕ). w ++ z) (drop-drop (length w) to d) in
    ap (λ (z : List ℕ). take to d ++ (put (from d to) 0 w ++ z)) a ∙ ap (λ (z : List ℕ). take to d ++ z) (append-nil (put (from d to) 0 w) ∙ b) ∙ (unfold put in refl)

-- ---- what g makes of the rest

pub rest_past : (g : Str → Option Str) (s : Str) (at : ℕ) → length s ≤ at → of_rest g s at ≡ unread
unfolding of_rest whether◌then◌else◌
rest_past g s at h = rw (le-ltb _ _ h)

module _ (g : Str → Option Str) (s : Str) (at : ℕ) (i : at < length s) where
  rest_is : (o : Option Str) → g (from s at) ≡ o → of_rest g s at ≡ rest o (length s)
  unfolding of_rest whether◌then◌else◌
  rest_is o e = let k : g (drop at s) ≡ o = rw (tail s at (omega arith)) at e in rw (lt-ltb _ _ i, k)

  module _ (d : List ℕ) (to most : ℕ) (h : to + most ≤ length d) (b : (t w : Str) → g t ≡ some w → length w ≤ most) (r : Filled) (e : r ≡ answer (from d to) (g (from s at))) where
    room : length (from d to) ≡ length d - to
    room = ap length (tail d to (omega arith)) ∙ length-drop to d

    pub rest_stops : (k : ℕ) → r ≡ Refused k → of_rest g s at ≡ unread
    unfolding rest
    rest_stops k f = rest_is none (unanswered (from d to) (g (from s at)) r e (λ w j. omega (arith, b (from s at) w j, room)) k f)

    module _ (n : ℕ) (f : r ≡ Length n) where
      pub rest_size : n ≤ most
      rest_size = let a = answered (from d to) (g (from s at)) r e n f in omega (arith, a.2, b (from s at) a.0 a.1)

      pub rest_puts : (p : List ℕ) → p ≡ lent (from d to) (g (from s at)) → Puts most (of_rest g) s at d to (take to d ++ (p ++ drop (length d - to) (drop to d))) (reached (length s) (to + n))
      unfolding rest
      rest_puts p j =
          let a = answered (from d to) (g (from s at)) r e n f in
          let k : take to d ++ (p ++ drop (length d - to) (drop to d)) ≡ put d to a.0 =
          ap (λ (z : List ℕ). take to d ++ (z ++ drop (length d - to) (drop to d))) (j ∙ a.4) ∙ part_put d to a.0 (omega arith) in
          puts {to = to} {end = to + n} (rest_is (some a.0) a.1) (record { ends = omega (arith, a.2); same = k }) (b (from s at) a.0 a.1) (omega arith)

pub path_bound : (d : Direction) (t w : Str) → path_for d t ≡ some w → length w ≤ max_path_text
path_bound Pack t w e = omega (arith, bytes_bound t w e)
path_bound Show t w e = text_bound t w e
