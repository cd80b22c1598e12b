-- What a store holds in each slot after a text was put into one of them.
use mathlib.Core.Path.{◌≡◌, refl, sym, ap, ◌∙◌}
use mathlib.Core.List.{◌++◌, append_assoc}
use Prim.Native.Nat.{ℕ, ◌+◌, ◌-◌, ◌≤◌}
use native.Mathlib.Omega.{arith}
use lib.ListN.{length, take, drop, length-append}
use lib.Seq.{length-take-le, take_at, drop_at, drop-drop, take-append-le, take-take, drop-append-add}
use Rattle.limits.specs.Limits.{slot_length, store_length}
use Rattle.text.specs.String.{Str}
use Rattle.text.specs.Fill.{put}
use Rattle.rotation.specs.State.{slot_start, text_in}

module _ (d : Str) (at : ℕ) (s : Str) (h : at + length s ≤ length d) where
  front_long : length (take at d) ≡ at
  front_long = length-take-le at d (omega arith)

  -- what was put
  put_text : take (length s) (drop at (put d at s)) ≡ s
  unfolding put
  put_text = rw (drop_at (take at d) (s ++ drop (at + length s) d) at front_long) (take_at s _ (length s) refl)

  -- what stands before it
  put_before : (k : ℕ) → k ≤ at → take k (put d at s) ≡ take k d
  unfolding put
  put_before k i = take-append-le k (take at d) _ (omega (arith, front_long)) ∙ take-take k at d i

  -- what stands after it
  put_after : (k : ℕ) → at + length s ≤ k → drop k (put d at s) ≡ drop k d
  unfolding put
  put_after k i =
      let j : ℕ = k - (at + length s) in
      let e : k ≡ at + length s + j = omega arith in
      let l : length (take at d ++ s) ≡ at + length s = length-append (take at d) s ∙ ap (λ (n : ℕ). n + length s) front_long in
      let m : k ≡ length (take at d ++ s) + j = omega arith in
      let a : drop k ((take at d ++ s) ++ drop (at + length s) d) ≡ drop j (drop (at + length s) d) = ap (λ (n : ℕ). drop n ((take at d ++ s) ++ drop (at + length s) d)) m ∙ drop-append-add (take at d ++ s) (drop (at + length s) d) j in
      ap (drop k) (sym (append_assoc (take at d) s (drop (at + length s) d))) ∙ a ∙ drop-drop j (at + length s) d ∙ ap (λ (n : ℕ). drop n d) (sym e)

module _ (store text : Str) (long : store_length ≤ length store) (short : length text ≤ slot_length) where
  pub put_own : (slot : ℕ) → slot ≤ 1 → text_in (put store (slot_start slot) text) slot (length text) ≡ text
  unfolding text_in
  put_own slot h = put_text store (slot_start slot) text (omega arith)

  -- the other slot's text stays
  pub put_first : (len : ℕ) → len ≤ slot_length → text_in (put store (slot_start 1) text) 0 len ≡ text_in store 0 len
  unfolding text_in
  put_first len h = put_before store slot_length text (omega arith) len h

  pub put_second : (len : ℕ) → text_in (put store (slot_start 0) text) 1 len ≡ text_in store 1 len
  unfolding text_in
  put_second len = ap (take len) (put_after store 0 text (omega arith) slot_length (omega arith))
