-- The whole lines of a text, and that reading in parts hands out its lines.
use Prim.Native.Nat.{ℕ, zero, suc, ◌+◌, ◌≤◌, ◌<◌}
use native.Mathlib.Omega.{arith}
use native.Mathlib.Numerals.{add-one}
use borrow.Author.Tests.{lt-ltb, ltb-true}
use mathlib.Core.Path.{◌≡◌, refl, sym, ap, ◌∙◌}
use mathlib.Core.Bool.{false}
use mathlib.Core.List.{List, [], ◌∷◌, ◌++◌, append_assoc, append-nil}
use lib.Dec.{eqb, ltb}
use lib.ListN.{length, take, drop, get_or, take-append-drop}
use lib.Seq.{take-suc, take-length, length-take-le}
use Rattle.text.specs.Test.{whether◌then◌else◌}
use Rattle.text.specs.String.{Str, joined}
use Rattle.text.proofs.Tests.{by}
use Rattle.table_line.specs.Lines.{lines, onto}
use Rattle.cli_parts.specs.Parts.{whole_length, lines_of}

-- ---- one byte more

whole_ended : (s : Str) → whole_length (s ++ (10 ∷ [])) ≡ suc (length s)
unfolding whole_length whether◌then◌else◌
whole_ended [] = refl
whole_ended (x ∷ s) = rw (whole_ended s, lt-ltb 0 (suc (length s)) (omega arith))

whole_open : (s : Str) (b : ℕ) → eqb b 10 ≡ false → whole_length (s ++ (b ∷ [])) ≡ whole_length s
unfolding whole_length whether◌then◌else◌
whole_open [] b e = rw e
whole_open (x ∷ s) b e = rw (whole_open s b e)

module _ (s : Str) (n : ℕ) (i : n < length s) where
  longer : take (n + 1) s ≡ take n s ++ (get_or s n 0 ∷ [])
  longer = rw add-one (take-suc s n 0 i)

  pub whole_here : get_or s n 0 ≡ 10 → whole_length (take (n + 1) s) ≡ n + 1
  whole_here e =
      let k : suc (length (take n s)) ≡ n + 1 = omega (arith, length-take-le n s (omega arith)) in
      rw (longer, e) (whole_ended (take n s) ∙ k)

  pub whole_before : eqb (get_or s n 0) 10 ≡ false → whole_length (take (n + 1) s) ≡ whole_length (take n s)
  whole_before e = rw longer (whole_open (take n s) (get_or s n 0) e)

pub whole_all : (s : Str) → whole_length (take (length s) s) ≡ whole_length s
whole_all s = rw (take-length s)

pub whole_none : whole_length [] ≡ 0
unfolding whole_length
whole_none = refl

-- ---- lines

pub whole_within : (s : Str) → whole_length s ≤ length s
unfolding whole_length whether◌then◌else◌
whole_within [] = omega arith
whole_within (b ∷ s) =
    let i = whole_within s in
    by (ltb 0 (whole_length s)) (λ u. rw u (omega arith)) (λ u. by (eqb b 10) (λ v. rw (u, v) (omega arith)) (λ v. rw (u, v) (omega arith)))

-- a byte before lines, of which there is one
onto_more : (b c : ℕ) (s : Str) (ls : List Str) → onto (eqb b 10) b (lines (c ∷ s) ++ ls) ≡ onto (eqb b 10) b (lines (c ∷ s)) ++ ls
unfolding lines onto
onto_more b c s ls =
    by (eqb b 10) (λ u. rw u)
    (λ u. by (eqb c 10) (λ v. rw (u, v)) (λ v. rw (u, v) (go (lines s))))
  where
    go : (ms : List Str) → onto false b (onto false c ms ++ ls) ≡ onto false b (onto false c ms) ++ ls
    go [] = unfold onto in refl
    go (m ∷ ms) = unfold onto in refl

first_taken : (n : ℕ) (b : ℕ) (s more : Str) → 0 < n → 0 < length s
    → lines (take n s ++ more) ≡ lines (take n s) ++ lines more → lines (b ∷ (take n s ++ more)) ≡ lines (b ∷ take n s) ++ lines more
unfolding lines
first_taken n b [] more h k e = absurd (omega arith)
first_taken zero b (c ∷ s) more h k e = absurd (omega arith)
first_taken (suc n) b (c ∷ s) more h k e = rw e (onto_more b c (take n s) (lines more))

-- after whole lines the next line begins
pub whole_lines : (s more : Str) → lines (take (whole_length s) s ++ more) ≡ lines (take (whole_length s) s) ++ lines more
unfolding whole_length whether◌then◌else◌
whole_lines [] more = unfold lines in refl
whole_lines (b ∷ s) more =
    by (ltb 0 (whole_length s))
    (λ u. let h = ltb-true _ _ u in rw u (first_taken (whole_length s) b s more h (omega (arith, whole_within s)) (whole_lines s more)))
    (λ u. by (eqb b 10) (λ v. rw (u, v) (unfold lines onto in rw v)) (λ v. rw (u, v) (unfold lines in refl)))

-- the lines that are handed out are those of all parts together
pub parts_lines : (ps : List Str) (kept : Str) → lines_of kept ps ≡ lines (kept ++ joined (λ (p : Str). p) ps)
unfolding lines_of joined
parts_lines [] kept = ap lines (sym (append-nil kept))
parts_lines (p ∷ ps) kept =
    let t = kept ++ p in
    let w = whole_length t in
    let more = joined (λ (q : Str). q) ps in
    ap (λ (ls : List Str). lines (take w t) ++ ls) (parts_lines ps (drop w t)) ∙ sym (whole_lines t (drop w t ++ more))
    ∙ ap lines (sym (append_assoc (take w t) (drop w t) more) ∙ ap (λ (z : Str). z ++ more) (take-append-drop w t) ∙ append_assoc kept p more)
