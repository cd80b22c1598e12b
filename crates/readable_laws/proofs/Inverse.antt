-- From parts to forms: where each part comes back the same, so do the parts of a form one after another.
use mathlib.Core.Path.{◌≡◌, refl, sym, ◌∙◌}
use mathlib.Core.Bool.{Bool, true, false, ◌||◌, not}
use mathlib.Core.List.{[], ◌∷◌, ◌++◌, append-nil}
use Prim.Native.Nat.{ℕ, ◌≤◌}
use borrow.Author.Tests.{not-true}
use lib.Dec.{eqb}
use lib.ListN.{length, drop}
use Rattle.text.specs.Test.{◌and◌}
use Rattle.text.specs.String.{Str}
use Rattle.text.specs.Frame.{got, and_then, Reader, ◌>>=◌, ret}
use Rattle.text.proofs.Tests.{by, and_l, and_r}
use Rattle.text.proofs.Codec.{then_got, got_move, Took, took_both, took_none, Gives, then_gives}
use Rattle.readable_parts.specs.Parts.{Parts, part_of}
use Rattle.readable_lines.specs.Form.{parts}

-- what r reads of a source that passes P is read back by r'
abbrev pub Back : (Str → Type 0) → Reader Str → Reader Str → Type 0
Back P r r' = (s : Str) (at : ℕ) (b : Str) (t : ℕ) → P s → at ≤ length s → r s at ≡ got b t → (w : Str) × Took s at w t × ((f : Str) (k : ℕ) (rest : Str) → drop k f ≡ b ++ rest → Gives (r' f k) f w rest)

-- and so where it stands last
abbrev pub BackLast : (Str → Type 0) → Reader Str → Reader Str → Type 0
BackLast P r r' = (s : Str) (at : ℕ) (b : Str) (t : ℕ) → P s → at ≤ length s → r s at ≡ got b t → (w : Str) × Took s at w t × ((f : Str) (k : ℕ) → drop k f ≡ b → Gives (r' f k) f w [])

-- the time and the path
abbrev pub is_last : ℕ → Bool
is_last c = eqb c 84 || eqb c 80

-- they stand last only
unfoldable pub proper : Str → Bool
proper [] = true
proper (c ∷ []) = true
proper (c ∷ d ∷ cs) = not (is_last c) and proper (d ∷ cs)

module _ (P : Str → Type 0) (p q : Parts) (each : (c : ℕ) → is_last c ≡ false → Back P (part_of p c) (part_of q c)) (last : (c : ℕ) → is_last c ≡ true → BackLast P (part_of p c) (part_of q c)) where
  any_last : (c : ℕ) → BackLast P (part_of p c) (part_of q c)
  any_last c s at b t x l e =
      by (is_last c) (λ u. last c u s at b t x l e)
      (λ u. let m = each c u s at b t x l e in (m.0, m.1, λ f k i. m.2 f k [] (i ∙ sym (append-nil b))))

  pub parts_back : (form : Str) → proper form ≡ true → (s : Str) (at : ℕ) (b : Str) (t : ℕ) → P s → at ≤ length s → parts p form s at ≡ got b t
      → (w : Str) × Took s at w t × ((f : Str) (k : ℕ) → drop k f ≡ b → Gives (parts q form f k) f w [])
  unfolding parts ◌>>=◌ ret proper
  parts_back [] h s at b t x l e =
      got_move (λ c u. (w : Str) × Took s at w u × ((f : Str) (k : ℕ) → drop k f ≡ c → Gives (got [] k) f w [])) e
      ([], took_none s at l, λ f k i. (k, refl, i))
  parts_back (c ∷ []) h s at b t x l e =
      let a = then_got (part_of p c s at) _ e in
      let m = any_last c s at a.0 a.1 x l a.2 in
      got_move
      (λ d u. (w : Str) × Took s at w u × ((f : Str) (k : ℕ) → drop k f ≡ d → Gives (and_then (part_of q c f k) (λ v z. got (v ++ []) z)) f w [])) a.3 (
        m.0 ++ [],
        took_both s at a.1 a.1 m.0 [] m.1 (took_none s a.1 m.1.fits),
        λ f k i. then_gives (part_of q c f k) _ f m.0 _ [] [] (m.2 f k (i ∙ append-nil a.0)) (λ z j. (z, refl, j)),
      )
  parts_back (c ∷ d ∷ cs) h s at b t x l e =
      let a = then_got (part_of p c s at) _ e in
      let n = then_got (parts p (d ∷ cs) s a.1) _ a.3 in
      let u : is_last c ≡ false = not-true (is_last c) (and_l _ _ h) in
      let m = each c u s at a.0 a.1 x l a.2 in
      let o = parts_back (d ∷ cs) (and_r (not (is_last c)) _ h) s a.1 n.0 n.1 x m.1.fits n.2 in
      got_move
      (λ g z. (w : Str) × Took s at w z × ((f : Str) (k : ℕ) → drop k f ≡ g → Gives (and_then (part_of q c f k) (λ v y. and_then (parts q (d ∷ cs) f y) (λ v' y'. got (v ++ v') y'))) f w [])) n.3 (
        m.0 ++ o.0,
        took_both s at a.1 n.1 m.0 o.0 m.1 o.1,
        λ f k i. then_gives (part_of q c f k) _ f m.0 _ n.0 [] (m.2 f k n.0 i)
            (λ y j. then_gives (parts q (d ∷ cs) f y) _ f o.0 _ [] [] (o.2 f y j) (λ z v. (z, refl, v))),
      )

-- reading ends within what is read
module _ (p : Parts) (stays : (c : ℕ) (s : Str) (at : ℕ) (b : Str) (t : ℕ) → at ≤ length s → part_of p c s at ≡ got b t → t ≤ length s) where
  pub parts_inside : (form s : Str) (at : ℕ) (b : Str) (t : ℕ) → at ≤ length s → parts p form s at ≡ got b t → t ≤ length s
  unfolding parts ◌>>=◌ ret
  parts_inside [] s at b t l e = got_move (λ c u. u ≤ length s) e l
  parts_inside (c ∷ cs) s at b t l e =
      let a = then_got (part_of p c s at) _ e in
      let n = then_got (parts p cs s a.1) _ a.3 in
      got_move (λ d u. u ≤ length s) n.3 (parts_inside cs s a.1 n.0 n.1 (stays c s at a.0 a.1 l a.2) n.2)
