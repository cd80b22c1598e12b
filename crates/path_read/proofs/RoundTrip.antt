-- Path text and path bytes: each is read to the good path that it spells, and they return to each other.
use mathlib.Core.Path.{◌≡◌, refl, sym, ap, ◌∙◌}
use mathlib.Core.Bool.{true, false}
use mathlib.Core.List.{[], ◌∷◌}
use mathlib.Core.Option.{Option, none, some, map}
use Prim.Native.Nat.{ℕ, ◌-◌, ◌≤◌}
use native.Mathlib.Omega.{arith}
use borrow.Author.Tests.{eq-eqb, ne_eqb, eqb-false, not-true}
use lib.Dec.{eqb, ltb}
use lib.ListN.{length, length-drop, length-append}
use Rattle.limits.specs.Limits.{max_elements}
use Rattle.text.specs.Test.{◌and◌, ◌or◌, whether◌then◌else◌, any}
use Rattle.text.specs.String.{Str, bytes, same, joined}
use Rattle.text.specs.Frame.{got}
use Rattle.text.proofs.Tests.{by, clash, same→≡, or_false_l, or_false_r}
use Rattle.text.proofs.Codec.{joined_nil}
use Rattle.path.specs.Path.{Elem, Path}
use Rattle.path.specs.Bytes.{path_bytes}
use Rattle.path.specs.Refusal.{unsized, elem_over, over_limit, stray_byte, misplaced, key_twice, good_path}
use Rattle.path.specs.Spells.{Spells, Reads, whole, read_bytes}
use Rattle.path.proofs.Bytes.{took_whole, whole_only, whole_good, bytes_reader}
use Rattle.path_read.specs.Text.{key_text, elem_text, path_text}
use Rattle.path_read.specs.TextReader.{elements, read_text}
use Rattle.path_read.specs.Calls.{bytes_for, text_for}
use Rattle.path_read.proofs.Sound.{elements_took}
use Rattle.path_read.proofs.Complete.{elements_gives}

-- ---- only the text of a good path is read

root_good : good_path [] ≡ true
unfolding good_path over_limit stray_byte misplaced key_twice any ◌or◌
root_good = refl

root_text : path_text [] ≡ bytes "/"
unfolding path_text
root_text = refl

-- text that was taken whole, and is not empty
taken : (s : Str) (q : Path) (t : ℕ) → eqb (length s) 0 ≡ false → elements s 0 ≡ got q t → t ≡ length s → s ≡ path_text q
unfolding path_text
taken s [] t n e l =
    let i : s ≡ joined elem_text [] = took_whole (joined elem_text) s [] t l (elements_took s [] t e) in
    let z : length s ≡ 0 = ap length (i ∙ joined_nil elem_text) in
    clash (eq-eqb (length s) 0 z) n
taken s (x ∷ q) t n e l = took_whole (joined elem_text) s (x ∷ q) t l (elements_took s (x ∷ q) t e)

text_only : (s : Str) (p : Path) → read_text s ≡ some p → Spells path_text s p
unfolding read_text whether◌then◌else◌
text_only s p e =
    by (same s (bytes "/"))
    (λ u. let e' = rw u at e in
    let i : [] ≡ p = cc in
    record { good = rw i at root_good; text = same→≡ s (bytes "/") u ∙ sym root_text ∙ ap path_text i })
    (λ u. by (eqb (length s) 0)
    (λ v. let e' = rw (u, v) at e in let z : ◌≡◌ {A = ℕ} 0 1 = cc in absurd (omega arith))
    (λ v. let e' = rw (u, v) at e in whole_only (λ z. elements z 0) path_text s p (λ q t i j. taken s q t v i j) e'))

-- ---- and that text is

module _ (p : Path) (g : good_path p ≡ true) where
  faultless : (over_limit p or stray_byte p or misplaced p or key_twice p) ≡ false
  unfolding good_path
  faultless = not-true _ g

  pub within_limits : over_limit p ≡ false
  within_limits = or_false_l _ _ faultless

  pub no_stray : stray_byte p ≡ false
  no_stray = or_false_l _ _ (or_false_r (over_limit p) _ faultless)

  pub no_key_twice : key_twice p ≡ false
  no_key_twice = or_false_r (misplaced p) _ (or_false_r (stray_byte p) _ (or_false_r (over_limit p) _ faultless))

-- an element's text has two bytes or more
elem_long : (x : Elem) → elem_over x ≡ false → 2 ≤ length (elem_text x)
unfolding elem_over unsized elem_text
elem_long x h =
    let n : length x.name ≡ 0 → ⊥ = eqb-false _ _ (or_false_l _ _ (or_false_l _ _ h)) in
    omega (arith, length-append x.name (joined key_text x.keys), n)

text_long : (x : Elem) (q : Path) → over_limit (x ∷ q) ≡ false → 2 ≤ length (joined elem_text (x ∷ q))
unfolding joined over_limit any
text_long x q h =
    let l = elem_long x (or_false_l _ _ (or_false_r (ltb max_elements (length (x ∷ q))) _ h)) in
    omega (arith, length-append (elem_text x) (joined elem_text q), l)

long_text : (s : Str) (p : Path) → 2 ≤ length s → whole s (elements s 0) ≡ some p → read_text s ≡ some p
unfolding read_text whether◌then◌else◌
long_text s p h e =
    let a : same s (bytes "/") ≡ false = by (same s (bytes "/")) (λ u. let l : length s ≡ 1 = ap length (same→≡ s (bytes "/") u) in absurd (omega arith)) (λ u. u) in
    rw (a, ne_eqb (length s) 0 (λ z. omega arith)) e

elements_whole : (p : Path) → good_path p ≡ true → whole (joined elem_text p) (elements (joined elem_text p) 0) ≡ some p
elements_whole p g =
    let s = joined elem_text p in
    let h = elements_gives p (within_limits p g) (no_stray p g) in
    let w = elements_took s p h.0 h.1 in
    let l : length s - h.0 ≡ 0 = sym (length-drop h.0 s) ∙ ap length h.2 in
    let t : h.0 ≡ length s = omega (arith, w.fits) in
    rw (h.1, t) (whole_good s p g)

-- every good path has a text that reads back to it
pub good_text : (p : Path) → good_path p ≡ true → read_text (path_text p) ≡ some p
unfolding path_text
good_text [] g = root_read
  where
    root_read : read_text (bytes "/") ≡ some []
    root_read = unfold read_text same ◌and◌ whether◌then◌else◌ in refl
good_text (x ∷ q) g = long_text (joined elem_text (x ∷ q)) (x ∷ q) (text_long x q (within_limits (x ∷ q) g)) (elements_whole (x ∷ q) g)

-- path text is read to a path exactly where it is that good path's
pub text_reader : Reads path_text read_text
text_reader = record { reads = λ s p h. ap read_text h.text ∙ good_text p h.good; only = text_only }

-- ---- at most one path

-- two readers of one kind of writing answer alike
pub reads_one : (write : Path → Str) (read : Str → Option Path) → Reads write read → {s : Str} {p q : Path} → Spells write s p → Spells write s q → p ≡ q
reads_one write read r {s} {p} {q} h k = let a = r.reads s p h in let b = r.reads s q k in some_same (sym a ∙ b)
  where
    some_same : {x y : Path} → some x ≡ some y → x ≡ y
    some_same e = cc

-- ---- there and back

-- what one reader reads, and the other's writing of it, which the other reads
back : (read other : Str → Option Path) (write rewrite : Path → Str) → Reads write read → Reads rewrite other → (s f : Str)
    → map rewrite (read s) ≡ some f → map write (other f) ≡ some s
back read other write rewrite r o s f e = go (read s) refl e
  where
    go : (x : Option Path) → read s ≡ x → map rewrite x ≡ some f → map write (other f) ≡ some s
    go none i h = let z : ◌≡◌ {A = ℕ} 0 1 = cc in absurd (omega arith)
    go (some p) i h =
        let j : rewrite p ≡ f = cc in
        let k = r.only s p i in
        let l : other f ≡ some p = o.reads f p (record { good = k.good; text = sym j }) in
        ap (map write) l ∙ ap some (sym k.text)

-- "path text read and written back is the same text"
pub read_write : (s f : Str) → bytes_for s ≡ some f → text_for f ≡ some s
unfolding bytes_for text_for
read_write s f e = back read_text read_bytes path_text path_bytes text_reader bytes_reader s f e

-- "path bytes written and read back the same bytes"
pub write_read : (f s : Str) → text_for f ≡ some s → bytes_for s ≡ some f
unfolding bytes_for text_for
write_read f s e = back read_bytes read_text path_bytes path_text bytes_reader text_reader f s e

-- every good path has bytes that read back to it
pub good_bytes : (p : Path) → good_path p ≡ true → read_bytes (path_bytes p) ≡ some p
good_bytes p g = bytes_reader.reads (path_bytes p) p (record { good = g; text = refl })
