-- Path bytes: what is read is written back the same, and what is written is read.
use mathlib.Core.Path.{◌≡◌, refl, sym, ap, ◌∙◌}
use mathlib.Core.Bool.{true}
use mathlib.Core.List.{List, [], ◌∷◌, ◌++◌, append_assoc, append-nil}
use mathlib.Core.Option.{some}
use Prim.Native.Nat.{ℕ, ◌+◌, ◌-◌}
use native.Mathlib.Omega.{arith}
use borrow.Author.Tests.{eqb-true, eq-eqb}
use lib.Dec.{eqb}
use lib.ListN.{length, drop, length-drop}
use lib.Seq.{drop-length}
use Rattle.text.specs.Test.{◌and◌, whether◌then◌else◌, twice}
use Rattle.text.specs.String.{Str, joined}
use Rattle.text.specs.Frame.{Parsed, got, unread, and_then, ◌>>=◌, ret, byte, string, string_bytes, times}
use Rattle.text.proofs.Tests.{by, and_l, and_r}
use Rattle.text.proofs.Frames.{times_length}
use Rattle.text.proofs.Codec.{then_got, got_move, Took, took_both, byte_took, string_took, times_took, Gives, then_gives, byte_gives, string_gives, times_gives}
use Rattle.path.specs.Path.{Key, Elem, Path}
use Rattle.path.specs.Bytes.{key, element, path, counted, key_bytes, elem_bytes, path_bytes}
use Rattle.path.specs.Refusal.{same_name, good_path}
use Rattle.path.specs.Spells.{Spells, Reads, whole, read_bytes}
use Rattle.path.specs.Walk.{twice_in}

key_open : (f : List ℕ) (at : ℕ) → key f at ≡ and_then (string f at) (λ n p. and_then (string f p) (λ v q. got (record { name = n; value = v }) q))
unfolding key ◌>>=◌ ret
key_open f at = refl

element_open : (f : List ℕ) (at : ℕ) → element f at
    ≡ and_then (string f at) (λ n p. and_then (byte f p) (λ k q. and_then (times k key f q) (λ ks t. got (record { name = n; keys = ks }) t)))
unfolding element ◌>>=◌ ret
element_open f at = refl

path_open : (f : List ℕ) (at : ℕ) → path f at ≡ and_then (byte f at) (λ n p. times n element f p)
unfolding path ◌>>=◌
path_open f at = refl

-- ---- read, then written

module _ (f : List ℕ) where
  key_took : (at : ℕ) (k : Key) (t : ℕ) → key f at ≡ got k t → Took f at (key_bytes k) t
  unfolding key_bytes
  key_took at k t e =
      let a = then_got (string f at) _ (sym (key_open f at) ∙ e) in
      let b = then_got (string f a.1) _ a.3 in
      got_move (λ x q. Took f at (key_bytes x) q) b.3
      (took_both f at _ _ _ _ (string_took f at a.0 a.1 a.2) (string_took f a.1 b.0 b.1 b.2))

  parts : (at p q t n : ℕ) (name : Str) (ks : List Key) → Took f at (string_bytes name) p → Took f p (n ∷ []) q → length ks ≡ n
      → Took f q (joined key_bytes ks) t → Took f at (elem_bytes (record { name = name; keys = ks })) t
  unfolding elem_bytes counted
  parts at p q t n name ks h i l j = rw l (took_both f at p t (string_bytes name) _ h (took_both f p q t (n ∷ []) _ i j))

  element_took : (at : ℕ) (x : Elem) (t : ℕ) → element f at ≡ got x t → Took f at (elem_bytes x) t
  element_took at x t e =
      let a = then_got (string f at) _ (sym (element_open f at) ∙ e) in
      let b = then_got (byte f a.1) _ a.3 in
      let c = then_got (times b.0 key f b.1) _ b.3 in
      let w = byte_took f a.1 b.0 b.1 b.2 in
      got_move (λ y q. Took f at (elem_bytes y) q) c.3
      (parts at _ _ _ _ _ c.0 (string_took f at a.0 a.1 a.2) w (times_length key f b.0 b.1 c.0 c.1 c.2)
      (times_took key key_bytes f key_took b.0 b.1 c.0 c.1 w.fits c.2))

  -- path bytes that were read are the bytes of that path
  pub path_took : (at : ℕ) (p : Path) (t : ℕ) → path f at ≡ got p t → Took f at (path_bytes p) t
  unfolding path_bytes counted
  path_took at p t e =
      let a = then_got (byte f at) _ (sym (path_open f at) ∙ e) in
      let w = byte_took f at a.0 a.1 a.2 in
      rw (times_length element f a.0 a.1 p t a.3)
      (took_both f at a.1 t (a.0 ∷ []) _ w (times_took element elem_bytes f element_took a.0 a.1 p t w.fits a.3))

-- ---- written, then read

module _ (f : List ℕ) where
  key_gives : (at : ℕ) (k : Key) (rest : Str) → drop at f ≡ key_bytes k ++ rest → Gives (key f at) f k rest
  unfolding key_bytes
  key_gives at k rest e =
      rw (key_open f at)
      (then_gives (string f at) _ f k.name _ _ _ (string_gives f at k.name _ (e ∙ simp append_assoc))
      (λ p i. then_gives (string f p) _ f k.value _ _ _ (string_gives f p k.value _ i) (λ t j. (t, refl, j))))

  element_gives : (at : ℕ) (x : Elem) (rest : Str) → drop at f ≡ elem_bytes x ++ rest → Gives (element f at) f x rest
  unfolding elem_bytes counted
  element_gives at x rest e =
      rw (element_open f at)
      (then_gives (string f at) _ f x.name _ _ _ (string_gives f at x.name _ (e ∙ simp append_assoc))
      (λ p i. then_gives (byte f p) _ f (length x.keys) _ _ _ (byte_gives f p _ _ i)
      (λ q j. then_gives (times (length x.keys) key f q) _ f x.keys _ _ _ (times_gives key key_bytes f key_gives x.keys q rest j) (λ t k. (t, refl, k)))))

  -- the bytes of a path are read to that path
  pub path_gives : (at : ℕ) (p : Path) (rest : Str) → drop at f ≡ path_bytes p ++ rest → Gives (path f at) f p rest
  unfolding path_bytes counted
  path_gives at p rest e =
      rw (path_open f at)
      (then_gives (byte f at) _ f (length p) _ _ _ (byte_gives f at _ _ e) (λ q i. times_gives element elem_bytes f element_gives p q rest i))

-- whether two keys have the same name is told by their bytes
pub twice_bytes : (ks : List Key) → twice_in (times (length ks) key (joined key_bytes ks) 0) ≡ twice same_name ks
unfolding twice_in
twice_bytes ks =
    let f = joined key_bytes ks in
    rw (times_gives key key_bytes f (key_gives f) ks 0 [] (sym (append-nil f))).1

-- ---- both

whole_got : (s : Str) (p q : Path) (t : ℕ) → whole s (got q t) ≡ some p → (q ≡ p) × (t ≡ length s) × (good_path p ≡ true)
unfolding whole whether◌then◌else◌
whole_got s p q t e =
    by (eqb t (length s) and good_path q)
    (λ k. let i : q ≡ p = let e' = rw k at e in cc in (i, eqb-true _ _ (and_l _ _ k), rw i at (and_r _ _ k)))
    (λ k. let z : ◌≡◌ {A = ℕ} 0 1 = let e' = rw k at e in cc in absurd (omega arith))

whole_unread : (s : Str) {p : Path} → whole s unread ≡ some p → ⊥
unfolding whole
whole_unread s e = let z : ◌≡◌ {A = ℕ} 0 1 = cc in omega arith

-- all of s was taken by one path
pub took_whole : (write : Path → Str) (s : Str) (p : Path) (t : ℕ) → t ≡ length s → Took s 0 (write p) t → s ≡ write p
took_whole write s p t e w = w.same ∙ rw (e, drop-length s) (append-nil (write p))

-- a reader that takes what is written, and gives what was
pub whole_only : (read : Str → Parsed Path) (write : Path → Str) (s : Str) (p : Path) → ((q : Path) (t : ℕ) → read s ≡ got q t → t ≡ length s → s ≡ write q)
    → whole s (read s) ≡ some p → Spells write s p
whole_only read write s p h e = go (read s) h e
  where
    go : (x : Parsed Path) → ((q : Path) (t : ℕ) → x ≡ got q t → t ≡ length s → s ≡ write q) → whole s x ≡ some p → Spells write s p
    go (got q t) h e = let w = whole_got s p q t e in record { good = w.2; text = h q t refl w.1 ∙ ap write w.0 }
    go unread h e = absurd (whole_unread s e)

pub whole_good : (s : Str) (p : Path) → good_path p ≡ true → whole s (got p (length s)) ≡ some p
unfolding whole whether◌then◌else◌ ◌and◌
whole_good s p g = rw (eq-eqb (length s) (length s) refl, g)

-- the bytes of a path are read to that path and nothing more
pub bytes_whole : (p : Path) → path (path_bytes p) 0 ≡ got p (length (path_bytes p))
bytes_whole p =
    let s = path_bytes p in
    let g = path_gives s 0 p [] (sym (append-nil s)) in
    let w = path_took s 0 p g.0 g.1 in
    let l : length s - g.0 ≡ 0 = sym (length-drop g.0 s) ∙ ap length g.2 in
    let t : g.0 ≡ length s = omega (arith, w.fits) in
    g.1 ∙ ap (got p) t

-- path bytes are read to a path exactly where they are that good path's
pub bytes_reader : Reads path_bytes read_bytes
unfolding read_bytes
bytes_reader = record { reads = reads; only = only }
  where
    reads : (s : Str) (p : Path) → Spells path_bytes s p → whole s (path s 0) ≡ some p
    reads s p h = rw (h.text, bytes_whole p) (whole_good (path_bytes p) p h.good)

    only : (s : Str) (p : Path) → whole s (path s 0) ≡ some p → Spells path_bytes s p
    only s p e = whole_only (λ z. path z 0) path_bytes s p (λ q t i j. took_whole path_bytes s q t j (path_took s 0 q t i)) e
