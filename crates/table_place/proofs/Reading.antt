-- The readers by position give what the format's reader gives, exactly where the end lies within the bytes.
use mathlib.Core.Path.{◌≡◌, refl}
use mathlib.Core.List.{List}
use Prim.Native.Nat.{ℕ, zero, suc, ◌+◌, ◌≤◌, ◌<◌}
use native.Mathlib.Omega.{arith}
use borrow.Author.Tests.{ltb-true, ltb-false}
use lib.Dec.{ltb}
use lib.ListN.{length, get_or}
use Rattle.text.specs.Frame.{Parsed, got, unread, ◌>>=◌, ret, string, times}
use Rattle.text.proofs.Tests.{by}
use Rattle.text.proofs.Frames.{byte_got, byte_unread, string_got, string_none, string_unread}
use Rattle.path.specs.Path.{Path}
use Rattle.path.specs.Bytes.{key, element, path}
use Rattle.table_place.specs.Place.{str_end, str_in, key_end, key_in, keys_end, keys_in, key_count, elem_end, elem_in, elems_end, elems_in, path_end, path_in}
use Rattle.table_place.proofs.Cursor.{str_grows, keys_grow, elems_grow, path_room}

split : {X : Type 0} (a b : ℕ) → (a < b → X) → (b ≤ a → X) → X
split a b l r = by (ltb a b) (λ e. l (ltb-true a b e)) (λ e. r (ltb-false a b e))

module _ (f : List ℕ) where
  -- ---- where the end lies within the bytes

  pub str_got : (p : ℕ) → str_end f p ≤ length f → string f p ≡ got (str_in f p) (str_end f p)
  unfolding str_end str_in
  str_got p h = string_got f p (omega arith) (omega arith)

  key_got : (p : ℕ) → key_end f p ≤ length f → key f p ≡ got (key_in f p) (key_end f p)
  unfolding key ◌>>=◌ ret key_in
  key_got p h = let b = str_grows f (str_end f p) in rw (str_got p (omega arith), str_got (str_end f p) h)

  keys_got : (k p : ℕ) → keys_end k f p ≤ length f → times k key f p ≡ got (keys_in k f p) (keys_end k f p)
  unfolding times ◌>>=◌ ret keys_in keys_end
  keys_got zero p h = refl
  keys_got (suc k) p h = let d = keys_grow f k (key_end f p) in rw (key_got p (omega arith), keys_got k (key_end f p) h)

  elem_got : (p : ℕ) → elem_end f p ≤ length f → element f p ≡ got (elem_in f p) (elem_end f p)
  unfolding element ◌>>=◌ ret elem_in elem_end
  elem_got p h =
      let a = keys_grow f (key_count f p) (str_end f p + 1) in
      rw (str_got p (omega arith), byte_got f (str_end f p) (omega arith), keys_got (key_count f p) (str_end f p + 1) h)

  elems_got : (n p : ℕ) → elems_end n f p ≤ length f → times n element f p ≡ got (elems_in n f p) (elems_end n f p)
  unfolding times ◌>>=◌ ret elems_in elems_end
  elems_got zero p h = refl
  elems_got (suc n) p h = let a = elems_grow f n (elem_end f p) in rw (elem_got p (omega arith), elems_got n (elem_end f p) h)

  pub path_got : (p : ℕ) → path_end f p ≤ length f → path f p ≡ got (path_in f p) (path_end f p)
  unfolding path ◌>>=◌
  path_got p h = rw (byte_got f p (path_room f p h), elems_got (get_or f p 0) (p + 1) h)

  -- ---- where it lies past them, nothing is read

  pub str_unread : (p : ℕ) → length f < str_end f p → string f p ≡ unread
  unfolding str_end
  str_unread p h = split p (length f) (λ l. string_unread f p l (omega arith)) (λ g. string_none f p g)

  key_unread : (p : ℕ) → length f < key_end f p → key f p ≡ unread
  unfolding key ◌>>=◌
  key_unread p h = split (length f) (str_end f p) (λ x. rw (str_unread p x)) (λ x. rw (str_got p x, str_unread (str_end f p) h))

  keys_unread : (k p : ℕ) → p ≤ length f → length f < keys_end k f p → times k key f p ≡ unread
  unfolding times ◌>>=◌ keys_end
  keys_unread zero p b h = absurd (omega arith)
  keys_unread (suc k) p b h =
      split (length f) (key_end f p) (λ y. rw (key_unread p y)) (λ y. rw (key_got p y, keys_unread k (key_end f p) y h))

  elem_unread : (p : ℕ) → length f < elem_end f p → element f p ≡ unread
  unfolding element ◌>>=◌ elem_end
  elem_unread p h =
      split (length f) (str_end f p) (λ x. rw (str_unread p x))
      (λ x. split (str_end f p) (length f)
      (λ y. rw (str_got p x, byte_got f (str_end f p) y, keys_unread (key_count f p) (str_end f p + 1) (omega arith) h))
      (λ y. rw (str_got p x, byte_unread f (str_end f p) y)))

  elems_unread : (n p : ℕ) → p ≤ length f → length f < elems_end n f p → times n element f p ≡ unread
  unfolding times ◌>>=◌ elems_end
  elems_unread zero p b h = absurd (omega arith)
  elems_unread (suc n) p b h =
      split (length f) (elem_end f p) (λ x. rw (elem_unread p x)) (λ x. rw (elem_got p x, elems_unread n (elem_end f p) x h))

  path_unread : (p : ℕ) → length f < path_end f p → path f p ≡ unread
  unfolding path ◌>>=◌
  path_unread p h =
      split p (length f) (λ l. rw (byte_got f p l, elems_unread (get_or f p 0) (p + 1) (omega arith) h)) (λ g. rw (byte_unread f p g))

  -- ---- what was read

  pub same_got : {A : Type 0} (x : Parsed A) (a b : A) (t u : ℕ) → x ≡ got a t → x ≡ got b u → (a ≡ b) × (t ≡ u)
  same_got x a b t u g h = (cc, cc)

  pub not_unread : {A X : Type 0} (x : Parsed A) (a : A) (t : ℕ) → x ≡ got a t → x ≡ unread → X
  not_unread x a t g h = let z : ◌≡◌ {A = ℕ} 0 1 = cc in absurd (omega arith)

  pub str_read : (p : ℕ) (s : List ℕ) (t : ℕ) → string f p ≡ got s t → (str_end f p ≤ length f) × (s ≡ str_in f p) × (t ≡ str_end f p)
  str_read p s t e =
      split (length f) (str_end f p) (λ x. not_unread _ s t e (str_unread p x))
      (λ x. let s = same_got _ _ _ _ _ e (str_got p x) in (x, s.0, s.1))

  -- bytes that read: what is read is what `path_in` says, and the end lies within them
  pub path_read : (p : ℕ) (es : Path) (t : ℕ) → path f p ≡ got es t → (path_end f p ≤ length f) × (es ≡ path_in f p) × (t ≡ path_end f p)
  path_read p es t e =
      split (length f) (path_end f p) (λ x. not_unread _ es t e (path_unread p x))
      (λ x. let s = same_got _ _ _ _ _ e (path_got p x) in (x, s.0, s.1))
