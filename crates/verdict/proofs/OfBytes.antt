-- Paths of bytes: a path that a table or a request allows is one, and so is the joined path of two.
use mathlib.Core.Path.{◌≡◌}
use mathlib.Core.Bool.{Bool, true, false}
use mathlib.Core.List.{List, [], ◌∷◌, ◌++◌}
use Prim.Native.Nat.{ℕ, ◌≤◌}
use native.Mathlib.Omega.{arith}
use borrow.Author.Tests.{ltb-false, le-leb, lt-leb, ne_eqb}
use Rattle.text.specs.Test.{◌and◌, all, any, only}
use Rattle.text.proofs.Tests.{clash, by, and_l, and_r, both, or_false_l, or_false_r, all→, →all, none_any, only→}
use Rattle.path.specs.Path.{Key, Elem, Path}
use Rattle.path.specs.Refusal.{outside_name, outside_value, key_stray, elem_stray, stray_byte}
use Rattle.verdict.specs.Cover.{definite}
use Rattle.verdict.specs.Join.{meld, join}
use Rattle.verdict.specs.Laws.{is_byte, key_of_bytes, elem_of_bytes, of_bytes}

-- ---- a number that is no byte stands in no name and no value

module _ (b : ℕ) where
  beyond_name : 256 ≤ b → outside_name b ≡ true
  unfolding outside_name
  beyond_name h = rw (
    le-leb 65 b (omega arith),
    lt-leb b 90 (omega arith),
    le-leb 97 b (omega arith),
    lt-leb b 122 (omega arith),
    le-leb 48 b (omega arith),
    lt-leb b 57 (omega arith),
    ne_eqb b 45 (λ e. omega arith),
    ne_eqb b 95 (λ e. omega arith),
    ne_eqb b 46 (λ e. omega arith),
    ne_eqb b 58 (λ e. omega arith),
    ne_eqb b 42 (λ e. omega arith),
  )

  beyond_value : 256 ≤ b → outside_value b ≡ true
  unfolding outside_value
  beyond_value h = rw (le-leb 32 b (omega arith), lt-leb b 126 (omega arith))

  name_byte : outside_name b ≡ false → is_byte b ≡ true
  name_byte h = by (is_byte b) (λ e. e) (λ e. clash (beyond_name (ltb-false b 256 e)) h)

  value_byte : outside_value b ≡ false → is_byte b ≡ true
  value_byte h = by (is_byte b) (λ e. e) (λ e. clash (beyond_value (ltb-false b 256 e)) h)

-- ---- what is allowed is of bytes

module _ {A : Type 0} (bad good : A → Bool) (h : (a : A) → bad a ≡ false → good a ≡ true) where
  each_good : (xs : List A) → any bad xs ≡ false → all good xs ≡ true
  each_good xs e = →all good xs (λ x m. h x (none_any bad xs e m))

key_of_bytes_lem : (k : Key) → key_stray k ≡ false → key_of_bytes k ≡ true
unfolding key_stray key_of_bytes
key_of_bytes_lem k e =
    both _ _ (each_good outside_name is_byte name_byte k.name (or_false_l _ _ e)) (each_good outside_value is_byte value_byte k.value (or_false_r _ _ e))

elem_of_bytes_lem : (e : Elem) → elem_stray e ≡ false → elem_of_bytes e ≡ true
unfolding elem_stray elem_of_bytes
elem_of_bytes_lem e h =
    both _ _ (each_good outside_name is_byte name_byte e.name (or_false_l _ _ h)) (each_good key_stray key_of_bytes key_of_bytes_lem e.keys (or_false_r _ _ h))

pub path_of_bytes : (p : Path) → stray_byte p ≡ false → of_bytes p ≡ true
unfolding stray_byte of_bytes
path_of_bytes p h = each_good elem_stray elem_of_bytes elem_of_bytes_lem p h

-- ---- the joined path

module _ {A : Type 0} (f : A → Bool) where
  all_only : (g : A → Bool) (xs : List A) → all f xs ≡ true → all f (only g xs) ≡ true
  all_only g xs h = →all f (only g xs) (λ x m. all→ f xs h x (only→ g xs m).0)

  all_append : (xs ys : List A) → all f xs ≡ true → all f ys ≡ true → all f (xs ++ ys) ≡ true
  unfolding all
  all_append [] ys h k = k
  all_append (x ∷ xs) ys h k = both _ _ (and_l _ _ h) (all_append xs ys (and_r _ _ h) k)

meld_of_bytes : (r p : Elem) → elem_of_bytes r ≡ true → elem_of_bytes p ≡ true → elem_of_bytes (meld r p) ≡ true
unfolding elem_of_bytes meld definite
meld_of_bytes r p x y =
    both _ _ (and_l _ _ x) (all_append key_of_bytes _ _ (all_only key_of_bytes _ r.keys (and_r _ _ x)) (all_only key_of_bytes _ _ (all_only key_of_bytes _ p.keys (and_r _ _ y))))

pub join_of_bytes : (rs ps : Path) → of_bytes rs ≡ true → of_bytes ps ≡ true → of_bytes (join rs ps) ≡ true
unfolding of_bytes all join
join_of_bytes [] ps x y = y
join_of_bytes (r ∷ rs) [] x y = x
join_of_bytes (r ∷ rs) (p ∷ ps) x y = both _ _ (meld_of_bytes r p (and_l _ _ x) (and_l _ _ y)) (join_of_bytes rs ps (and_r _ _ x) (and_r _ _ y))
