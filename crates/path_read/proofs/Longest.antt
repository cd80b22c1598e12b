-- "The longest path bytes are 9,377, the longest path text 13,520." And no path's text is more than twice as long as its bytes.
use mathlib.Core.Path.{◌≡◌, refl}
use mathlib.Core.Option.{Option, none, some, map}
use mathlib.Core.Bool.{Bool, true, false}
use mathlib.Core.List.{List, [], ◌∷◌}
use Prim.Native.Nat.{ℕ, ◌*◌, ◌≤◌}
use native.Mathlib.Omega.{arith}
use borrow.Author.Tests.{ltb-false}
use lib.Dec.{ltb}
use lib.ListN.{length, length-append}
use Rattle.limits.specs.Limits.{max_elements, max_keys, max_string}
use Rattle.limits.specs.Sizes.{max_key_bytes, max_elem_bytes, max_path_bytes, max_key_text, max_elem_text, max_path_text}
use Rattle.text.specs.Test.{◌or◌, whether◌then◌else◌, any}
use Rattle.text.specs.String.{Str, joined}
use Rattle.text.specs.Frame.{string_bytes}
use Rattle.text.proofs.Tests.{by, or_false_l, or_false_r}
use Rattle.path.specs.Path.{Key, Elem, Path}
use Rattle.path.specs.Bytes.{counted, key_bytes, elem_bytes, path_bytes}
use Rattle.path.specs.Spells.{Spells, Reads, read_bytes}
use Rattle.path.proofs.Bytes.{bytes_reader}
use Rattle.path.specs.Refusal.{unsized, key_over, elem_over, over_limit, good_path}
use Rattle.path_read.specs.Text.{is_mark, escaped, key_text, elem_text, path_text}
use Rattle.path_read.proofs.Complete.{sized}
use Rattle.path_read.specs.TextReader.{read_text}
use Rattle.path_read.specs.Calls.{bytes_for, text_for}
use Rattle.path_read.proofs.RoundTrip.{within_limits, text_reader}

escaped_length : (b : ℕ) → length (escaped b) ≤ 2
unfolding escaped whether◌then◌else◌
escaped_length b = by (is_mark b) (λ e. rw e (omega arith)) (λ e. rw e (omega arith))

pub value_length : (v : Str) → length (joined escaped v) ≤ 2 * length v
unfolding joined
value_length [] = omega arith
value_length (b ∷ v) = omega (arith, length-append (escaped b) (joined escaped v), escaped_length b, value_length v)

-- no part is too long where each thing is at most n bytes
joined_length : {A : Type 0} (w : A → Str) (over : A → Bool) (n : ℕ) → ((a : A) → over a ≡ false → length (w a) ≤ n) → (xs : List A) → any over xs ≡ false → length (joined w xs) ≤ n * length xs
unfolding joined any
joined_length w over n h [] g = omega arith
joined_length w over n h (x ∷ xs) g =
    omega (arith, length-append (w x) (joined w xs), h x (or_false_l (over x) (any over xs) g), joined_length w over n h xs (or_false_r (over x) (any over xs) g))

key_text_lem : (k : Key) → key_over k ≡ false → length (key_text k) ≤ max_key_text
unfolding key_text key_over
key_text_lem k g =
    let n = sized k.name (or_false_l _ _ g) in
    let v = sized k.value (or_false_r _ _ g) in
    let m = value_length k.value in
    simp length-append (omega arith)

key_bytes_lem : (k : Key) → key_over k ≡ false → length (key_bytes k) ≤ max_key_bytes
unfolding key_bytes string_bytes key_over
key_bytes_lem k g =
    let n = sized k.name (or_false_l _ _ g) in
    let v = sized k.value (or_false_r _ _ g) in
    simp length-append (omega arith)

module _ (e : Elem) (g : elem_over e ≡ false) where
  name_sized : length e.name ≤ max_string
  unfolding elem_over
  name_sized = sized e.name (or_false_l _ _ g)

  few_keys : length e.keys ≤ max_keys
  unfolding elem_over
  few_keys = ltb-false max_keys (length e.keys) (or_false_l _ _ (or_false_r (unsized e.name) _ g))

  keys_fine : any key_over e.keys ≡ false
  unfolding elem_over
  keys_fine = or_false_r (ltb max_keys (length e.keys)) _ (or_false_r (unsized e.name) _ g)

elem_text_lem : (e : Elem) → elem_over e ≡ false → length (elem_text e) ≤ max_elem_text
unfolding elem_text
elem_text_lem e g =
    let n = name_sized e g in
    let f = few_keys e g in
    let k = joined_length key_text key_over max_key_text key_text_lem e.keys (keys_fine e g) in
    simp length-append (omega arith)

elem_bytes_lem : (e : Elem) → elem_over e ≡ false → length (elem_bytes e) ≤ max_elem_bytes
unfolding elem_bytes string_bytes counted
elem_bytes_lem e g =
    let n = name_sized e g in
    let f = few_keys e g in
    let k = joined_length key_bytes key_over max_key_bytes key_bytes_lem e.keys (keys_fine e g) in
    simp length-append (omega arith)

module _ (p : Path) (g : good_path p ≡ true) where
  few_elements : length p ≤ max_elements
  unfolding over_limit
  few_elements = ltb-false max_elements (length p) (or_false_l _ _ (within_limits p g))

  elems_fine : any elem_over p ≡ false
  unfolding over_limit
  elems_fine = or_false_r (ltb max_elements (length p)) _ (within_limits p g)

  pub bytes_length : length (path_bytes p) ≤ max_path_bytes
  unfolding path_bytes counted
  bytes_length = omega (arith, few_elements, joined_length elem_bytes elem_over max_elem_bytes elem_bytes_lem p elems_fine)

pub text_length : (p : Path) → good_path p ≡ true → length (path_text p) ≤ max_path_text
unfolding path_text
text_length [] g = omega arith
text_length (e ∷ es) g = omega (arith, few_elements (e ∷ es) g, joined_length elem_text elem_over max_elem_text elem_text_lem (e ∷ es) (elems_fine (e ∷ es) g))

-- ---- the text, and the bytes

key_twice : (k : Key) → length (key_text k) ≤ 2 * length (key_bytes k)
unfolding key_text key_bytes string_bytes
key_twice k = let m = value_length k.value in simp length-append (omega arith)

joined_twice : {A : Type 0} (w b : A → Str) → ((a : A) → length (w a) ≤ 2 * length (b a)) → (xs : List A) → length (joined w xs) ≤ 2 * length (joined b xs)
unfolding joined
joined_twice w b h [] = omega arith
joined_twice w b h (x ∷ xs) = omega (arith, length-append (w x) (joined w xs), length-append (b x) (joined b xs), h x, joined_twice w b h xs)

elem_twice : (e : Elem) → length (elem_text e) ≤ 2 * length (elem_bytes e)
unfolding elem_text elem_bytes string_bytes counted
elem_twice e = let k = joined_twice key_text key_bytes key_twice e.keys in simp length-append (omega arith)

path_twice : (p : Path) → length (path_text p) ≤ 2 * length (path_bytes p)
unfolding path_text path_bytes counted
path_twice [] = omega arith
path_twice (e ∷ es) = omega (arith, joined_twice elem_text elem_bytes elem_twice (e ∷ es))

-- ---- what the calls make is no longer

bound : (read : Str → Option Path) (was write : Path → Str) (n : ℕ) → Reads was read → (s f : Str) → ((p : Path) → Spells was s p → length (write p) ≤ n)
    → map write (read s) ≡ some f → length f ≤ n
bound read was write n r s f h e = go (read s) refl e
  where
    go : (x : Option Path) → read s ≡ x → map write x ≡ some f → length f ≤ n
    go none i k = let z : ◌≡◌ {A = ℕ} 0 1 = cc in absurd (omega arith)
    go (some p) i k =
        let j : write p ≡ f = cc in
        let l = h p (r.only s p i) in
        rw j at l

pub bytes_bound : (s f : Str) → bytes_for s ≡ some f → length f ≤ max_path_bytes
unfolding bytes_for
bytes_bound s f e = bound read_text path_text path_bytes max_path_bytes text_reader s f (λ p h. bytes_length p h.good) e

pub text_bound : (f s : Str) → text_for f ≡ some s → length s ≤ max_path_text
unfolding text_for
text_bound f s e = bound read_bytes path_bytes path_text max_path_text bytes_reader f s (λ p h. text_length p h.good) e

pub text_twice : (f s : Str) → text_for f ≡ some s → length s ≤ 2 * length f
unfolding text_for
text_twice f s e = bound read_bytes path_bytes path_text (2 * length f) bytes_reader f s (λ p h. rw h.text (path_twice p)) e
