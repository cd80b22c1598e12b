-- What is made of printable bytes is printable.
use mathlib.Core.Path.{◌≡◌, refl}
use mathlib.Core.Bool.{true, false, ◌||◌, not}
use mathlib.Core.List.{List, [], ◌∷◌, ◌++◌}
use Prim.Native.Nat.{ℕ, ◌+◌, ◌-◌, ◌/◌, ◌%◌, ◌≤◌, ◌<◌}
use native.Mathlib.Omega.{arith}
use borrow.Author.Tests.{eqb-true, ltb-true, le-leb, leb-true, not-false}
use lib.Dec.{eqb, leb, ltb}
use Rattle.text.specs.Test.{◌and◌, ◌or◌, all, any}
use Rattle.text.specs.Byte.{within, is_digit, is_name, is_print, is_star}
use Rattle.text.specs.String.{Str, joined}
use Rattle.text.proofs.Tests.{by, clash, both, and_l, and_r, or_false_l, or_false_r, and_left, and_right}
use Rattle.path.specs.Path.{Key, Elem, Path}
use Rattle.path.specs.Refusal.{outside_name, outside_value, key_stray, elem_stray, stray_byte}
use Rattle.path_read.specs.Text.{is_mark, escaped, key_text, elem_text, path_text}
use Rattle.path_read.proofs.Sound.{escaped_plain, escaped_mark}
use Rattle.readable_parts.specs.Parts.{quoted, hex_digit, hex_pair, hex_text}
use Rattle.readable_laws.proofs.HexLines.{Small, and_more}

all_head : (c : ℕ) (a : Str) → all is_print (c ∷ a) ≡ true → is_print c ≡ true
unfolding all
all_head c a h = and_l _ _ h

all_tail : (c : ℕ) (a : Str) → all is_print (c ∷ a) ≡ true → all is_print a ≡ true
unfolding all
all_tail c a h = and_r (is_print c) _ h

in_range : (lo hi b : ℕ) → 32 ≤ lo → hi ≤ 126 → within lo hi b ≡ true → is_print b ≡ true
in_range lo hi b l h u =
    let x : lo ≤ b = leb-true lo b (and_left _ _ u) in
    let y : b ≤ hi = leb-true b hi (and_right (leb lo b) _ u) in
    rw (le-leb 32 b (omega arith), le-leb b 126 (omega arith))

is_one : (b n : ℕ) → 32 ≤ n → n ≤ 126 → eqb b n ≡ true → is_print b ≡ true
is_one b n l h u = let x : b ≡ n = eqb-true b n u in rw (le-leb 32 b (omega arith), le-leb b 126 (omega arith))

ranges : (b : ℕ) → (is_name b || is_star b) ≡ true → is_print b ≡ true
ranges b h =
    by (within 65 90 b) (λ u. in_range 65 90 b (omega arith) (omega arith) u)
    (λ u₁. by (within 97 122 b) (λ u. in_range 97 122 b (omega arith) (omega arith) u)
    (λ u₂. by (is_digit b) (λ u. in_range 48 57 b (omega arith) (omega arith) u)
    (λ u₃. by (eqb b 45) (λ u. is_one b 45 (omega arith) (omega arith) u)
    (λ u₄. by (eqb b 95) (λ u. is_one b 95 (omega arith) (omega arith) u)
    (λ u₅. by (eqb b 46) (λ u. is_one b 46 (omega arith) (omega arith) u)
    (λ u₆. by (eqb b 58) (λ u. is_one b 58 (omega arith) (omega arith) u)
    (λ u₇. by (eqb b 42) (λ u. is_one b 42 (omega arith) (omega arith) u)
    (λ u₈. clash (rw (u₁, u₂, u₃, u₄, u₅, u₆, u₇, u₈) at h) refl))))))))

pub print_both : (a b : Str) → all is_print a ≡ true → all is_print b ≡ true → all is_print (a ++ b) ≡ true
unfolding all
print_both [] b x y = y
print_both (c ∷ a) b x y = both (is_print c) _ (all_head c a x) (print_both a b (all_tail c a x) y)

print_joined : {A : Type 0} (w : A → Str) (xs : List A) → ((x : A) → all is_print (w x) ≡ true) → all is_print (joined w xs) ≡ true
unfolding joined all
print_joined w [] h = refl
print_joined w (x ∷ xs) h = print_both (w x) (joined w xs) (h x) (print_joined w xs h)

mark_print : (b : ℕ) → is_print b ≡ true → all is_print (escaped b) ≡ true
unfolding all ◌and◌
mark_print b h = by (is_mark b) (λ m. rw (escaped_mark b m, h)) (λ m. rw (escaped_plain b m, h))

value_print : (v : Str) → all is_print v ≡ true → all is_print (joined escaped v) ≡ true
unfolding joined all
value_print [] h = refl
value_print (b ∷ v) h = print_both (escaped b) (joined escaped v) (mark_print b (all_head b v h)) (value_print v (all_tail b v h))

pub quoted_print : (v : Str) → all is_print v ≡ true → all is_print (quoted v) ≡ true
unfolding quoted
quoted_print v h = print_both (91 ∷ []) (joined escaped v ++ (93 ∷ [])) (unfold all ◌and◌ in refl) (print_both (joined escaped v) (93 ∷ []) (value_print v h) (unfold all ◌and◌ in refl))

digit_print : (n : ℕ) → n < 16 → is_print (hex_digit n) ≡ true
digit_print n h =
    by (ltb n 10)
    (λ u. let a = ltb-true n 10 u in rw (u, le-leb 32 (48 + n) (omega arith), le-leb (48 + n) 126 (omega arith)))
    (λ u. rw (u, le-leb 32 (87 + n) (omega arith), le-leb (87 + n) 126 (omega arith)))

pub hex_print : (f : Str) → Small f → all is_print (hex_text f) ≡ true
unfolding hex_text joined hex_pair all ◌and◌
hex_print [] h = refl
hex_print (b ∷ f) (and_more l h) = rw (digit_print (b / 16) (omega arith), digit_print (b % 16) (omega arith), hex_print f h)

-- a byte of a name
name_print : (b : ℕ) → outside_name b ≡ false → is_print b ≡ true
unfolding outside_name
name_print b h = ranges b (not-false (is_name b || is_star b) h)

pub names_print : (s : Str) → any outside_name s ≡ false → all is_print s ≡ true
unfolding any all
names_print [] h = refl
names_print (b ∷ s) h = both (is_print b) _ (name_print b (or_false_l _ _ h)) (names_print s (or_false_r (outside_name b) _ h))

pub values_print : (s : Str) → any outside_value s ≡ false → all is_print s ≡ true
unfolding any all outside_value
values_print [] h = refl
values_print (b ∷ s) h = both (is_print b) _ (not-false (is_print b) (or_false_l _ _ h)) (values_print s (or_false_r (not (is_print b)) _ h))

key_print : (k : Key) → key_stray k ≡ false → all is_print (key_text k) ≡ true
unfolding key_stray key_text
key_print k h =
    print_both (91 ∷ []) _ (unfold all ◌and◌ in refl)
    (print_both k.name _ (names_print k.name (or_false_l _ _ h))
    (print_both (61 ∷ []) _ (unfold all ◌and◌ in refl)
    (print_both (joined escaped k.value) (93 ∷ []) (value_print k.value (values_print k.value (or_false_r (any outside_name k.name) _ h))) (unfold all ◌and◌ in refl))))

keys_print : (ks : List Key) → any key_stray ks ≡ false → all is_print (joined key_text ks) ≡ true
unfolding any joined all
keys_print [] h = refl
keys_print (k ∷ ks) h = print_both (key_text k) (joined key_text ks) (key_print k (or_false_l _ _ h)) (keys_print ks (or_false_r (key_stray k) _ h))

elem_print : (e : Elem) → elem_stray e ≡ false → all is_print (elem_text e) ≡ true
unfolding elem_stray elem_text
elem_print e h =
    print_both (47 ∷ []) _ (unfold all ◌and◌ in refl)
    (print_both e.name (joined key_text e.keys) (names_print e.name (or_false_l _ _ h)) (keys_print e.keys (or_false_r (any outside_name e.name) _ h)))

elems_print : (es : Path) → any elem_stray es ≡ false → all is_print (joined elem_text es) ≡ true
unfolding any joined all
elems_print [] h = refl
elems_print (e ∷ es) h = print_both (elem_text e) (joined elem_text es) (elem_print e (or_false_l _ _ h)) (elems_print es (or_false_r (elem_stray e) _ h))

pub path_print : (p : Path) → stray_byte p ≡ false → all is_print (path_text p) ≡ true
unfolding path_text stray_byte
path_print [] h = unfold all ◌and◌ in refl
path_print (e ∷ es) h = elems_print (e ∷ es) h
