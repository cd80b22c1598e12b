-- The smallest number of two parts is that of both together.
use mathlib.Core.Path.{◌≡◌, refl, sym, ap, ◌∙◌}
use mathlib.Core.Bool.{Bool, true, false, not, ◌||◌}
use mathlib.Core.List.{List, [], ◌∷◌}
use Prim.Native.Nat.{ℕ, min, ◌≤◌, ◌<◌}
use native.Mathlib.Nat.{min-eq_left, min-eq_right, min-le_left}
use native.Mathlib.Omega.{arith}
use borrow.Author.Tests.{leb-true, leb-false, eqb-true, ne_eqb, le-ltb}
use lib.Dec.{leb, ltb, eqb}
use lib.ListN.{length}
use Rattle.limits.specs.Limits.{max_elements, max_keys}
use Rattle.text.specs.Test.{◌and◌, ◌or◌, whether◌then◌else◌, all, any, twice}
use Rattle.text.specs.Byte.{is_name, is_star}
use Rattle.text.specs.String.{Str, bytes, same}
use Rattle.text.specs.Refusal.{◌when◌else◌, clear}
use Rattle.text.proofs.Tests.{by, or_assoc, or_none_lem, none_or, or_swap, and_l, and_r, or_false_l, or_false_r}
use Rattle.path.specs.Path.{Key, Elem, Path}
use Rattle.path.specs.Refusal.{unsized, key_over, elem_over, over_limit, outside_name, outside_value, key_stray, elem_stray, stray_byte, starred, half_wild, key_misplaced, elem_misplaced, misplaced, same_name, key_twice, good_path}
use Rattle.path.specs.Walk.{no_name, name_refusal, elem_name_refusal, value_refusal, key_refusal, keys_refusal, elem_refusal, elems_refusal, alone_refusal, good, least_refusal, path_refusal}

-- ---- min

pub min_assoc : (a b c : ℕ) → min (min a b) c ≡ min a (min b c)
min_assoc a b c =
    by (leb a b)
    (λ e. let h : a ≤ b = leb-true a b e in
    by (leb b c)
    (λ u. let k : b ≤ c = leb-true b c u in rw (min-eq_left h, min-eq_left k, min-eq_left h) (min-eq_left (omega arith)))
    (λ u. let k : c ≤ b = omega (arith, leb-false b c u) in rw (min-eq_left h, min-eq_right k)))
    (λ e. let h : b ≤ a = omega (arith, leb-false a b e) in
    by (leb b c)
    (λ u. let k : b ≤ c = leb-true b c u in rw (min-eq_right h, min-eq_left k, min-eq_right h))
    (λ u. let k : c ≤ b = omega (arith, leb-false b c u) in rw (min-eq_right h, min-eq_right k) (sym (min-eq_right (omega arith)))))

-- ---- when .. else

when_low : (k n m : ℕ) (t : Bool) → k ≤ n → k ≤ m → k ≤ (n when t else m)
unfolding whether◌then◌else◌
when_low k n m true h l = h
when_low k n m false h l = l

when_high : (k n m : ℕ) (t : Bool) → n ≤ k → m ≤ k → (n when t else m) ≤ k
unfolding whether◌then◌else◌
when_high k n m true h l = h
when_high k n m false h l = l

-- the smaller of two that may both be n
min_when : (n m o : ℕ) (s t : Bool) → n ≤ m → n ≤ o → min (n when s else m) (n when t else o) ≡ (n when (s or t) else min m o)
unfolding whether◌then◌else◌ ◌or◌
min_when n m o true true h l = min-eq_left (omega arith)
min_when n m o true false h l = min-eq_left l
min_when n m o false true h l = min-eq_right h
min_when n m o false false h l = refl

-- ---- the smallest of 5 to 8

abbrev from8 : Bool → ℕ
from8 d = 8 when d else clear

abbrev from7 : Bool → Bool → ℕ
from7 c d = 7 when c else from8 d

abbrev from6 : Bool → Bool → Bool → ℕ
from6 b c d = 6 when b else from7 c d

low8 : (k : ℕ) (d : Bool) → k ≤ 8 → k ≤ from8 d
low8 k d h = when_low k 8 clear d h (omega arith)

low7 : (k : ℕ) (c d : Bool) → k ≤ 7 → k ≤ from7 c d
low7 k c d h = when_low k 7 _ c h (low8 k d (omega arith))

low6 : (k : ℕ) (b c d : Bool) → k ≤ 6 → k ≤ from6 b c d
low6 k b c d h = when_low k 6 _ b h (low7 k c d (omega arith))

pub refusal_merge : (a b c d p q r s : Bool) → min (least_refusal a b c d) (least_refusal p q r s) ≡ least_refusal (a or p) (b or q) (c or r) (d or s)
unfolding least_refusal
refusal_merge a b c d p q r s =
    min_when 5 (from6 b c d) (from6 q r s) a p (low6 5 b c d (omega arith)) (low6 5 q r s (omega arith))
    ∙ ap (λ (n : ℕ). 5 when (a or p) else n)
    (min_when 6 (from7 c d) (from7 r s) b q (low7 6 c d (omega arith)) (low7 6 r s (omega arith))
    ∙ ap (λ (n : ℕ). 6 when (b or q) else n)
    (min_when 7 (from8 d) (from8 s) c r (low8 7 d (omega arith)) (low8 7 s (omega arith))
    ∙ ap (λ (n : ℕ). 7 when (c or r) else n) (min_when 8 clear clear d s (omega arith) (omega arith))))

pub refusal_high : (a b c d : Bool) → least_refusal a b c d ≤ clear
unfolding least_refusal
refusal_high a b c d =
    when_high clear 5 _ a (omega arith) (when_high clear 6 _ b (omega arith) (when_high clear 7 _ c (omega arith) (when_high clear 8 _ d (omega arith) (omega arith))))

-- none of the four holds
pub refusal_clear : (a b c d : Bool) → eqb (least_refusal a b c d) clear ≡ not (a or b or c or d)
unfolding least_refusal whether◌then◌else◌ ◌or◌
refusal_clear true b c d = refl
refusal_clear false true c d = refl
refusal_clear false false true d = refl
refusal_clear false false false true = refl
refusal_clear false false false false = refl

-- ---- the parts of a path

refusal_ap : {a b c d p q r s : Bool} → a ≡ p → b ≡ q → c ≡ r → d ≡ s → least_refusal a b c d ≡ least_refusal p q r s
refusal_ap w x y z = rw (w, x, y, z)

-- a key: its name, its value, and whether the name comes again
pub key_refusal_lem : (n v : Str) (again : Bool) → key_refusal n v again ≡ min (min (name_refusal n) (value_refusal v)) (least_refusal false false false again)
unfolding key_refusal name_refusal value_refusal ◌or◌
key_refusal_lem n v again =
    sym (rw (refusal_merge (unsized n) (any outside_name n) (starred n) false (unsized v) (any outside_value v) (half_wild v) false)
    (refusal_merge _ _ _ _ false false false again ∙ refusal_ap (or_none_lem _) (or_none_lem _) (or_none_lem _) refl))

-- keys: the first, and the others
pub keys_refusal_lem : (k : Key) (ks : List Key) → keys_refusal (k ∷ ks) ≡ min (key_refusal k.name k.value (any (same_name k) ks)) (keys_refusal ks)
unfolding keys_refusal key_refusal any twice key_over key_stray key_misplaced
keys_refusal_lem k ks = sym (refusal_merge _ _ _ _ (any key_over ks) (any key_stray ks) (any key_misplaced ks) (twice same_name ks))

merge_three : (u a x n k b y t : Bool) → min (min (least_refusal u a x false) (least_refusal n false false false)) (least_refusal k b y t) ≡ least_refusal (u or n or k) (a or b) (x or y) t
merge_three u a x n k b y t =
    rw (refusal_merge u a x false n false false false, or_none_lem a, or_none_lem x, or_none_lem false)
    (refusal_merge (u or n) a x false k b y t ∙ refusal_ap (or_assoc u n k) refl refl (none_or t))

-- an element: its name, the count of its keys, and they
pub elem_refusal_lem : (e : Elem) → elem_refusal e ≡ min (min (elem_name_refusal e.name) (least_refusal (ltb max_keys (length e.keys)) false false false)) (keys_refusal e.keys)
unfolding elem_refusal elem_name_refusal keys_refusal elem_over elem_stray elem_misplaced
elem_refusal_lem e = sym (merge_three (unsized e.name) (any outside_name e.name) _ (ltb max_keys (length e.keys)) _ _ _ _)

-- elements: the first, and the others
pub elems_refusal_lem : (e : Elem) (es : List Elem) → elems_refusal (e ∷ es) ≡ min (elem_refusal e) (elems_refusal es)
unfolding elems_refusal elem_refusal any
elems_refusal_lem e es = sym (refusal_merge _ _ _ _ (any elem_over es) (any elem_stray es) (any elem_misplaced es) _)

-- a path: the count of its elements, and they
pub path_refusal_lem : (p : Path) → path_refusal p ≡ min (least_refusal (ltb max_elements (length p)) false false false) (elems_refusal p)
unfolding path_refusal elems_refusal over_limit stray_byte misplaced key_twice ◌or◌
path_refusal_lem p = sym (refusal_merge (ltb max_elements (length p)) false false false (any elem_over p) (any elem_stray p) (any elem_misplaced p) _)

-- a good path is one that gets no number
pub path_clear : (p : Path) → eqb (path_refusal p) clear ≡ good_path p
unfolding path_refusal good_path
path_clear p = refusal_clear (over_limit p) (stray_byte p) (misplaced p) (key_twice p)

-- ---- parts that get no number

name_high : (s : Str) → name_refusal s ≤ clear
unfolding name_refusal
name_high s = refusal_high _ _ _ _

elem_name_high : (s : Str) → elem_name_refusal s ≤ clear
unfolding elem_name_refusal
elem_name_high s = refusal_high _ _ _ _

value_high : (s : Str) → value_refusal s ≤ clear
unfolding value_refusal
value_high s = refusal_high _ _ _ _

key_high : (n v : Str) (again : Bool) → key_refusal n v again ≤ clear
unfolding key_refusal
key_high n v again = refusal_high _ _ _ _

pub keys_high : (ks : List Key) → keys_refusal ks ≤ clear
unfolding keys_refusal
keys_high ks = refusal_high _ _ _ _

elem_high : (e : Elem) → elem_refusal e ≤ clear
unfolding elem_refusal
elem_high e = refusal_high _ _ _ _

pub elems_high : (es : List Elem) → elems_refusal es ≤ clear
unfolding elems_refusal
elems_high es = refusal_high _ _ _ _

pub keys_none : keys_refusal [] ≡ clear
unfolding keys_refusal least_refusal any twice whether◌then◌else◌
keys_none = refl

pub elems_none : elems_refusal [] ≡ clear
unfolding elems_refusal least_refusal any whether◌then◌else◌
elems_none = refl

-- two get no number where neither does
clear_min : (a b : ℕ) → a ≤ clear → b ≤ clear → eqb (min a b) clear ≡ (eqb a clear and eqb b clear)
unfolding ◌and◌
clear_min a b h l =
    by (eqb a clear)
    (λ u. let k : b ≤ a = omega (arith, eqb-true a clear u) in rw (u, min-eq_right k))
    (λ u. by (leb a b)
    (λ e. rw (min-eq_left (leb-true a b e), u))
    (λ e. let k : b < a = leb-false a b e in
    let j : b ≤ a = omega arith in
    let m : eqb b clear ≡ false = ne_eqb b clear (λ z. omega arith) in
    rw (min-eq_right j, u) m))

last_clear : (a b c d : Bool) → not (a or b or c or d) ≡ (not (a or b or c or false) and not d)
unfolding ◌or◌ ◌and◌
last_clear true b c d = refl
last_clear false true c d = refl
last_clear false false true d = refl
last_clear false false false true = refl
last_clear false false false false = refl

no_name_flags : (n : Bool) → (not (n || false) or false) ≡ not n
unfolding ◌or◌
no_name_flags true = refl
no_name_flags false = refl

no_name_byte : (b : ℕ) → (outside_name b or is_star b) ≡ no_name b
unfolding outside_name ◌or◌
no_name_byte b =
    by (is_star b)
    (λ u. let z : b ≡ 42 = eqb-true b 42 u in rw z)
    (λ u. rw u (no_name_flags (is_name b)))

any_either : (f g h : ℕ → Bool) → ((b : ℕ) → (f b or g b) ≡ h b) → (s : Str) → (any f s or any g s) ≡ any h s
unfolding any
any_either f g h e [] = or_none_lem false
any_either f g h e (b ∷ s) = or_swap (f b) (any f s) (g b) (any g s) ∙ rw (e b, any_either f g h e s)

plain_no_name : (s : Str) → all is_name s ≡ true → any no_name s ≡ false
unfolding all any ◌or◌
plain_no_name [] e = refl
plain_no_name (b ∷ s) e = rw (and_l (is_name b) _ e) (plain_no_name s (and_r (is_name b) _ e))

-- what a scan of such bytes sees
pub plain_seen : (s : Str) → all is_name s ≡ true → (false ≡ any outside_name s) × (false ≡ any is_star s)
plain_seen s e =
    let h : (any outside_name s or any is_star s) ≡ false = any_either outside_name is_star no_name no_name_byte s ∙ plain_no_name s e in
    (sym (or_false_l _ _ h), sym (or_false_r (any outside_name s) _ h))

-- a good name
pub name_good : (s : Str) → good name_refusal s ≡ not (unsized s or any no_name s)
unfolding name_refusal
name_good s =
    let e : (unsized s or any outside_name s or starred s or false) ≡ (unsized s or any no_name s) = rw (or_none_lem (starred s), any_either outside_name is_star no_name no_name_byte s) in
    refusal_clear (unsized s) (any outside_name s) (starred s) false ∙ ap not e

pub elem_name_good : (s : Str) → good elem_name_refusal s ≡ (good name_refusal s and not (same s (bytes "...")))
unfolding elem_name_refusal name_refusal
elem_name_good s =
    rw (
      refusal_clear (unsized s) (any outside_name s) (starred s or same s (bytes "...")) false,
      refusal_clear (unsized s) (any outside_name s) (starred s) false,
      or_assoc (starred s) (same s (bytes "...")) false,
      or_none_lem (same s (bytes "...")),
    )
    (last_clear (unsized s) (any outside_name s) (starred s) _)

-- a good key
pub key_good : (k : Key) → good alone_refusal k ≡ (good name_refusal k.name and good value_refusal k.value)
unfolding alone_refusal key_refusal name_refusal value_refusal ◌or◌
key_good k =
    ap (λ (n : ℕ). eqb n clear)
    (sym (refusal_merge (unsized k.name) (any outside_name k.name) (starred k.name) false (unsized k.value) (any outside_value k.value) (half_wild k.value) false))
    ∙ clear_min _ _ (name_high k.name) (value_high k.value)

again_good : (k : Key) (again : Bool) → eqb (key_refusal k.name k.value again) clear ≡ (good alone_refusal k and not again)
unfolding alone_refusal key_refusal
again_good k again =
    refusal_clear _ _ _ again ∙ last_clear _ _ _ again ∙ ap (λ (b : Bool). b and not again) (sym (refusal_clear _ _ _ false))

keys_swap : (a b g t : Bool) → ((a and not g) and (b and not t)) ≡ ((a and b) and not (g or t))
unfolding ◌and◌ ◌or◌
keys_swap true true true t = refl
keys_swap true true false t = refl
keys_swap true false true t = refl
keys_swap true false false t = refl
keys_swap false b g t = refl

-- good keys, no two with the same name
pub keys_good : (ks : List Key) → good keys_refusal ks ≡ (all (good alone_refusal) ks and not (twice same_name ks))
unfolding all twice ◌and◌
keys_good [] = rw keys_none
keys_good (k ∷ ks) =
    rw (keys_refusal_lem k ks)
    (clear_min _ _ (key_high k.name k.value _) (keys_high ks)
    ∙ rw (again_good k (any (same_name k) ks), keys_good ks)
    (keys_swap (good alone_refusal k) (all (good alone_refusal) ks) (any (same_name k) ks) (twice same_name ks)))

over_good : (b : Bool) → eqb (least_refusal b false false false) clear ≡ not b
unfolding ◌or◌
over_good b = let e : (b or false) ≡ b = or_none_lem b in refusal_clear b false false false ∙ ap not e

-- a good element
pub elem_good : (e : Elem) → good elem_refusal e ≡ ((good elem_name_refusal e.name and not (ltb max_keys (length e.keys))) and good keys_refusal e.keys)
elem_good e =
    let n = elem_name_refusal e.name in
    let m = least_refusal (ltb max_keys (length e.keys)) false false false in
    let h : min n m ≤ clear = omega (arith, min-le_left n m, elem_name_high e.name) in
    rw (elem_refusal_lem e)
    (clear_min (min n m) _ h (keys_high e.keys) ∙ rw (clear_min n m (elem_name_high e.name) (refusal_high _ _ _ _), over_good (ltb max_keys (length e.keys))))

elems_good : (es : List Elem) → good elems_refusal es ≡ all (good elem_refusal) es
unfolding all
elems_good [] = rw elems_none
elems_good (e ∷ es) = rw (elems_refusal_lem e es) (clear_min _ _ (elem_high e) (elems_high es) ∙ ap (λ (b : Bool). good elem_refusal e and b) (elems_good es))

-- a path of good elements, at most 16, is good
pub path_good : (p : Path) → length p ≤ max_elements → good_path p ≡ all (good elem_refusal) p
unfolding ◌and◌
path_good p h =
    sym (path_clear p)
    ∙ rw (path_refusal_lem p)
    (clear_min _ _ (refusal_high _ _ _ _) (elems_high p) ∙ rw (over_good (ltb max_elements (length p)), le-ltb max_elements (length p) h) (elems_good p))
