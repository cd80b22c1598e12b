-- Header lines: one turn of each scan, and each way out of it.
use mathlib.Core.Path.{◌≡◌, refl, sym, ap, ◌∙◌, subst}
use mathlib.Core.Bool.{Bool, true, false, not}
use mathlib.Core.List.{List, [], ◌∷◌}
use mathlib.Core.Option.{Option, none, some}
use Rattle.std.specs.Prelude.{None}
use Prim.Native.Nat.{ℕ, zero, suc, ◌+◌, ◌-◌, ◌≤◌, ◌<◌}
use native.Mathlib.Numerals.{add-one}
use native.Mathlib.Omega.{arith}
use lib.Dec.{ltb}
use lib.ListN.{length, take, drop, get_or, length-drop, drop_of_length-le}
use lib.Seq.{drop-cons, take-nil, take-take, drop-drop, get_or-drop, length-take-le}
use borrow.Author.Tests.{eqb-true, eqb-false, eq-eqb, ne_eqb, lt-ltb, le-ltb, ltb-true, ltb-false, not-false}
use Rattle.limits.specs.Limits.{max_request_string, max_header_lines}
use Rattle.text.specs.Test.{◌and◌, ◌or◌, whether◌then◌else◌, all, absent}
use Rattle.text.specs.Byte.{is_print}
use Rattle.text.specs.String.{Str}
use Rattle.text.specs.Frame.{part}
use Rattle.text.proofs.Tests.{by, clash, both, and_l, and_r, or_false_l, or_false_r}
use Rattle.text.proofs.Frames.{no_part}
use Rattle.text_affix.specs.Affix.{empty}
use Rattle.text_search.specs.Search.{until, is, unprinted}
use Rattle.text_search.proofs.Searching.{until_fits, found, passed, ran_out, found_low, found_high, printed}
use Rattle.policy.specs.Text.{is_header_byte}
use Rattle.rpc.specs.Request.{Line, longer, cut_at, line_of, cons, line_then, lines_of, headers_of, bad_text, bad_headers}
use Rattle.rpc_request.specs.Steps.{cut_here, Cut, LineTo, LineEnd}

-- ---- parts

here_on : (h : Str) (i : ℕ) → i < length h → drop i h ≡ get_or h i 0 ∷ drop (i + 1) h
here_on h i l = rw add-one (drop-cons h i 0 l)

part_cons : (h : Str) (i e : ℕ) → i < length h → i < e → part h i e ≡ get_or h i 0 ∷ part h (i + 1) e
part_cons h i e l k = let q : e - i ≡ suc (e - (i + 1)) = omega arith in rw (q, here_on h i l)

pub part_long : (h : Str) (i e : ℕ) → e ≤ length h → length (part h i e) ≡ e - i
part_long h i e l = length-take-le (e - i) (drop i h) (omega (arith, length-drop i h))

-- ---- byte_from

cut_hit : (b x : ℕ) (r : Str) → x ≡ b → cut_at b (x ∷ r) ≡ some ([], r)
unfolding cut_at whether◌then◌else◌
cut_hit b x r e = rw (eq-eqb x b e)

cut_miss : (b x : ℕ) (r : Str) → (x ≡ b → ⊥) → cut_at b (x ∷ r) ≡ longer x (cut_at b r)
unfolding cut_at whether◌then◌else◌
cut_miss b x r e = rw (ne_eqb x b e)

cut_nil : (b : ℕ) → cut_at b [] ≡ none
unfolding cut_at
cut_nil b = refl

longer_some : (c : ℕ) (x y : Str) → longer c (some (x, y)) ≡ some (c ∷ x, y)
unfolding longer
longer_some c x y = refl

longer_none : (c : ℕ) → longer c none ≡ none
unfolding longer
longer_none c = refl

module _ (h : Str) where
  pub here_some : (i e : ℕ) → e < length h → cut_here h i e ≡ some (part h i e, drop (e + 1) h)
  unfolding cut_here whether◌then◌else◌
  here_some i e l = rw (lt-ltb e (length h) l)

  pub here_none : (i e : ℕ) → length h ≤ e → cut_here h i e ≡ none
  unfolding cut_here whether◌then◌else◌
  here_none i e l = rw (le-ltb e (length h) l)

  longer_here : (i e : ℕ) → i < length h → i < e → longer (get_or h i 0) (cut_here h (i + 1) e) ≡ cut_here h i e
  longer_here i e l k =
      by (ltb e (length h))
      (λ t. let z = ltb-true _ _ t in ap (longer (get_or h i 0)) (here_some (i + 1) e z) ∙ longer_some _ _ _ ∙ ap (λ (x : Str). some (x, drop (e + 1) h)) (sym (part_cons h i e l k)) ∙ sym (here_some i e z))
      (λ t. let z = ltb-false _ _ t in ap (longer (get_or h i 0)) (here_none (i + 1) e z) ∙ longer_none _ ∙ sym (here_none i e z))

  module _ (b i : ℕ) where
    cut_pass : (e : ℕ) → i < length h → i < e → (get_or h i 0 ≡ b → ⊥) → cut_at b (drop (i + 1) h) ≡ cut_here h (i + 1) e → cut_at b (drop i h) ≡ cut_here h i e
    cut_pass e l k n g = ap (cut_at b) (here_on h i l) ∙ cut_miss b _ _ n ∙ ap (longer (get_or h i 0)) g ∙ longer_here i e l k

    cut_found : i < length h → get_or h i 0 ≡ b → cut_at b (drop i h) ≡ cut_here h i i
    cut_found l e = ap (cut_at b) (here_on h i l) ∙ cut_hit b _ _ e ∙ ap (λ (x : Str). some (x, drop (i + 1) h)) (sym (no_part h i)) ∙ sym (here_some i i l)

    cut_over : length h ≤ i → cut_at b (drop i h) ≡ cut_here h i i
    cut_over l = ap (cut_at b) (drop_of_length-le h l) ∙ cut_nil b ∙ sym (here_none i i l)

  -- the cut from i on is where a search from i on finds b; n bytes stand from i on
  cut_from : (b n i : ℕ) → n + i ≡ length h → cut_at b (drop i h) ≡ cut_here h i (i + until (is b) (drop i h))
  cut_from b zero i e =
      let z : length h ≤ i = omega arith in
      let k : i + 0 ≡ i = omega arith in rw (ran_out (is b) h i z, k) (cut_over b i z)
  cut_from b (suc n) i e =
      let l : i < length h = omega arith in
      by (is b (get_or h i 0))
      (λ t. let k : i + 0 ≡ i = omega arith in rw (found (is b) h i l t, k) (cut_found b i l (eqb-true _ _ t)))
      (λ t. let g = cut_from b n (i + 1) (omega arith) in
      let k : i + (until (is b) (drop (i + 1) h) + 1) ≡ (i + 1) + until (is b) (drop (i + 1) h) = omega arith in
      rw (passed (is b) h i l t, k) (cut_pass b i _ l (omega arith) (eqb-false _ _ t) g))

  pub cut_at_lem : (b at r : ℕ) → at ≤ length h → r ≡ at + until (is b) (drop at h) → Cut b h at r
  cut_at_lem b at r l e = record {
    is = rw e (cut_from b (length h - at) at (omega arith));
    low = found_low (is b) h at r l e;
    high = found_high (is b) h at r l e;
  }

-- ---- a search within a search

-- what is found from i on is found from a later place on too, if it is not before that
module _ (p : ℕ → Bool) (s : Str) where
  until_after : (d i : ℕ) → d ≤ until p (drop i s) → (d + i) + until p (drop (d + i) s) ≡ i + until p (drop i s)
  until_after zero i k = let z : 0 + i ≡ i = omega arith in ap (λ (n : ℕ). n + until p (drop n s)) z
  until_after (suc d) i k =
      let l : i < length s = omega (arith, until_fits p (drop i s), length-drop i s) in
      by (p (get_or s i 0))
      (λ t. absurd (omega (arith, found p s i l t)))
      (λ t. let q = passed p s i l t in
      let z : suc d + i ≡ d + (i + 1) = omega arith in
      rw z (until_after d (i + 1) (omega arith) ∙ omega arith))

  pub until_later : (i j : ℕ) → i ≤ j → j ≤ i + until p (drop i s) → j + until p (drop j s) ≡ i + until p (drop i s)
  until_later i j l k = let z : (j - i) + i ≡ j = omega arith in subst (λ (n : ℕ). n + until p (drop n s) ≡ i + until p (drop i s)) z (until_after (j - i) i (omega arith))

-- what is found in the first n bytes is what is found in all of them
until_take : (p : ℕ → Bool) (n : ℕ) (s : Str) → until p (take n s) < length (take n s) → until p s ≡ until p (take n s)
unfolding until whether◌then◌else◌
until_take p zero s l = absurd (omega arith)
until_take p (suc n) [] l = refl
until_take p (suc n) (x ∷ s) l = by (p x) (λ t. rw t) (λ t. rw t (ap suc (until_take p n s (let z = rw t at l in omega (arith, z)))))

until_in : (p : ℕ → Bool) (n : ℕ) (s : Str) → until p s < n → until p (take n s) ≡ until p s
unfolding until whether◌then◌else◌
until_in p zero s l = absurd (omega arith)
until_in p (suc n) [] l = refl
until_in p (suc n) (x ∷ s) l = by (p x) (λ t. rw t) (λ t. rw t (ap suc (until_in p n s (let z = rw t at l in omega (arith, z)))))

-- the byte that is found passes the test
until_hit : (p : ℕ → Bool) (s : Str) → until p s < length s → p (get_or s (until p s) 0) ≡ true
unfolding until whether◌then◌else◌
until_hit p [] l = absurd (omega arith)
until_hit p (x ∷ s) l = by (p x) (λ t. rw t t) (λ t. rw t (until_hit p s (let z = rw t at l in omega (arith, z))))

-- how long a cut is; d where there is none
abbrev cut_length : ℕ → Option (Str × Str) → ℕ
cut_length d none = d
cut_length d (some r) = length r.0

here_long : (h : Str) (i e : ℕ) → i ≤ e → e ≤ length h → cut_length (length h - i) (cut_here h i e) ≡ e - i
here_long h i e l k =
    by (ltb e (length h))
    (λ t. ap (cut_length (length h - i)) (here_some h i e (ltb-true _ _ t)) ∙ part_long h i e k)
    (λ t. let z = ltb-false e (length h) t in ap (cut_length (length h - i)) (here_none h i e z) ∙ omega arith)

-- a cut is at one place only
pub cut_same : (b : ℕ) (h : Str) (i e f : ℕ) → Cut b h i e → Cut b h i f → e ≡ f
cut_same b h i e f x y =
    let z : e - i ≡ f - i = sym (here_long h i e x.low x.high) ∙ ap (cut_length (length h - i)) (sym x.is ∙ y.is) ∙ here_long h i f y.low y.high in
    omega (arith, z, x.low, y.low)

-- a cut is where a search finds its byte
pub cut_until : (b : ℕ) (h : Str) (i e : ℕ) → Cut b h i e → e ≡ i + until (is b) (drop i h)
cut_until b h i e k = cut_same b h i e _ k (cut_at_lem h b i _ (omega (arith, k.low, k.high)) refl)

-- ---- line_end

line_none : line_of none ≡ none
unfolding line_of
line_none = refl

abbrev good : Str → Str → Bool
good x y = not (empty x) and all is_header_byte x and all is_print y

line_test : (x y : Str) → absent (line_of (some (x, y))) ≡ not (good x y)
unfolding line_of absent whether◌then◌else◌
line_test x y = by (good x y) (λ t. rw t) (λ t. rw t)

line_is : (x y : Str) → absent (line_of (some (x, y))) ≡ false → line_of (some (x, y)) ≡ some (record { name = x; value = y })
unfolding line_of whether◌then◌else◌
line_is x y h = rw (not-false (good x y) (sym (line_test x y) ∙ h))

unread : {A : Type 0} {o : Option A} → o ≡ none → absent o ≡ true
unfolding absent
unread e = rw e

good_nameless : (x y : Str) → length x ≡ 0 → good x y ≡ false
unfolding empty ◌and◌
good_nameless x y e = rw (eq-eqb (length x) 0 e)

good_ill : (x y : Str) → all is_header_byte x ≡ false → good x y ≡ false
unfolding ◌and◌
good_ill x y e = by (empty x) (λ t. rw t) (λ t. rw (t, e))

good_last : (x y : Str) → (length x ≡ 0 → ⊥) → all is_header_byte x ≡ true → good x y ≡ all is_print y
unfolding empty ◌and◌
good_last x y n e = rw (ne_eqb (length x) 0 n, e)

good_print : (x y : Str) → good x y ≡ true → all is_print y ≡ true
good_print x y e = and_r (all is_header_byte x) (all is_print y) (and_r (not (empty x)) (all is_header_byte x and all is_print y) e)

module _ (l : Str) (c : ℕ) (k : Cut 58 l 0 c) where
  pub line_cut : c < length l → cut_at 58 l ≡ some (part l 0 c, drop (c + 1) l)
  line_cut h = k.is ∙ here_some l 0 c h

  line_judged : c < length l → absent (line_of (cut_at 58 l)) ≡ not (good (part l 0 c) (drop (c + 1) l))
  line_judged h = ap (λ (o : Option (Str × Str)). absent (line_of o)) (line_cut h) ∙ line_test _ _

  pub line_uncut : c ≡ length l → absent (line_of (cut_at 58 l)) ≡ true
  line_uncut e = unread (ap line_of (k.is ∙ here_none l 0 c (omega arith)) ∙ line_none)

  -- value_from
  module _ (g : absent (line_of (cut_at 58 l)) ≡ false) where
    pub line_there : c < length l
    line_there = by (ltb c (length l)) (λ t. ltb-true _ _ t) (λ t. clash (line_uncut (let x = ltb-false c (length l) t in let y = k.high in omega arith)) g)

    pub line_whole : line_of (cut_at 58 l) ≡ some (record { name = part l 0 c; value = drop (c + 1) l })
    line_whole = let e = line_cut line_there in ap line_of e ∙ line_is _ _ (ap (λ (o : Option (Str × Str)). absent (line_of o)) (sym e) ∙ g)

    pub tail_long : length (take (length l - (c + 1)) (drop (c + 1) l)) + (c + 1) ≡ length l
    tail_long = let h = line_there in omega (arith, length-take-le (length l - (c + 1)) (drop (c + 1) l) (omega (arith, length-drop (c + 1) l)))

-- the parts of a part
drop_take : (m n : ℕ) (s : Str) → drop m (take n s) ≡ take (n - m) (drop m s)
drop_take zero n s = let z : n - 0 ≡ n = omega arith in rw z
drop_take (suc m) zero [] = let z : 0 - suc m ≡ 0 = omega arith in rw z
drop_take (suc m) zero (x ∷ s) = let z : 0 - suc m ≡ 0 = omega arith in rw z
drop_take (suc m) (suc n) [] = sym (take-nil (suc n - suc m))
drop_take (suc m) (suc n) (x ∷ s) = let z : suc n - suc m ≡ n - m = omega arith in rw z (drop_take m n s)

module _ (h : Str) (i c e : ℕ) (low : i ≤ c) (high : c < e) where
  pub name_part : part (part h i e) 0 (c - i) ≡ part h i c
  name_part =
      let o : (c - i) - 0 ≡ c - i = omega arith in
      ap (λ (n : ℕ). take n (part h i e)) o ∙ take-take (c - i) (e - i) (drop i h) (omega arith)

  rest_part : drop ((c - i) + 1) (part h i e) ≡ part h (c + 1) e
  rest_part =
      let z : (e - i) - ((c - i) + 1) ≡ e - (c + 1) = omega arith in
      let w : i + ((c - i) + 1) ≡ c + 1 = omega arith in
      drop_take ((c - i) + 1) (e - i) (drop i h) ∙ ap (take ((e - i) - ((c - i) + 1))) (drop-drop ((c - i) + 1) i h ∙ ap (λ (n : ℕ). drop n h) w) ∙ ap (λ (n : ℕ). take n (drop (c + 1) h)) z

module _ (h : Str) (i c e : ℕ) (k : Cut 58 h i c) (high : c < e) (within : e ≤ length h) where
  pub cut_part : Cut 58 (part h i e) 0 (c - i)
  cut_part =
      let z : c - i ≡ until (is 58) (drop i h) = omega (arith, cut_until 58 h i c k) in
      let w : until (is 58) (drop i h) < e - i = omega (arith, k.low) in
      let v = until_in (is 58) (e - i) (drop i h) w in
      cut_at_lem (part h i e) 58 0 (c - i) (omega arith) (omega (arith, z, v))

  -- whether the line from i to e is well formed
  line_parts : absent (line_of (cut_at 58 (part h i e))) ≡ not (good (part h i c) (part h (c + 1) e))
  line_parts =
      let z : c - i < length (part h i e) = omega (arith, part_long h i e within, k.low) in
      line_judged (part h i e) (c - i) cut_part z ∙ ap (λ (x : Str). not (good x (drop ((c - i) + 1) (part h i e)))) (name_part h i c e k.low high) ∙ ap (λ (y : Str). not (good (part h i c) y)) (rest_part h i c e k.low high)

-- the first LF from i on
abbrev pub first_lf : Str → ℕ → ℕ
first_lf h i = i + until (is 10) (drop i h)

pub lf_cut : (h : Str) (i : ℕ) → i < length h → Cut 10 h i (first_lf h i)
lf_cut h i l = cut_at_lem h 10 i _ (omega arith) refl

lf_byte : (h : Str) (i : ℕ) → i < length h → first_lf h i < length h → get_or h (first_lf h i) 0 ≡ 10
lf_byte h i l z = sym (get_or-drop i h _ 0) ∙ eqb-true _ _ (until_hit (is 10) (drop i h) (omega (arith, length-drop i h)))

-- the colon of a good line stands before its LF
pub colon_before : (h : Str) (i c : ℕ) → i < length h → Cut 58 h i c → absent (line_of (cut_at 58 (part h i (first_lf h i)))) ≡ false → c < first_lf h i
colon_before h i c l k g =
    let e = first_lf h i in
    let m = cut_at_lem (part h i e) 58 0 _ (omega arith) refl in
    let t = line_there (part h i e) _ m g in
    let q = until_take (is 58) (e - i) (drop i h) (omega (arith, t)) in
    omega (arith, cut_until 58 h i c k, q, t, part_long h i e (lf_cut h i l).high)

unprinted_lf : unprinted 10 ≡ true
unfolding unprinted
unprinted_lf = refl

print_is : (x : ℕ) → unprinted x ≡ false → is_print x ≡ true
unfolding unprinted
print_is x t = not-false _ t

printed_not_lf : (x : ℕ) → is_print x ≡ true → is 10 x ≡ false
printed_not_lf x t = ne_eqb x 10 (λ z. clash (ap unprinted z ∙ unprinted_lf) (printed x t))

header_not_lf : (x : ℕ) → is_header_byte x ≡ true → is 10 x ≡ false
unfolding is_header_byte
header_not_lf x t = ne_eqb x 10 (λ z. clash t (ap is_header_byte z))

-- bytes that print, and then an LF
until_lf : (p : ℕ → Bool) → ((x : ℕ) → is_print x ≡ true → p x ≡ false) → p 10 ≡ true → (n : ℕ) (s : Str) → n < length s → all is_print (take n s) ≡ true → get_or s n 0 ≡ 10 → until p s ≡ n
unfolding until whether◌then◌else◌ all
until_lf p f t n [] l a e = absurd (omega arith)
until_lf p f t zero (x ∷ s) l a e = let z : p x ≡ true = ap p e ∙ t in rw z
until_lf p f t (suc n) (x ∷ s) l a e = rw (f x (and_l _ _ a)) (ap suc (until_lf p f t n s (omega arith) (and_r _ _ a) e))

-- header bytes, and then a colon: the LF comes later
colon_first : (n : ℕ) (s : Str) → n < length s → all is_header_byte (take n s) ≡ true → get_or s n 0 ≡ 58 → n < until (is 10) s
unfolding until whether◌then◌else◌ all
colon_first n [] l a e = absurd (omega arith)
colon_first zero (x ∷ s) l a e = let z : is 10 x ≡ false = ap (is 10) e in rw z (omega arith)
colon_first (suc n) (x ∷ s) l a e = rw (header_not_lf x (and_l _ _ a)) (let z = colon_first n s (omega arith) (and_r _ _ a) e in omega arith)

-- what stands before the first byte that does not print
all_printed : (s : Str) → all is_print (take (until unprinted s) s) ≡ true
unfolding until whether◌then◌else◌ all
all_printed [] = refl
all_printed (x ∷ s) = by (unprinted x) (λ t. rw t) (λ t. rw t (both _ _ (print_is x t) (all_printed s)))

-- ---- are_lines

lines_nil : (n : ℕ) → lines_of n [] ≡ some []
unfolding lines_of empty whether◌then◌else◌
lines_nil zero = refl
lines_nil (suc n) = refl

lines_some : (n : ℕ) (s : Str) → 0 < length s → lines_of (suc n) s ≡ line_then (lines_of n) (cut_at 10 s)
unfolding lines_of empty whether◌then◌else◌
lines_some n s l = rw (ne_eqb (length s) 0 (λ z. omega arith))

then_some : (n : ℕ) (x y : Str) → line_then (lines_of n) (some (x, y)) ≡ cons (line_of (cut_at 58 x)) (lines_of n y)
unfolding line_then
then_some n x y = refl

then_none : (n : ℕ) → line_then (lines_of n) none ≡ none
unfolding line_then
then_none n = refl

module _ {A : Type 0} where
  cons_none : (l : Option (List A)) → cons none l ≡ none
  unfolding cons
  cons_none l = refl

  cons_read : (a : A) (l : Option (List A)) → absent (cons (some a) l) ≡ absent l
  unfolding cons absent
  cons_read a none = refl
  cons_read a (some l) = refl

  pub read_is : (o : Option A) → absent o ≡ false → (a : A) × (o ≡ some a)
  unfolding absent
  read_is none h = clash refl h
  read_is (some a) h = (a, refl)

  unread_is : (o : Option A) → absent o ≡ true → o ≡ none
  unfolding absent
  unread_is none h = refl
  unread_is (some a) h = clash h refl

-- lines from i on, read with room for `fuel` of them
pub record Reading (h : Str) (i fuel : ℕ) : Type 0 where
  pub inside : i ≤ length h
  pub enough : length h ≤ i + fuel

pub reading_on : (h : Str) (i e fuel : ℕ) → Reading h i (suc fuel) → i ≤ e → e < length h → Reading h (e + 1) fuel
reading_on h i e fuel r l k = record { inside = omega arith; enough = omega (arith, r.enough) }

module _ (h : Str) (i e fuel : ℕ) (l : i < length h) (k : Cut 10 h i e) where
  lines_open : lines_of (suc fuel) (drop i h) ≡ line_then (lines_of fuel) (cut_here h i e)
  lines_open = lines_some fuel (drop i h) (omega (arith, length-drop i h)) ∙ ap (line_then (lines_of fuel)) k.is

  pub lines_cut : e < length h → lines_of (suc fuel) (drop i h) ≡ cons (line_of (cut_at 58 (part h i e))) (lines_of fuel (drop (e + 1) h))
  lines_cut z = lines_open ∙ ap (line_then (lines_of fuel)) (here_some h i e z) ∙ then_some fuel _ _

  pub lines_uncut : e ≡ length h → absent (lines_of (suc fuel) (drop i h)) ≡ true
  lines_uncut z = unread (lines_open ∙ ap (line_then (lines_of fuel)) (here_none h i e (omega arith)) ∙ then_none fuel)

  pub lines_bad : e < length h → absent (line_of (cut_at 58 (part h i e))) ≡ true → absent (lines_of (suc fuel) (drop i h)) ≡ true
  lines_bad z g = unread (lines_cut z ∙ ap (λ (o : Option Line). cons o (lines_of fuel (drop (e + 1) h))) (unread_is _ g) ∙ cons_none _)

  pub lines_on : e < length h → absent (line_of (cut_at 58 (part h i e))) ≡ false → absent (lines_of (suc fuel) (drop i h)) ≡ absent (lines_of fuel (drop (e + 1) h))
  lines_on z g = let a = read_is _ g in ap absent (lines_cut z ∙ ap (λ (o : Option Line). cons o (lines_of fuel (drop (e + 1) h))) a.1) ∙ cons_read _ _

-- each way out of line_end; c is where the colon stands, or the end
module _ (h : Str) (i c : ℕ) (l : i < length h) (k : Cut 58 h i c) where
  -- no good line stands at i
  line_end_bad : (first_lf h i < length h → absent (line_of (cut_at 58 (part h i (first_lf h i)))) ≡ false → ⊥) → LineEnd h i None
  line_end_bad f n =
      by (ltb (first_lf h i) (length h))
      (λ t. by (absent (line_of (cut_at 58 (part h i (first_lf h i))))) (λ g. lines_bad h i _ n l (lf_cut h i l) (ltb-true _ _ t) g) (λ g. absurd (f (ltb-true _ _ t) g)))
      (λ t. let z = ltb-false (first_lf h i) (length h) t in lines_uncut h i _ n l (lf_cut h i l) (omega (arith, (lf_cut h i l).high)))

  pub line_colonless : c ≡ length h → LineEnd h i None
  line_colonless q = line_end_bad (λ z g. omega (arith, colon_before h i c l k g))

  line_is_good : first_lf h i < length h → absent (line_of (cut_at 58 (part h i (first_lf h i)))) ≡ false → good (part h i c) (part h (c + 1) (first_lf h i)) ≡ true
  line_is_good z g = not-false _ (sym (line_parts h i c _ k (colon_before h i c l k g) (omega arith)) ∙ g)

  pub line_nameless : c ≡ i → LineEnd h i None
  line_nameless q = line_end_bad (λ z g. clash (line_is_good z g) (good_nameless _ _ (part_long h i c k.high ∙ omega arith)))

  pub line_ill : all is_header_byte (part h i c) ≡ false → LineEnd h i None
  line_ill q = line_end_bad (λ z g. clash (line_is_good z g) (good_ill _ _ q))

  -- e is where the first byte behind the colon stands that does not print
  module _ (e : ℕ) (m : e ≡ c + 1 + until unprinted (drop (c + 1) h)) where
    print_end_is : first_lf h i < length h → absent (line_of (cut_at 58 (part h i (first_lf h i)))) ≡ false → e ≡ first_lf h i
    print_end_is z g =
        let b = colon_before h i c l k g in
        let w : c + 1 + (first_lf h i - (c + 1)) ≡ first_lf h i = omega arith in
        let v = until_lf unprinted printed unprinted_lf (first_lf h i - (c + 1)) (drop (c + 1) h) (omega (arith, length-drop (c + 1) h)) (good_print _ _ (line_is_good z g)) (get_or-drop (c + 1) h _ 0 ∙ ap (λ (n : ℕ). get_or h n 0) w ∙ lf_byte h i l z) in
        omega (arith, v)

    pub line_endless : length h ≤ e → LineEnd h i None
    line_endless q = line_end_bad (λ z g. omega (arith, print_end_is z g))

    pub line_unprinted : (get_or h e 0 ≡ 10 → ⊥) → LineEnd h i None
    line_unprinted q = line_end_bad (λ z g. q (ap (λ (n : ℕ). get_or h n 0) (print_end_is z g) ∙ lf_byte h i l z))

    module _ (inside : e < length h) (named : c ≡ i → ⊥) (name : all is_header_byte (part h i c) ≡ true) (ends : get_or h e 0 ≡ 10) where
      value_print : all is_print (part h (c + 1) e) ≡ true
      value_print = let w : e - (c + 1) ≡ until unprinted (drop (c + 1) h) = omega arith in ap (λ (n : ℕ). all is_print (take n (drop (c + 1) h))) w ∙ all_printed (drop (c + 1) h)

      lf_here : first_lf h i ≡ e
      lf_here =
          let u = cut_until 58 h i c k in
          let d = length-drop i h in
          let x : c - i ≡ until (is 58) (drop i h) = omega arith in
          let y : get_or (drop i h) (c - i) 0 ≡ 58 = ap (λ (n : ℕ). get_or (drop i h) n 0) x ∙ eqb-true _ _ (until_hit (is 58) (drop i h) (omega (arith, k.low))) in
          let b = colon_first (c - i) (drop i h) (omega (arith, k.low)) name y in
          let w : c + 1 + (e - (c + 1)) ≡ e = omega arith in
          let v = until_lf (is 10) printed_not_lf refl (e - (c + 1)) (drop (c + 1) h) (omega (arith, length-drop (c + 1) h)) value_print (get_or-drop (c + 1) h _ 0 ∙ ap (λ (n : ℕ). get_or h n 0) w ∙ ends) in
          sym (until_later (is 10) h i (c + 1) (omega (arith, k.low)) (omega (arith, b, k.low))) ∙ omega (arith, v)

      pub line_ended : LineTo h i e
      line_ended = record {
        cut = subst (Cut 10 h i) lf_here (lf_cut h i l);
        inside = omega arith;
        good = line_parts h i c e k (omega arith) (omega arith) ∙ ap not (good_last _ _ (λ x. named (omega (arith, part_long h i c k.high, x, k.low))) name ∙ value_print);
      }

-- whether the lines are well formed is whether those from i on are
pub record Judging (h : Str) (i : ℕ) : Type 0 where
  pub fuel : ℕ
  pub reading : Reading h i fuel
  pub is : absent (headers_of h) ≡ absent (lines_of fuel (drop i h))

pub judging_start : (h : Str) → Judging h 0
judging_start h = record { fuel = length h; reading = record { inside = omega arith; enough = omega arith }; is = refl }

module _ (h : Str) (i : ℕ) (l : i < length h) where
  pub fueled : (fuel : ℕ) → Reading h i fuel → (g : ℕ) × (fuel ≡ suc g)
  fueled zero r = absurd (omega (arith, r.enough))
  fueled (suc g) r = (g, refl)

  module _ (j : Judging h i) where
    turn : (g : ℕ) × (Reading h i (suc g)) × (absent (headers_of h) ≡ absent (lines_of (suc g) (drop i h)))
    turn = let f = fueled j.fuel j.reading in (f.0, subst (Reading h i) f.1 j.reading, j.is ∙ ap (λ (n : ℕ). absent (lines_of n (drop i h))) f.1)

    pub judging_bad : LineEnd h i None → false ≡ not (absent (headers_of h))
    judging_bad k = let t = turn in ap not (sym (t.2 ∙ k t.0))

    pub judging_on : (e : ℕ) → LineTo h i e → Judging h (e + 1)
    judging_on e k =
        let t = turn in
        record { fuel = t.0; reading = reading_on h i e t.0 t.1 k.cut.low k.inside; is = t.2 ∙ lines_on h i e t.0 l k.cut k.inside k.good }

pub lines_over : (h : Str) (i n : ℕ) → length h ≤ i → lines_of n (drop i h) ≡ some []
lines_over h i n l = ap (lines_of n) (drop_of_length-le h l) ∙ lines_nil n

read_some : {A : Type 0} (a : A) → absent (some a) ≡ false
unfolding absent
read_some a = refl

pub judging_done : (h : Str) (i : ℕ) → Judging h i → length h ≤ i → true ≡ not (absent (headers_of h))
judging_done h i j l = ap not (sym (j.is ∙ ap absent (lines_over h i j.fuel l) ∙ read_some []))

-- ---- 40 and 41

pub bad_long : (h : Str) → max_header_lines < length h → true ≡ bad_headers h
unfolding bad_headers ◌or◌
bad_long h l = rw (lt-ltb max_header_lines (length h) l)

pub bad_lines : (h : Str) (r : Bool) → length h ≤ max_header_lines → r ≡ not (absent (headers_of h)) → not r ≡ bad_headers h
unfolding bad_headers ◌or◌
bad_lines h r l e = rw (le-ltb max_header_lines (length h) l, e) (by (absent (headers_of h)) (λ t. rw t) (λ t. rw t))

pub text_long : (t : Str) → max_request_string < length t → true ≡ bad_text t
unfolding bad_text ◌or◌
text_long t l = rw (lt-ltb max_request_string (length t) l)

pub text_bytes : (t : Str) (r : Bool) → length t ≤ max_request_string → r ≡ all is_print t → not r ≡ bad_text t
unfolding bad_text ◌or◌
text_bytes t r l e = rw (le-ltb max_request_string (length t) l) (ap not e)

pub headers_short : (h : Str) → bad_headers h ≡ false → length h ≤ max_header_lines
unfolding bad_headers
headers_short h e = ltb-false max_header_lines (length h) (or_false_l _ _ e)

pub headers_read : (h : Str) → bad_headers h ≡ false → absent (headers_of h) ≡ false
unfolding bad_headers
headers_read h e = or_false_r _ _ e
