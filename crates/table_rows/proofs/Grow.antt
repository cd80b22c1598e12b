-- A row more: the rows before stay as they were.
use mathlib.Core.Path.{◌≡◌, refl, sym, ap, ap₂, ◌∙◌}
use mathlib.Core.Bool.{Bool, true, false}
use mathlib.Core.List.{List, [], ◌∷◌, ◌++◌}
use Prim.Native.Nat.{ℕ, zero, suc, ◌+◌, ◌-◌, ◌≤◌, ◌<◌}
use native.Mathlib.Numerals.{add-one}
use native.Mathlib.Omega.{arith}
use borrow.Author.Tests.{eqb-true, eqb-false, ltb-true, lt-ltb}
use lib.Dec.{eqb, ltb, eqb-zero-suc, eqb-suc-zero, eqb-suc-suc, leb-suc-suc}
use lib.ListN.{length, get_or, set, length-append, get_or-append}
use lib.Seq.{get_or-set_same, get_or-set_other}
use Rattle.text.specs.Test.{◌and◌, ◌or◌, whether◌then◌else◌, any, twice}
use Rattle.text.specs.String.{Str, same}
use Rattle.text.proofs.Frames.{part_front}
use Rattle.text.proofs.Tests.{by, and_l, and_r, same→≡, same_sym, or_false_l, or_false_r, neither}
use Rattle.table_place.specs.Place.{str_end, str_in}
use Rattle.table_rows.specs.Strings.{rows_of, strings_in, Laid, place}

-- ---- rows by their numbers

module _ {A : Type 0} where
  pub rows_same : (g h : ℕ → A) (n i : ℕ) → ((j : ℕ) → i ≤ j → j < i + n → g j ≡ h j) → rows_of g n i ≡ rows_of h n i
  unfolding rows_of
  rows_same g h zero i e = refl
  rows_same g h (suc n) i e = ap₂ ◌∷◌ (e i (omega arith) (omega arith)) (rows_same g h n (suc i) (λ j a b. e j (omega arith) (omega arith)))

  pub rows_snoc : (g : ℕ → A) (n i : ℕ) → rows_of g (suc n) i ≡ rows_of g n i ++ (g (i + n) ∷ [])
  unfolding rows_of
  rows_snoc g zero i = let e : i + 0 ≡ i = omega arith in rw e
  rows_snoc g (suc n) i = let e : i + suc n ≡ suc i + n = omega arith in rw e (ap (λ (l : List A). g i ∷ l) (rows_snoc g n (suc i)))

  -- one row more
  pub rows_grow : (g h : ℕ → A) (n : ℕ) (x : A) → ((j : ℕ) → j < n → h j ≡ g j) → h n ≡ x → rows_of h (n + 1) 0 ≡ rows_of g n 0 ++ (x ∷ [])
  rows_grow g h n x e f =
      let a : 0 + n ≡ n = omega arith in
      ap (λ (k : ℕ). rows_of h k 0) (add-one n) ∙ rows_snoc h n 0
      ∙ ap₂ (λ (l : List A) (y : A). l ++ (y ∷ [])) (rows_same h g n 0 (λ j p q. e j (omega arith))) (ap h a ∙ f)

  pub rows_length : (g : ℕ → A) (n i : ℕ) → length (rows_of g n i) ≡ n
  unfolding rows_of
  rows_length g zero i = refl
  rows_length g (suc n) i = ap suc (rows_length g n (suc i))

  pub rows_at : (g : ℕ → A) (n i j : ℕ) (d : A) → j < n → get_or (rows_of g n i) j d ≡ g (i + j)
  unfolding rows_of
  rows_at g zero i j d h = absurd (omega arith)
  rows_at g (suc n) i zero d h = let e : i + 0 ≡ i = omega arith in rw e
  rows_at g (suc n) i (suc j) d h = let e : i + suc j ≡ suc i + j = omega arith in rows_at g n (suc i) j d (omega arith) ∙ ap g (sym e)

pub strings_length : (f starts : List ℕ) (n : ℕ) → length (strings_in f starts n 0) ≡ n
unfolding strings_in
strings_length f starts n = rows_length _ n 0

pub strings_at : (f starts : List ℕ) (n j : ℕ) → j < n → get_or (strings_in f starts n 0) j [] ≡ str_in f (get_or starts j 0)
unfolding strings_in
strings_at f starts n j h =
    let a : 0 + j ≡ j = omega arith in
    rows_at (λ j. str_in f (get_or starts j 0)) n 0 j [] h ∙ ap (λ (k : ℕ). str_in f (get_or starts k 0)) a

-- ---- bytes after the string

module _ (f g : List ℕ) (at : ℕ) (h : str_end f at ≤ length f) where
  pub past_front : str_end (f ++ g) at ≡ str_end f at
  unfolding str_end
  past_front = rw (get_or-append f g 0 at (omega arith))

  pub string_front : str_in (f ++ g) at ≡ str_in f at
  unfolding str_in str_end
  string_front = rw (get_or-append f g 0 at (omega arith)) (part_front f g (at + 1) (at + 1 + get_or f at 0) (omega arith) h)

-- ---- one string more

module _ (f g starts : List ℕ) (n v : ℕ) (laid : Laid f starts n) (long : n < length starts) where
  pub old_start : (j : ℕ) → j < n → get_or (set starts n v) j 0 ≡ get_or starts j 0
  old_start j h = get_or-set_other starts n j v 0 (λ e. let x : ⊥ = omega arith in x)

  pub new_start : get_or (set starts n v) n 0 ≡ v
  new_start = get_or-set_same starts n v 0 long

  pub old_string : (j : ℕ) → j < n → str_in (f ++ g) (get_or (set starts n v) j 0) ≡ str_in f (get_or starts j 0)
  old_string j h = ap (str_in (f ++ g)) (old_start j h) ∙ string_front f g (get_or starts j 0) (laid j h)

  pub strings_grow : (s : Str) → str_in (f ++ g) v ≡ s → strings_in (f ++ g) (set starts n v) (n + 1) 0 ≡ strings_in f starts n 0 ++ (s ∷ [])
  unfolding strings_in
  strings_grow s e =
      rows_grow (λ j. str_in f (get_or starts j 0)) (λ j. str_in (f ++ g) (get_or (set starts n v) j 0)) n s old_string (ap (str_in (f ++ g)) new_start ∙ e)

  pub laid_grow : str_end (f ++ g) v ≤ length (f ++ g) → Laid (f ++ g) (set starts n v) (n + 1)
  laid_grow e j h =
      by (eqb j n)
      (λ t. let i : j ≡ n = eqb-true _ _ t in rw (i, new_start) e)
      (λ t.
      let k : j ≡ n → ⊥ = eqb-false _ _ t in
      let l : j < n = omega arith in
      rw (old_start j l, past_front f g (get_or starts j 0) (laid j l)) (omega (arith, laid j l, length-append f g)))

-- the bytes grow alone
module _ (f g starts : List ℕ) (n : ℕ) (laid : Laid f starts n) where
  pub laid_stays : Laid (f ++ g) starts n
  laid_stays j h = rw (past_front f g (get_or starts j 0) (laid j h)) (omega (arith, laid j h, length-append f g))

  pub strings_stay : strings_in (f ++ g) starts n 0 ≡ strings_in f starts n 0
  unfolding strings_in
  strings_stay =
      rows_same (λ j. str_in (f ++ g) (get_or starts j 0)) (λ j. str_in f (get_or starts j 0)) n 0 (λ j p q. string_front f g (get_or starts j 0) (laid j (omega arith)))

-- ---- places of distinct strings

at_member : (xs : List Str) (i : ℕ) (f : Str → Bool) → i < length xs → any f xs ≡ false → f (get_or xs i []) ≡ false
unfolding any
at_member [] i f h e = absurd (omega arith)
at_member (x ∷ xs) zero f h e = or_false_l _ _ e
at_member (x ∷ xs) (suc i) f h e = at_member xs i f (omega arith) (or_false_r _ _ e)

-- the name is the string with number o exactly if that is its place
pub place_test : (name : Str) (xs : List Str) (o : ℕ) → twice same xs ≡ false → o < length xs → same name (get_or xs o []) ≡ eqb o (place name xs)
unfolding twice place whether◌then◌else◌
place_test name [] o d h = absurd (omega arith)
place_test name (x ∷ xs) zero d h = by (same name x) (λ e. rw e) (λ e. rw e (sym (eqb-zero-suc (place name xs))))
place_test name (x ∷ xs) (suc o) d h =
    by (same name x)
    (λ e.
    let i : name ≡ x = same→≡ _ _ e in
    rw e (ap (λ (n : Str). same n (get_or xs o [])) i ∙ at_member xs o (same x) (omega arith) (or_false_l _ _ d) ∙ sym (eqb-suc-zero o)))
    (λ e. rw e (place_test name xs o (or_false_r _ _ d) (omega arith) ∙ sym (eqb-suc-suc o (place name xs))))

-- the name is string number o, which is no other string
pub place_is : (name : Str) (f starts : List ℕ) (n o : ℕ) → twice same (strings_in f starts n 0) ≡ false → o < n → same name (str_in f (get_or starts o 0)) ≡ true
    → o ≡ place name (strings_in f starts n 0)
place_is name f starts n o d h e =
    let l : o < length (strings_in f starts n 0) = omega (arith, strings_length f starts n) in
    eqb-true _ _ (sym (place_test name (strings_in f starts n 0) o d l) ∙ ap (same name) (strings_at f starts n o h) ∙ e)

-- the same, from one test
pub number_is : (name : Str) (f starts : List ℕ) (n o : ℕ) → twice same (strings_in f starts n 0) ≡ false → (ltb o n and same name (str_in f (get_or starts o 0))) ≡ true
    → o ≡ place name (strings_in f starts n 0)
number_is name f starts n o d e = place_is name f starts n o d (ltb-true o n (and_l _ _ e)) (and_r _ _ e)

-- a name that has no place is none of them
pub place_any : (name : Str) (xs : List Str) → any (same name) xs ≡ ltb (place name xs) (length xs)
unfolding any place whether◌then◌else◌ ◌or◌
place_any name [] = refl
place_any name (x ∷ xs) = by (same name x) (λ e. rw e (sym (lt-ltb 0 (suc (length xs)) (omega arith)))) (λ e. rw e (place_any name xs ∙ sym (leb-suc-suc (suc (place name xs)) (length xs))))

pub place_le : (name : Str) (xs : List Str) → place name xs ≤ length xs
unfolding place whether◌then◌else◌
place_le name [] = omega arith
place_le name (x ∷ xs) = by (same name x) (λ e. rw e (omega arith)) (λ e. rw e (omega (arith, place_le name xs)))

pub place_at : (name : Str) (xs : List Str) → place name xs < length xs → get_or xs (place name xs) [] ≡ name
unfolding place whether◌then◌else◌
place_at name [] h = absurd (omega arith)
place_at name (x ∷ xs) h = by (same name x) (λ e. rw e (sym (same→≡ _ _ e))) (λ e. rw e (place_at name xs (let k : suc (place name xs) < suc (length xs) = rw e at h in omega arith)))

any_snoc : (f : Str → Bool) (xs : List Str) (n : Str) → any f xs ≡ false → f n ≡ false → any f (xs ++ (n ∷ [])) ≡ false
unfolding any
any_snoc f [] n e h = neither _ _ h e
any_snoc f (x ∷ xs) n e h = neither _ _ (or_false_l _ _ e) (any_snoc f xs n (or_false_r _ _ e) h)

pub twice_snoc : (xs : List Str) (n : Str) → twice same xs ≡ false → any (same n) xs ≡ false → twice same (xs ++ (n ∷ [])) ≡ false
unfolding twice any
twice_snoc [] n d e = neither _ _ e d
twice_snoc (x ∷ xs) n d e =
    neither _ _ (any_snoc (same x) xs n (or_false_l _ _ d) (same_sym x n ∙ or_false_l _ _ e)) (twice_snoc xs n (or_false_r _ _ d) (or_false_r _ _ e))
