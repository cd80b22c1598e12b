-- The set of a user's groups: has, count and first are membership, how many there are, and the first of them.
use mathlib.Core.Path.{◌≡◌, refl, sym, ap, ◌∙◌}
use mathlib.Core.Bool.{Bool, true, false, ◌||◌}
use mathlib.Core.List.{List, [], ◌∷◌}
use Prim.Native.Nat.{ℕ, zero, suc, ◌+◌, ◌-◌, ◌/◌, ◌%◌, ◌≤◌, ◌<◌}
use native.Mathlib.Numerals.{add-one}
use native.Mathlib.Omega.{arith}
use borrow.Author.Tests.{eqb-true, eqb-false}
use lib.Dec.{eqb}
use lib.Count.{ones, ones_step, count_trailing_zeros}
use lib.ListN.{length, get_or}
use Rattle.limits.specs.Limits.{max_groups}
use Rattle.text.specs.Test.{◌and◌, ◌or◌, whether◌then◌else◌, any, twice}
use Rattle.text.specs.String.{Str, same}
use Rattle.text.proofs.Tests.{by, same_refl, neither, and_l}
use Rattle.table_place.specs.Place.{str_in}
use Rattle.table_rows.specs.Strings.{place}
use Rattle.table_rows.proofs.Grow.{place_test}
use Rattle.table.specs.Table.{Member}
use Rattle.table.specs.Refusal.{same_member}
use Rattle.table.specs.Group.{lists, numbered, memberships}
use Rattle.table_keep.specs.Held.{members_in, Owned}
use Rattle.table_membership.specs.Set.{insert_of, has_of, set_in}
use Rattle.table_membership.proofs.Pairs.{is_pair, has_pair, pairs_any}
use Rattle.table_membership.proofs.Bits.{digit, digit_is, digit_small, has_insert, has_none, no_digits}

-- ---- the loop

module _ (user : Str) (f users owners : List ℕ) (n i : ℕ) where
  pub set_turn : (w set set' : ℕ) → i < n → set' ≡ (whether same user (str_in f (get_or users i 0)) then insert_of set (get_or owners i 0) else set)
      → w ≡ set_in user f users owners (n - i) i set → w ≡ set_in user f users owners (n - (i + 1)) (i + 1) set'
  unfolding set_in
  set_turn w set set' h e g = let k : n - i ≡ suc (n - (i + 1)) = omega arith in g ∙ rw (k, e, add-one)

  pub set_end : (w set : ℕ) → n ≤ i → w ≡ set_in user f users owners (n - i) i set → set ≡ w
  unfolding set_in
  set_end w set h g = let k : n - i ≡ 0 = omega arith in sym (g ∙ rw k)

pub set_start : (user : Str) (f users owners : List ℕ) (n : ℕ) → set_in user f users owners n 0 0 ≡ set_in user f users owners (n - 0) 0 0
set_start user f users owners n = let e : n - 0 ≡ n = omega arith in rw e

pub join_hit : (t : Bool) (r x y : ℕ) → t ≡ true → r ≡ x → r ≡ (whether t then x else y)
unfolding whether◌then◌else◌
join_hit t r x y e h = rw (e, h)

pub join_miss : (t : Bool) (x y : ℕ) → t ≡ false → y ≡ (whether t then x else y)
unfolding whether◌then◌else◌
join_miss t x y e = rw e

-- ---- a group is in the set exactly if a member has it and is the user

or_shuffle : (a b c : Bool) → ((a || b) || c) ≡ (b || (a or c))
unfolding ◌or◌
or_shuffle true true c = refl
or_shuffle true false c = refl
or_shuffle false b c = refl

and_true : (t : Bool) → t ≡ (t and true)
unfolding ◌and◌
and_true true = refl
and_true false = refl

and_none : (t : Bool) → false ≡ (t and false)
unfolding ◌and◌
and_none true = refl
and_none false = refl

or_end : (t : Bool) → t ≡ (t || false)
or_end true = refl
or_end false = refl

or_start : (t : Bool) → t ≡ (false or t)
unfolding ◌or◌
or_start t = refl

module _ (user : Str) (f users owners : List ℕ) (g : ℕ) where
  pair_same : (i : ℕ) → same user (str_in f (get_or users i 0)) ≡ true → eqb (get_or owners i 0) g ≡ is_pair g user f users owners i
  unfolding is_pair
  pair_same i e = rw e (and_true (eqb (get_or owners i 0) g))

  pair_other : (i : ℕ) → same user (str_in f (get_or users i 0)) ≡ false → false ≡ is_pair g user f users owners i
  unfolding is_pair
  pair_other i e = rw e (and_none (eqb (get_or owners i 0) g))

  has_in : (n i set : ℕ) → has_of (set_in user f users owners n i set) g ≡ (has_of set g || has_pair g user f users owners n i)
  unfolding set_in has_pair whether◌then◌else◌
  has_in zero i set = or_end (has_of set g)
  has_in (suc n) i set =
      by (same user (str_in f (get_or users i 0)))
      (λ e.
      rw e
      (has_in n (suc i) (insert_of set (get_or owners i 0))
      ∙ ap (λ (t : Bool). t || has_pair g user f users owners n (suc i)) (has_insert set (get_or owners i 0) g)
      ∙ or_shuffle (eqb (get_or owners i 0) g) (has_of set g) (has_pair g user f users owners n (suc i))
      ∙ ap (λ (t : Bool). has_of set g || (t or has_pair g user f users owners n (suc i))) (pair_same i e)))
      (λ e.
      rw e
      (has_in n (suc i) set
      ∙ ap (λ (t : Bool). has_of set g || t) (or_start (has_pair g user f users owners n (suc i)))
      ∙ ap (λ (t : Bool). has_of set g || (t or has_pair g user f users owners n (suc i))) (pair_other i e)))

  has_set : (n : ℕ) → has_of (set_in user f users owners n 0 0) g ≡ has_pair g user f users owners n 0
  has_set n = has_in n 0 0 ∙ rw (has_none g)

  is_owner : (j : ℕ) → is_pair g user f users owners j ≡ true → get_or owners j 0 ≡ g
  unfolding is_pair
  is_owner j t = eqb-true _ _ (and_l _ _ t)

  no_owner : (k i n : ℕ) → i + k ≤ n → ((j : ℕ) → j < n → get_or owners j 0 ≡ g → ⊥) → has_pair g user f users owners k i ≡ false
  unfolding has_pair
  no_owner zero i n l h = refl
  no_owner (suc k) i n l h =
      neither _ _ (by (is_pair g user f users owners i) (λ t. absurd (h i (omega arith) (is_owner i t))) (λ t. t)) (no_owner k (suc i) n (omega arith) h)

head_is : {a b : ℕ} {x y : List ℕ} → a ∷ x ≡ b ∷ y → a ≡ b
head_is q = cc

-- ---- of a table

module _ (named : List Str) (members : List Member) (user : Str) (f users owners : List ℕ) (n : ℕ) (d : twice same named ≡ false)
    (are : members ≡ members_in named owners f users n) (own : Owned owners n (length named)) where
  abbrev set : ℕ
  set = set_in user f users owners n 0 0

  place_own : (g : ℕ) → g < length named → place (get_or named g []) named ≡ g
  place_own g h = sym (eqb-true _ _ (sym (place_test (get_or named g []) named g d h) ∙ same_refl (get_or named g [])))

  pub has_lists : (g : ℕ) → g < length named → has_of set g ≡ lists members user (get_or named g [])
  unfolding lists members_in
  has_lists g h =
      has_set user f users owners g n
      ∙ ap (λ (k : ℕ). has_pair k user f users owners n 0) (sym (place_own g h))
      ∙ pairs_any named (get_or named g []) user f users owners d n 0 n (omega arith) own
      ∙ ap (any (same_member (record { group = get_or named g []; user = user }))) (sym are)

  has_past : (g : ℕ) → length named ≤ g → has_of set g ≡ false
  has_past g h = has_set user f users owners g n ∙ no_owner user f users owners g n 0 n (omega arith) (λ j k e. omega (arith, own j k))

  digit_lists : (g : ℕ) → g < length named → eqb (digit set g) 1 ≡ lists members user (get_or named g [])
  digit_lists g h = ap (λ (k : ℕ). eqb k 1) (sym (digit_is set g)) ∙ has_lists g h

  digit_past : (g : ℕ) → length named ≤ g → digit set g ≡ 0
  digit_past g h =
      let a : eqb (digit set g) 1 ≡ false = ap (λ (k : ℕ). eqb k 1) (sym (digit_is set g)) ∙ has_past g h in
      let b : digit set g ≡ 1 → ⊥ = eqb-false _ _ a in
      omega (arith, digit_small set g)

-- ---- ones and trailing zeros

ones_zero : ones 0 ≡ 0
unfolding ones
ones_zero = refl

-- the digits of x are the answers of a test on a list
abbrev Answers : {A : Type 0} → (A → Bool) → A → List A → ℕ → Type 0
Answers test z xs x = ((g : ℕ) → g < length xs → eqb (digit x g) 1 ≡ test (get_or xs g z)) × ((g : ℕ) → length xs ≤ g → digit x g ≡ 0)

module _ (members : List Member) (user : Str) where
  rest : (s : Str) (xs : List Str) (x : ℕ) → Answers (lists members user) [] (s ∷ xs) x → Answers (lists members user) [] xs (x / 2)
  unfolding digit
  rest s xs x a = (λ g h. a.0 (suc g) (omega arith), λ g h. a.1 (suc g) (omega arith))

  first_digit_lem : (s : Str) (xs : List Str) (x : ℕ) → Answers (lists members user) [] (s ∷ xs) x → eqb (x % 2) 1 ≡ lists members user s
  unfolding digit
  first_digit_lem s xs x a = a.0 0 (omega arith)

  low : (x : ℕ) → eqb (x % 2) 1 ≡ false → x % 2 ≡ 0
  low x e = let n : x % 2 ≡ 1 → ⊥ = eqb-false _ _ e in omega arith

  pub ones_count : (i : ℕ) (xs : List Str) (x : ℕ) → Answers (lists members user) [] xs x → ones x ≡ length (memberships members user i xs)
  unfolding memberships numbered whether◌then◌else◌
  ones_count i [] x a = let z : x ≡ 0 = no_digits x x (omega arith) (λ g. a.1 g (omega arith)) in rw z ones_zero
  ones_count i (s ∷ xs) x a =
      let r : ones (x / 2) ≡ length (memberships members user (suc i) xs) = ones_count (suc i) xs (x / 2) (rest s xs x a) in
      let f = first_digit_lem s xs x a in
      by (lists members user s)
      (λ t. let o : x % 2 ≡ 1 = eqb-true _ _ (f ∙ t) in rw t (omega (arith, ones_step x, r)))
      (λ t. let o : x % 2 ≡ 0 = low x (f ∙ t) in rw t (omega (arith, ones_step x, r)))

  pub zeros_first : (i : ℕ) (xs : List Str) (k x n : ℕ) (ns : List ℕ) → length xs ≤ k → Answers (lists members user) [] xs x → memberships members user i xs ≡ n ∷ ns → n ≡ i + count_trailing_zeros k x
  unfolding memberships numbered whether◌then◌else◌ count_trailing_zeros
  zeros_first i [] k x n ns l a e = never e
    where
      never : {X : Type 0} {n : ℕ} {ns : List ℕ} → [] ≡ n ∷ ns → X
      never q = let z : ◌≡◌ {A = ℕ} 0 1 = cc in absurd (omega arith)
  zeros_first i (s ∷ xs) zero x n ns l a e = absurd (omega arith)
  zeros_first i (s ∷ xs) (suc k) x n ns l a e =
      let f = first_digit_lem s xs x a in
      by (lists members user s)
      (λ t.
      let o : x % 2 ≡ 1 = eqb-true _ _ (f ∙ t) in
      let h : i ∷ memberships members user (suc i) xs ≡ n ∷ ns = rw t at e in
      let p : i ≡ n = head_is h in
      rw o (omega arith))
      (λ t.
      let o : x % 2 ≡ 0 = low x (f ∙ t) in
      let h : memberships members user (suc i) xs ≡ n ∷ ns = rw t at e in
      let r : n ≡ suc i + count_trailing_zeros k (x / 2) = zeros_first (suc i) xs k (x / 2) n ns (omega arith) (rest s xs x a) h in
      rw o (omega arith))

  pub few_count : (i : ℕ) (xs : List Str) → length (memberships members user i xs) ≤ length xs
  unfolding memberships numbered whether◌then◌else◌
  few_count i [] = omega arith
  few_count i (s ∷ xs) = by (lists members user s) (λ t. rw t (omega (arith, few_count (suc i) xs))) (λ t. rw t (omega (arith, few_count (suc i) xs)))

module _ (named : List Str) (members : List Member) (user : Str) (f users owners : List ℕ) (n : ℕ) (d : twice same named ≡ false)
    (are : members ≡ members_in named owners f users n) (own : Owned owners n (length named)) where
  answers : Answers (lists members user) [] named (set_in user f users owners n 0 0)
  answers = (digit_lists named members user f users owners n d are own, digit_past named members user f users owners n d are own)

  pub count_is : ones (set_in user f users owners n 0 0) ≡ length (memberships members user 0 named)
  count_is = ones_count members user 0 named (set_in user f users owners n 0 0) answers

  pub first_is : (k : ℕ) (ks : List ℕ) → length named ≤ max_groups → memberships members user 0 named ≡ k ∷ ks → k ≡ count_trailing_zeros max_groups (set_in user f users owners n 0 0)
  first_is k ks l e = let h : k ≡ 0 + count_trailing_zeros max_groups (set_in user f users owners n 0 0) = zeros_first members user 0 named max_groups _ k ks l answers e in omega arith
