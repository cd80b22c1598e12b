-- The ranking falls, and has each rule that decided.
use Prim.Native.Nat.{ℕ, zero, suc, ◌+◌, ◌≤◌, ◌<◌}
use native.Mathlib.Omega.{arith}
use native.Mathlib.Decide.{dec_lt}
use borrow.Author.Tests.{lt-ltb, le-ltb, ne_eqb}
use mathlib.Core.Path.{◌≡◌, refl, ap, ◌∙◌}
use mathlib.Core.Logic.{inl, inr}
use mathlib.Core.List.Memᴰ
use mathlib.Core.List.{List, [], ◌∷◌}
use lib.ListN.{length, get_or, set}
use lib.Seq.{get_or-set_other}
use Rattle.text.specs.Test.{whether◌then◌else◌, ◌∈◌}
use Rattle.season_parts.specs.Ranked.{top_from, top, Decided, decided_most, ranked_by, ranked}
use Rattle.season_parts.specs.Laws.{Ahead, Falling, none, one, more, RanksAll}

-- ---- the first of the largest

-- no count is more than m; or number j of the counts, which has number i + j, is the first of the largest, and more than m
data Found (m b i : ℕ) (cs : List ℕ) (r : ℕ) : Type 0 where
  old : r ≡ b → ((k : ℕ) → get_or cs k 0 ≤ m) → Found m b i cs r
  new : (j : ℕ) → r ≡ i + j → m < get_or cs j 0 → ((k : ℕ) → get_or cs k 0 ≤ get_or cs j 0) → ((k : ℕ) → k < j → get_or cs k 0 < get_or cs j 0) → Found m b i cs r

found_more : (m b i c : ℕ) (cs : List ℕ) (r : ℕ) → m < c → Found c i (i + 1) cs r → Found m b i (c ∷ cs) r
found_more m b i c cs r h (old e f) = new 0 (e ∙ omega arith) h (λ k. go k) (λ k l. absurd (omega arith))
  where
    go : (k : ℕ) → get_or (c ∷ cs) k 0 ≤ c
    go zero = omega arith
    go (suc k) = f k
found_more m b i c cs r h (new j e g f l) = new (suc j) (e ∙ omega arith) (omega arith) (λ k. go k) (λ k n. less k n)
  where
    go : (k : ℕ) → get_or (c ∷ cs) k 0 ≤ get_or cs j 0
    go zero = omega arith
    go (suc k) = f k

    less : (k : ℕ) → k < suc j → get_or (c ∷ cs) k 0 < get_or cs j 0
    less zero n = g
    less (suc k) n = l k (omega arith)

found_same : (m b i c : ℕ) (cs : List ℕ) (r : ℕ) → c ≤ m → Found m b (i + 1) cs r → Found m b i (c ∷ cs) r
found_same m b i c cs r h (old e f) = old e (λ k. go k)
  where
    go : (k : ℕ) → get_or (c ∷ cs) k 0 ≤ m
    go zero = h
    go (suc k) = f k
found_same m b i c cs r h (new j e g f l) = new (suc j) (e ∙ omega arith) g (λ k. go k) (λ k n. less k n)
  where
    go : (k : ℕ) → get_or (c ∷ cs) k 0 ≤ get_or cs j 0
    go zero = omega arith
    go (suc k) = f k

    less : (k : ℕ) → k < suc j → get_or (c ∷ cs) k 0 < get_or cs j 0
    less zero n = omega arith
    less (suc k) n = l k (omega arith)

found : (b m i : ℕ) (cs : List ℕ) → Found m b i cs (top_from b m i cs)
unfolding top_from whether◌then◌else◌
found b m i [] = old refl (λ k. omega arith)
found b m i (c ∷ cs) = go (dec_lt m c) (found i c (i + 1) cs) (found b m (i + 1) cs)
  where
    go : Dec (m < c) → Found c i (i + 1) cs (top_from i c (i + 1) cs) → Found m b (i + 1) cs (top_from b m (i + 1) cs) → Found m b i (c ∷ cs) (top_from b m i (c ∷ cs))
    go (yes h) f g = rw (lt-ltb m c h) (found_more m b i c cs _ h f)
    go (no h) f g = rw (le-ltb m c (omega arith)) (found_same m b i c cs _ (omega arith) g)

-- the largest, and the first of these where it is not 0
pub record Largest (l : List ℕ) (t : ℕ) : Type 0 where
  pub most : (k : ℕ) → get_or l k 0 ≤ get_or l t 0
  pub first : (k : ℕ) → 0 < get_or l t 0 → k < t → get_or l k 0 < get_or l t 0

top_largest : (l : List ℕ) → Largest l (top l)
unfolding top
top_largest l = go (top_from 0 0 0 l) (found 0 0 0 l)
  where
    go : (r : ℕ) → Found 0 0 0 l r → Largest l r
    go r (old e f) = record { most = λ k. omega (arith, f k); first = λ k h n. absurd (omega (arith, f r)) }
    go r (new j e g f m) =
        let q : r ≡ j = omega arith in
        rw q (record { most = f; first = λ k h n. m k n })

-- ---- a count that is lost

zeroed : (l : List ℕ) (t : ℕ) → get_or (set l t 0) t 0 ≡ 0
zeroed [] t = refl
zeroed (c ∷ cs) zero = refl
zeroed (c ∷ cs) (suc t) = zeroed cs t

-- how many counts are not 0
abbrev positive : List ℕ → ℕ
positive [] = 0
positive (zero ∷ cs) = positive cs
positive (suc c ∷ cs) = suc (positive cs)

positive_some : (l : List ℕ) (i : ℕ) → 0 < get_or l i 0 → 0 < positive l
positive_some [] i h = absurd (omega arith)
positive_some (zero ∷ cs) zero h = absurd (omega arith)
positive_some (zero ∷ cs) (suc i) h = positive_some cs i h
positive_some (suc c ∷ cs) i h = omega arith

positive_less : (l : List ℕ) (t : ℕ) → 0 < get_or l t 0 → positive l ≡ suc (positive (set l t 0))
positive_less [] t h = absurd (omega arith)
positive_less (zero ∷ cs) zero h = absurd (omega arith)
positive_less (suc c ∷ cs) zero h = refl
positive_less (zero ∷ cs) (suc t) h = positive_less cs t h
positive_less (suc c ∷ cs) (suc t) h = ap suc (positive_less cs t h)

positive_few : (l : List ℕ) → positive l ≤ length l
positive_few [] = omega arith
positive_few (zero ∷ cs) = omega (arith, positive_few cs)
positive_few (suc c ∷ cs) = omega (arith, positive_few cs)

-- ---- the ranking, one rule more

ranked_more : (k : ℕ) (l : List ℕ) → 0 < get_or l (top l) 0 → ranked_by (suc k) l ≡ decided_most l ∷ ranked_by k (set l (top l) 0)
unfolding ranked_by whether◌then◌else◌
ranked_more k l h = rw (ne_eqb (get_or l (top l) 0) 0 (omega arith))

ranked_over : (k : ℕ) (l : List ℕ) → get_or l (top l) 0 ≡ 0 → ranked_by (suc k) l ≡ []
unfolding ranked_by whether◌then◌else◌
ranked_over k l h = rw h

-- ---- it falls

module _ (l : List ℕ) (h : 0 < get_or l (top l) 0) (g : 0 < get_or (set l (top l) 0) (top (set l (top l) 0)) 0) where
  next : ℕ
  next = top (set l (top l) 0)

  another : next ≡ top l → ⊥
  unfolding next
  another e = let z : get_or (set l (top l) 0) (top (set l (top l) 0)) 0 ≡ 0 = rw e (zeroed l (top l)) in omega arith

  still : get_or (set l (top l) 0) next 0 ≡ get_or l next 0
  still = get_or-set_other l (top l) next 0 0 another

  ahead : Ahead (decided_most l) (decided_most (set l (top l) 0))
  unfolding decided_most next
  ahead = go (dec_lt (get_or l next 0) (get_or l (top l) 0)) (dec_lt next (top l))
    where
      go : Dec (get_or l next 0 < get_or l (top l) 0) → Dec (next < top l) → Ahead (decided_most l) (decided_most (set l (top l) 0))
      go (yes m) n = inl (omega (arith, m, still))
      go (no m) (yes n) = absurd (m ((top_largest l).first next h n))
      go (no m) (no n) = inr (omega (arith, still, (top_largest l).most next), omega (arith, another))

falling_more : (a : Decided) (k : ℕ) (l : List ℕ) → (0 < get_or l (top l) 0 → Ahead a (decided_most l)) → Falling (ranked_by k l) → Falling (a ∷ ranked_by k l)
unfolding ranked_by
falling_more a zero l f g = one
falling_more a (suc k) l f g = go (dec_lt 0 (get_or l (top l) 0))
  where
    go : Dec (0 < get_or l (top l) 0) → Falling (a ∷ ranked_by (suc k) l)
    go (yes h) = rw (ranked_more k l h) (more (f h) (rw (ranked_more k l h) at g))
    go (no h) = rw (ranked_over k l (omega arith)) one

falls : (k : ℕ) (l : List ℕ) → Falling (ranked_by k l)
unfolding ranked_by
falls zero l = none
falls (suc k) l = go (dec_lt 0 (get_or l (top l) 0)) (falls k (set l (top l) 0))
  where
    go : Dec (0 < get_or l (top l) 0) → Falling (ranked_by k (set l (top l) 0)) → Falling (ranked_by (suc k) l)
    go (yes h) f = rw (ranked_more k l h) (falling_more (decided_most l) k (set l (top l) 0) (ahead l h) f)
    go (no h) f = rw (ranked_over k l (omega arith)) none

-- ---- each rule that decided is there

rule_at : List ℕ → ℕ → Decided
rule_at l i = record { number = i; count = get_or l i 0 }

most_decided : (l : List ℕ) (i : ℕ) → i ≡ top l → rule_at l i ≡ decided_most l
unfolding rule_at decided_most
most_decided l i e = rw e

listed : (k : ℕ) (l : List ℕ) → positive l ≤ k → (i : ℕ) → 0 < get_or l i 0 → rule_at l i ∈ ranked_by k l
unfolding rule_at
listed zero l n i h = absurd (omega (arith, positive_some l i h))
listed (suc k) l n i h =
    let m : 0 < get_or l (top l) 0 = omega (arith, (top_largest l).most i) in
    rw (ranked_more k l m)
    (go (dec_lt i (top l)) (dec_lt (top l) i) (listed k (set l (top l) 0) (omega (arith, positive_less l (top l) m)) i))
  where
    other : (i ≡ top l → ⊥) → (0 < get_or (set l (top l) 0) i 0 → rule_at (set l (top l) 0) i ∈ ranked_by k (set l (top l) 0)) → rule_at l i ∈ decided_most l ∷ ranked_by k (set l (top l) 0)
    other d f =
        let e : get_or (set l (top l) 0) i 0 ≡ get_or l i 0 = get_or-set_other l (top l) i 0 0 d in
        Memᴰ.tail (rw e at (f (omega (arith, e))))

    go : Dec (i < top l) → Dec (top l < i) → (0 < get_or (set l (top l) 0) i 0 → rule_at (set l (top l) 0) i ∈ ranked_by k (set l (top l) 0)) → rule_at l i ∈ decided_most l ∷ ranked_by k (set l (top l) 0)
    go (yes a) b f = other (omega arith) f
    go (no a) (yes b) f = other (omega arith) f
    go (no a) (no b) f = let e : i ≡ top l = omega arith in Memᴰ.head (most_decided l i e)

pub ranks_all : RanksAll
unfolding ranked rule_at
ranks_all = record { falling = λ counts. falls (length counts) counts; each = λ counts i h. listed (length counts) counts (positive_few counts) i h }
