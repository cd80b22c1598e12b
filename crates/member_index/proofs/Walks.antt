-- A walk along the chain of the user's place leaves out members who are not the user.
use mathlib.Core.Path.{◌≡◌, refl, sym, ap, ◌∙◌}
use mathlib.Core.Bool.{false}
use mathlib.Core.List.{List}
use Prim.Native.Nat.{ℕ, zero, suc, ◌+◌, ◌-◌, ◌≤◌, ◌<◌}
use native.Mathlib.Omega.{arith}
use borrow.Author.Tests.{eqb-true, eqb-false}
use lib.Dec.{eqb}
use lib.ListN.{get_or}
use Rattle.text.specs.Test.{whether◌then◌else◌}
use Rattle.text.specs.String.{Str, same}
use Rattle.text.proofs.Tests.{by, same→≡}
use Rattle.text_hash.specs.Mix.{place_of}
use Rattle.text_hash.specs.declared.Seed.{Seed}
use Rattle.text_hash.proofs.Mixing.{place_within}
use Rattle.table_place.specs.Place.{str_in}
use Rattle.table_membership.specs.Set.{insert_of, set_in}
use Rattle.table_membership.proofs.Sets.{set_start, set_turn}
use Rattle.member_index.specs.Index.{places, place_in, first_in, Linked}
use Rattle.member_index.proofs.Chains.{FirstAt, first_none, first_hit, first_pass, first_at}

-- ---- the set, with members left out

module _ (user : Str) (f users owners : List ℕ) (seed : Seed) (place : ℕ) (own : place ≡ place_of seed places user) where
  other_place : (i : ℕ) → (place_in seed f users i ≡ place → ⊥) → same user (str_in f (get_or users i 0)) ≡ false
  other_place i n =
      by (same user (str_in f (get_or users i 0)))
      (λ t. absurd (n (ap (place_of seed places) (sym (same→≡ _ _ t)) ∙ sym own)))
      (λ t. t)

  set_pass : (k i set : ℕ) → (place_in seed f users i ≡ place → ⊥) → set_in user f users owners (suc k) i set ≡ set_in user f users owners k (suc i) set
  unfolding set_in whether◌then◌else◌
  set_pass k i set n = rw (other_place i n)

  set_none : (k i set : ℕ) → 0 ≡ first_in seed f users place k i → set_in user f users owners k i set ≡ set
  unfolding set_in
  set_none zero i set e = refl
  set_none (suc k) i set e =
      by (eqb (place_in seed f users i) place)
      (λ t. absurd (omega (arith, e ∙ first_hit seed f users place k i (eqb-true _ _ t))))
      (λ t. let n = eqb-false (place_in seed f users i) place t in set_pass k i set n ∙ set_none k (suc i) set (e ∙ first_pass seed f users place k i n))

  set_to : (k i j set : ℕ) → suc j ≡ first_in seed f users place k i → set_in user f users owners k i set ≡ set_in user f users owners (i + k - j) j set
  set_to zero i j set e = absurd (omega (arith, e ∙ first_none seed f users place i))
  set_to (suc k) i j set e =
      by (eqb (place_in seed f users i) place)
      (λ t.
      let q : j ≡ i = omega (arith, e ∙ first_hit seed f users place k i (eqb-true _ _ t)) in
      let r : i + suc k - i ≡ suc k = omega arith in
      rw (q, r))
      (λ t.
      let n = eqb-false (place_in seed f users i) place t in
      let r : suc i + k - j ≡ i + suc k - j = omega arith in
      set_pass k i set n ∙ set_to k (suc i) j set (e ∙ first_pass seed f users place k i n) ∙ rw r)

-- ---- the loop

-- `next` is the first of the user's place among the members from number `from` on, and these add to the set so far what all of n add to the empty one
pub record Walking (user : Str) (f users owners : List ℕ) (n : ℕ) (heads links : List ℕ) (place set next : ℕ) : Type 0 where
  pub seed : Seed
  pub linked : Linked seed f users n heads links
  pub own : place ≡ place_of seed places user
  pub from : ℕ
  pub under : from ≤ n
  pub first : next ≡ first_in seed f users place (n - from) from
  pub rest : set_in user f users owners n 0 0 ≡ set_in user f users owners (n - from) from set

-- how many of n members there are from one on, which is counted from 1; 0 stands for none
unfoldable pub left_from : ℕ → ℕ → ℕ
left_from n zero = 0
left_from n (suc i) = n - i

pub walk_start : (user : Str) (f users owners : List ℕ) (n : ℕ) (heads links : List ℕ) (seed : Seed) (place : ℕ) → Linked seed f users n heads links
    → place ≡ place_of seed places user → Walking user f users owners n heads links place 0 (get_or heads place 0)
walk_start user f users owners n heads links seed place h e =
    record {
      seed = seed;
      linked = h;
      own = e;
      from = 0;
      under = omega arith;
      first = h.first place (place_within seed user places place e (omega arith));
      rest = set_start user f users owners n;
    }

module _ {user : Str} {f users owners : List ℕ} {n : ℕ} {heads links : List ℕ} {place set next : ℕ}
    (w : Walking user f users owners n heads links place set next) where
  pub walk_end : next ≤ 0 → set ≡ set_in user f users owners n 0 0
  walk_end l =
      let e : 0 ≡ next = omega arith in
      sym (w.rest ∙ set_none user f users owners w.seed place w.own (n - w.from) w.from set (e ∙ w.first))

module _ {user : Str} {f users owners : List ℕ} {n : ℕ} {heads links : List ℕ} {place set next : ℕ}
    (w : Walking user f users owners n heads links place set next) (l : 0 < next) where
  one_less : suc (next - 1) ≡ next
  one_less = omega arith

  here : FirstAt w.seed f users place (n - w.from) w.from (next - 1)
  here = first_at w.seed f users place (n - w.from) w.from (next - 1) (one_less ∙ w.first)

  pub walk_inside : next - 1 < n
  walk_inside = omega (arith, here.high, w.under)

  next_first : get_or links (next - 1) 0 ≡ first_in w.seed f users place (n - next) next
  next_first = w.linked.next (next - 1) (omega arith) walk_inside ∙ rw (here.has, one_less)

  set_here : set_in user f users owners n 0 0 ≡ set_in user f users owners (n - (next - 1)) (next - 1) set
  set_here =
      let z : w.from + (n - w.from) ≡ n = omega (arith, w.under) in
      w.rest ∙ set_to user f users owners w.seed place w.own (n - w.from) w.from (next - 1) set (one_less ∙ w.first) ∙ rw z

  pub walk_turn : (set' : ℕ) → set' ≡ (whether same user (str_in f (get_or users (next - 1) 0)) then insert_of set (get_or owners (next - 1) 0) else set)
      → Walking user f users owners n heads links place set' (get_or links (next - 1) 0)
  walk_turn set' e =
      let p : next - 1 + 1 ≡ next = omega arith in
      record {
        seed = w.seed;
        linked = w.linked;
        own = w.own;
        from = next;
        under = omega (arith, walk_inside);
        first = next_first;
        rest = rw p at (set_turn user f users owners n (next - 1) _ set set' walk_inside e set_here);
      }

left_less : (seed : Seed) (f users : List ℕ) (n b p q : ℕ) → 0 < q → q - 1 < n → p ≡ first_in seed f users b (n - q) q → left_from n p < left_from n q
unfolding left_from
left_less seed f users n b p zero l i e = absurd (omega arith)
left_less seed f users n b zero (suc q) l i e = omega arith
left_less seed f users n b (suc p) (suc q) l i e = let a = first_at seed f users b (n - suc q) (suc q) p e in omega (arith, a.low, a.high)

pub walk_less : {user : Str} {f users owners : List ℕ} {n : ℕ} {heads links : List ℕ} {place set next : ℕ}
    → Walking user f users owners n heads links place set next → 0 < next → left_from n (get_or links (next - 1) 0) < left_from n next
walk_less {next = next} w l = left_less w.seed _ _ _ _ _ next l (walk_inside w l) (next_first w l)
