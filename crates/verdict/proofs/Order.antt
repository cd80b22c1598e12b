-- The two orders of rules, by the ranking and by id, are total, and tell two rules apart one_unless they have one id.
use mathlib.Core.Path.{◌≡◌, refl, sym, ◌∙◌}
use mathlib.Core.Bool.{Bool, true, false}
use Prim.Native.Nat.{ℕ, ◌+◌, ◌*◌, ◌<◌}
use lib.ListN.{length}
use borrow.Author.Tests.{lt-ltb}
use native.Mathlib.Omega.{arith}
use native.Mathlib.Decide.{dec_lt}
use Rattle.text.specs.Test.{whether◌then◌else◌}
use Rattle.text.specs.String.{more, before}
use Rattle.text.proofs.Order.{more_less, more_same, more_other, asym, chain, tied, before_asym, before_chain, before_tied}
use Rattle.table.specs.Table.{Rule}
use Rattle.verdict.specs.Order.{definites, one_unless, better, earlier}
use Rattle.verdict.specs.Rank.{key_radix, rank_by, rank}

-- ---- the orders of rules

pub record Order (over : Rule → Rule → Bool) : Type 0 where
  -- of two rules not each is over the other
  pub oasym : (r s : Rule) → over r s ≡ true → over s r ≡ false
  -- what is not over s is not over what s is not over
  pub ochain : (r s u : Rule) → over r s ≡ false → over s u ≡ false → over r u ≡ false
  -- two rules of which none is over the other have one id
  pub otied : (r s : Rule) → over r s ≡ false → over s r ≡ false → r.id ≡ s.id

pub earlier_order : Order earlier
unfolding earlier
earlier_order = record {
  oasym = λ r s. before_asym r.id s.id;
  ochain = λ r s u. before_chain r.id s.id u.id;
  otied = λ r s. before_tied r.id s.id;
}

pub better_order : Order better
unfolding better
better_order = record {
  oasym = λ r s. asym _ _ _ _ (asym _ _ _ _ (asym _ _ _ _ (asym _ _ _ _ (before_asym r.id s.id))));
  ochain = λ r s u. chain _ _ _ _ _ _ (chain _ _ _ _ _ _ (chain _ _ _ _ _ _ (chain _ _ _ _ _ _ (before_chain r.id s.id u.id))));
  otied = λ r s e f.
      let a = tied _ _ _ _ e f in
      let b = tied _ _ _ _ a.1 a.2 in
      let c = tied _ _ _ _ b.1 b.2 in
      let d = tied _ _ _ _ c.1 c.2 in
      before_tied r.id s.id d.1 d.2;
}

-- ---- the ranking as one number

-- a and b compare as x and y do and, where these are equal, as u and v do
nest : (x y u v a b : ℕ) (tie : Bool) → (x < y → a < b) → (y < x → b < a)
    → (x ≡ y → u < v → a < b) → (x ≡ y → v < u → b < a) → (x ≡ y → u ≡ v → a ≡ b) → more x y (more u v tie) ≡ more a b tie
nest x y u v a b tie l g ul ug ue = go (dec_lt x y) (dec_lt y x) (dec_lt u v) (dec_lt v u)
  where
    over : b < a → more a b tie ≡ true
    over h = more_other a b tie (omega arith) ∙ lt-ltb b a h

    go : Dec (x < y) → Dec (y < x) → Dec (u < v) → Dec (v < u) → more x y (more u v tie) ≡ more a b tie
    go (yes p) q m n = more_less x y _ p ∙ sym (more_less a b tie (l p))
    go (no p) (yes q) m n = more_other x y _ (omega arith) ∙ lt-ltb y x q ∙ sym (over (g q))
    go (no p) (no q) (yes m) n = let e : x ≡ y = omega arith in more_same x y _ e ∙ more_less u v tie m ∙ sym (more_less a b tie (ul e m))
    go (no p) (no q) (no m) (yes n) = let e : x ≡ y = omega arith in more_same x y _ e ∙ more_other u v tie (omega arith) ∙ lt-ltb v u n ∙ sym (over (ug e n))
    go (no p) (no q) (no m) (no n) =
        let e : x ≡ y = omega arith in
        let i : u ≡ v = omega arith in
        more_same x y _ e ∙ more_same u v tie i ∙ sym (more_same a b tie (ue e i))

pub unless_small : (b : Bool) → one_unless b < 2
unfolding whether◌then◌else◌
unless_small true = omega arith
unless_small false = omega arith

-- one more two-valued step
nest_2 : (x y u v : ℕ) (tie : Bool) → u < 2 → v < 2 → more x y (more u v tie) ≡ more (x * 2 + u) (y * 2 + v) tie
nest_2 x y u v tie p q =
    nest x y u v (x * 2 + u) (y * 2 + v) tie (λ h. omega arith) (λ h. omega arith) (λ e h. omega arith) (λ e h. omega arith) (λ e h. omega arith)

nest_keys : (x y u v : ℕ) (tie : Bool) → u < key_radix → v < key_radix → more x y (more u v tie) ≡ more (x * key_radix + u) (y * key_radix + v) tie
nest_keys x y u v tie p q =
    nest x y u v (x * key_radix + u) (y * key_radix + v) tie (λ h. omega arith) (λ h. omega arith) (λ e h. omega arith) (λ e h. omega arith) (λ e h. omega arith)

pub better_rank : (r s : Rule) → definites r.path < key_radix → definites s.path < key_radix → better r s ≡ more (rank r) (rank s) (before r.id s.id)
unfolding better rank rank_by
better_rank r s p q =
    nest_keys (length r.path) (length s.path) (definites r.path) (definites s.path) _ p q
    ∙ nest_2 (length r.path * key_radix + definites r.path) (length s.path * key_radix + definites s.path) (one_unless r.by_group) (one_unless s.by_group) _ (unless_small r.by_group) (unless_small s.by_group)
    ∙ nest_2 _ _ (one_unless r.permit) (one_unless s.permit) _ (unless_small r.permit) (unless_small s.permit)

unless_one : (x y : Bool) → one_unless x ≡ one_unless y → x ≡ y
unfolding whether◌then◌else◌
unless_one true true h = refl
unless_one true false h = absurd (omega arith)
unless_one false true h = absurd (omega arith)
unless_one false false h = refl

-- two rules of one rank have one action
pub rank_permit : (r s : Rule) → rank r ≡ rank s → r.permit ≡ s.permit
unfolding rank rank_by
rank_permit r s e =
    let x = unless_small r.permit in
    let y = unless_small s.permit in
    unless_one r.permit s.permit (omega arith)
