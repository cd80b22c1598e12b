-- What a weight tells of its rule.
use mathlib.Core.Path.{◌≡◌, refl, sym, ap, ◌∙◌}
use mathlib.Core.Bool.{Bool, true, false, xor, beq}
use mathlib.Core.List.{List}
use Prim.Native.Nat.{ℕ, suc, ◌+◌, ◌*◌, ◌/◌, ◌≤◌, ◌<◌}
use native.Mathlib.Omega.{arith}
use lib.Dec.{eqb}
use lib.ListN.{get_or}
use Rattle.limits.specs.Limits.{max_rules}
use Rattle.text.specs.Test.{◌and◌, whether◌then◌else◌}
use Rattle.text.proofs.Tests.{by}
use Rattle.path.specs.Path.{Path}
use Rattle.table.specs.Table.{Rule}
use Rattle.verdict.specs.Join.{agree}
use Rattle.verdict.specs.Rank.{top_rank, rank}
use Rattle.verdict_tree.specs.Tree.{weight, fitting, Packed, Fits}

-- ---- the weight of a rule

pub weight_off : (app : Rule → Bool) (p : Path) (r : Rule) → app r ≡ false → 0 ≡ weight (fitting app p) r
unfolding weight whether◌then◌else◌ ◌and◌
weight_off app p r e = rw e

pub weight_apart : (app : Rule → Bool) (p : Path) (r : Rule) → agree r.path p ≡ false → 0 ≡ weight (fitting app p) r
unfolding weight whether◌then◌else◌ ◌and◌
weight_apart app p r e = by (app r) (λ h. rw (h, e)) (λ h. rw h)

pub weight_fit : (app : Rule → Bool) (p : Path) (r : Rule) (x : ℕ) → app r ≡ true → agree r.path p ≡ true → x ≡ rank r → x + 1 ≡ weight (fitting app p) r
unfolding weight whether◌then◌else◌ ◌and◌
weight_fit app p r x h e i = rw (h, e) (omega arith)

-- ---- the weight with the number

pub pack : (x i : ℕ) → x ≤ top_rank → i < max_rules → Packed (x * max_rules + i) i
pack x i h l = record { number = omega arith; light = omega arith }

module _ (test : Rule → Bool) (r : Rule) (i x : ℕ) (l : i < max_rules) (h : x ≡ weight test r * max_rules + i) where
  heavy : test r ≡ true → x ≡ suc (rank r) * max_rules + i
  unfolding weight whether◌then◌else◌
  heavy e = h ∙ rw e

  light : test r ≡ false → x ≡ i
  unfolding weight whether◌then◌else◌
  light e = let z : x ≡ 0 * max_rules + i = h ∙ rw e in omega arith

  pub unfit : x < max_rules → test r ≡ false
  unfit k = by (test r) (λ e. let z = heavy e in absurd (omega arith)) (λ e. e)

  pub fit : Fits x → test r ≡ true
  fit k = by (test r) (λ e. e) (λ e. let z = light e in absurd (omega arith))

  pub ranked : test r ≡ true → x / max_rules ≡ suc (rank r)
  ranked e = let z = heavy e in omega arith

-- ---- opposite actions

pub same_actions : (x v : Bool) → beq x v ≡ true → xor x v ≡ false
unfolding xor
same_actions true true e = refl
same_actions false false e = refl
same_actions true false e = sym e
same_actions false true e = sym e

pub other_actions : (x v : Bool) → beq x v ≡ false → xor x v ≡ true
unfolding xor
other_actions true true e = sym e
other_actions false false e = sym e
other_actions true false e = refl
other_actions false true e = refl
