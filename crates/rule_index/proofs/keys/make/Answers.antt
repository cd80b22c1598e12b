use native.Mathlib.Omega.{arith}
use mathlib.Core.Path.{refl, ◌∙◌}
use Prim.Native.Nat.{ℕ}
use lib.ListN.{length-set}
use Rattle.text.proofs.Stores.{stored}
use Rattle.rule_index.specs.Index.{KeyedAt}
use Rattle.rule_index.proofs.keys.make.Goals as goal

pub loop-i-init : goal.loop-i-init
loop-i-init c = (refl, λ i z. absurd (omega arith))

pub key_of-requires : goal.key_of-requires
key_of-requires c = let few = c.args.rules.few in (omega arith, c.requires.1, c.requires.2)

pub loop-i-preserved : goal.loop-i-preserved
loop-i-preserved c =
    let R = c.args.rules in (
      length-set (c.loop-i.keys) _ _ ∙ c.loop-i.invariant.0,
      stored (λ (j x : ℕ). KeyedAt c.args.seed R.bytes.now R.starts.now j x) c.loop-i.keys _ _
          (omega (arith, c.requires.0, c.loop-i.invariant.0)) (c.loop-i.invariant.1) (rw c.rule.ensures at c.key_of.ensures),
    )

pub returns-clause-keyed : goal.returns-clause-keyed
returns-clause-keyed c = λ j l. c.loop-i.invariant.1 j (omega arith)
