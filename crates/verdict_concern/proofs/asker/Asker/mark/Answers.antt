use native.Mathlib.Omega.{arith}
use mathlib.Core.Path.{◌≡◌, refl, ◌∙◌}
use mathlib.Core.Bool.{Bool, false}
use Prim.Native.Nat.{ℕ}
use lib.ListN.{length-set}
use Rattle.verdict_judge.proofs.Storing.{stored_in}
use Rattle.verdict_concern.specs.Concern.{applies_to}
use Rattle.verdict_concern.proofs.asker.Asker.mark.Goals as goal

pub loop-i-init : goal.loop-i-init
loop-i-init c = (refl, λ i z. absurd (omega arith))

pub loop-i-preserved : goal.loop-i-preserved
loop-i-preserved c = (
  length-set c.loop-i.on c.loop-i.i _ ∙ c.loop-i.invariant.0,
  stored_in false (λ (j : ℕ) (v : Bool). v ≡ applies_to c.args.self c.args.rules j) c.loop-i.on c.loop-i.i
      c.is_concerned.result (omega (arith, c.loop-i.invariant.0)) c.loop-i.invariant.1 c.is_concerned.ensures,
)

pub returns-clause-marks : goal.returns-clause-marks
returns-clause-marks c = λ i l. c.loop-i.invariant.1 i (omega arith)

pub overflow_cast-i : goal.overflow_cast-i
overflow_cast-i c = let few = c.args.rules.safe.few in omega arith
