use Prim.Native.Nat.{◌-◌, ◌≤◌}
use borrow.Author.Tests.{ltb-true, ltb-false}
use lib.Dec.{ltb}
use lib.ListN.{length, length-take, length-drop}
use Rattle.text.proofs.Tests.{by}
use native.Mathlib.Omega.{arith}
use Rattle.vectors.proofs.run_lines.Goals as goal

pub run_line-requires : goal.run_line-requires
run_line-requires c = simp (length-take, length-drop) (omega arith)

pub loop-at-smaller : goal.loop-at-smaller
loop-at-smaller c =
    by (ltb c.up_to.result (length c.args.text.now))
    (λ e. omega (arith, c.after-next.ensures.2 (ltb-true _ _ e)))
    (λ e. let h : length c.args.text.now ≤ c.up_to.result = ltb-false _ _ e in omega arith)
