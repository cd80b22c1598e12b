use borrow.Author.Tests.{ne_eqb}
use native.Mathlib.Omega.{arith}
use Prim.Native.Nat.{◌-◌, ◌+◌, ◌<◌}
use mathlib.Core.Path.{◌≡◌, sym, ap, ◌∙◌}
use lib.ListN.{take}
use Rattle.cli_parts.specs.Parts.{whole_length}
use Rattle.cli_parts.proofs.Whole.{whole_here, whole_before, whole_all, whole_none}
use Rattle.cli_parts.proofs.whole_length.Goals as goal

pub loop-n-init : goal.loop-n-init
loop-n-init c = whole_all _

pub returns-then-text-n-eq10 : goal.returns-then-text-n-eq10
returns-then-text-n-eq10 c =
    let l : 0 < c.loop-n.n = c.loop-n-test.true in
    let z : c.loop-n.n - 1 + 1 ≡ c.loop-n.n = omega arith in
    sym (sym c.loop-n.invariant ∙ sym (ap (λ k. whole_length (take k c.args.text.now)) z) ∙
    whole_here c.args.text.now (c.loop-n.n - 1) (omega (arith, c.loop-n.auto.n)) c.if-text-n-eq10.true)

pub loop-n-preserved : goal.loop-n-preserved
loop-n-preserved c =
    let l : 0 < c.loop-n.n = c.loop-n-test.true in
    let z : c.loop-n.n - 1 + 1 ≡ c.loop-n.n = omega arith in
    sym (whole_before c.args.text.now (c.loop-n.n - 1)
    (omega (arith, c.loop-n.auto.n)) (ne_eqb _ _ c.if-text-n-eq10.false)) ∙ ap
    (λ k. whole_length (take k c.args.text.now)) z ∙ c.loop-n.invariant

pub returns : goal.returns
returns c =
    let z : c.loop-n.n ≡ 0 = omega (arith, c.loop-n-test.false) in
    sym (sym c.loop-n.invariant ∙ ap (λ k. whole_length (take k c.args.text.now)) z ∙ whole_none)
