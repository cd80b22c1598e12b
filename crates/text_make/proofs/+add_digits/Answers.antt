-- What stands before the last digit is added by the call, if anything does.
use native.Mathlib.Omega.{arith}
use mathlib.Core.Path.{◌≡◌, ap, ◌∙◌, sym}
use mathlib.Core.List.{◌++◌, append_assoc, append-nil}
use lib.ListN.{length, length-append}
use Rattle.text_make.proofs.Decimals.{decimal_then, decimal_long, before, before_some, before_none}
use Rattle.text_make.proofs.+add_digits.Goals as goal
use Rattle.text_make.proofs.+add_digits.Goals.{then-before-ne0, else-before-ne0}

pub add_digits-requires : goal.add_digits-requires
add_digits-requires t c =
    (omega (arith, c.decreases), omega (arith, decimal_long c.args.n c.ranges.n.fits, ap length (before_some c.args.n (omega (arith, c.if-before-ne0.true)))))

pub push-requires : goal.push-requires
push-requires t c =
    let added : c.if-before-ne0.text ≡ c.args.text.now ++ before c.args.n =
    elim c.if-before-ne0.branch [
      | then-before-ne0 w ↦ rw (w.text-is, before_some c.args.n (omega (arith, w.if-before-ne0.true))) w.add_digits.ensures
      | else-before-ne0 w ↦ w.text-is ∙ rw (before_none c.args.n (omega (arith, w.if-before-ne0.false))) (sym (append-nil c.args.text.now))
    ] in
    (omega arith, omega (arith, decimal_long c.args.n c.ranges.n.fits, ap length added, length-append c.args.text.now (before c.args.n)))

pub returns : goal.returns
returns t c =
    let added : c.if-before-ne0.text ≡ c.args.text.now ++ before c.args.n =
    elim c.if-before-ne0.branch [
      | then-before-ne0 w ↦ rw (w.text-is, before_some c.args.n (omega (arith, w.if-before-ne0.true))) w.add_digits.ensures
      | else-before-ne0 w ↦ w.text-is ∙ rw (before_none c.args.n (omega (arith, w.if-before-ne0.false))) (sym (append-nil c.args.text.now))
    ] in
    c.push.ensures ∙ rw (added, decimal_then c.args.n c.ranges.n.fits) (append_assoc c.args.text.now (before c.args.n) _)
