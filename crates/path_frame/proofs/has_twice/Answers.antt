use Rattle.std.proofs.Common.{◌∙◌, sym, arith}
use Rattle.text.specs.Test.{◌or◌}
use Rattle.path_frame.specs.Walked.{key_said}
use Rattle.path_frame.proofs.Walks.{twice_turn}
use Rattle.path_frame.proofs.has_twice.Goals as goal

pub returns-then-has_key : goal.returns-then-has_key
unfolding key_said ◌or◌
returns-then-has_key c =
    sym (c.loop-later.invariant ∙ twice_turn c.args.f.now c.loop-later.p c.loop-later.later _ _ (sym c.in-Some.ensures) (omega arith) ∙ rw (← c.has_key.ensures, c.if-has_key.true))

pub loop-later-preserved : goal.loop-later-preserved
unfolding key_said ◌or◌
loop-later-preserved c =
    c.loop-later.invariant ∙ twice_turn c.args.f.now c.loop-later.p c.loop-later.later _ _ (sym c.in-Some.ensures) (omega arith) ∙ rw (← c.has_key.ensures, c.if-has_key.false)
