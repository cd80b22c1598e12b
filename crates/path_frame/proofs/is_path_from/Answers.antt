use Rattle.std.proofs.Common.{eq-eqb, ne_eqb}
use Rattle.text.specs.Test.{◌and◌}
use Rattle.refusal.proofs.Numbers.{code_ok}
use Rattle.path_frame.specs.Walked.{walk_said}
use Rattle.path_frame.proofs.Walks.{a_path}
use Rattle.path_frame.proofs.is_path_from.Goals as goal

pub returns-then-w-f : goal.returns-then-w-f
unfolding walk_said ◌and◌
returns-then-w-f c = rw (a_path _ _ _ _ c.in-Some.ensures, eq-eqb _ _ c.if-w-f.true, code_ok c.in-Some.w.refusal) c.is_ok.ensures.value

pub returns-else-w-f : goal.returns-else-w-f
unfolding walk_said ◌and◌
returns-else-w-f c = rw (a_path _ _ _ _ c.in-Some.ensures, ne_eqb _ _ c.if-w-f.false)
