use Rattle.std.proofs.Common.{◌∙◌, sym, arith}
use Rattle.path_frame.specs.Walked.{key_said}
use Rattle.path_frame.proofs.Walks.{keys_turn}
use Rattle.path_frame.proofs.read_keys.Goals as goal

pub loop-later-preserved : goal.loop-later-preserved
unfolding key_said
loop-later-preserved c =
    c.loop-later.invariant
    ∙ rw (c.smaller-refusal.ensures, c.check_key.ensures, c.has_key-again.ensures)
    (keys_turn c.args.f.now c.loop-later.next c.loop-later.later _ _ _ (sym c.in_ok-k.ensures) (omega arith))
