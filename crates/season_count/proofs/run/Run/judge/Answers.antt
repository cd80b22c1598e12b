-- `judge` answers as the table does to the frame's request.
use mathlib.Core.Path.{sym, ◌∙◌}
use Rattle.season_count.specs.Loaded.{Judges}
use Rattle.season_count.proofs.Judging.{no_head, head_of, path_ends, bad_end, answered}
use Rattle.season_count.proofs.run.Run.judge.Goals as goal

pub returns-in_err-path : goal.returns-in_err-path
unfolding Judges
returns-in_err-path c = rw c.from_residual.ensures (no_head _ _ _ _ c.turn_to.ensures c.in_err-path.was)

pub returns-then-not-is_path_from : goal.returns-then-not-is_path_from
unfolding Judges
returns-then-not-is_path_from c =
    bad_end (head_of _ _ _ _ c.turn_to.ensures _ c.in_ok-path.was) (sym c.is_path_from.ensures ∙ c.if-not-is_path_from.true)

pub read-requires : goal.read-requires
read-requires c = path_ends _ _ (sym c.is_path_from.ensures ∙ c.if-not-is_path_from.false)

pub returns : goal.returns
unfolding Judges
returns c =
    answered (head_of _ _ _ _ c.turn_to.ensures _ c.in_ok-path.was) (sym c.is_path_from.ensures ∙ c.if-not-is_path_from.false) _
    c.decide-found.ensures.below (rw c.read.ensures.path at c.decide-found.ensures.best) _ c.decided.ensures
