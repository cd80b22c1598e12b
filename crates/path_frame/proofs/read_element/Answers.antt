use Rattle.std.proofs.Common.{sym, ltb-false}
use Rattle.path_frame.specs.Walked.{walk_said}
use Rattle.path_frame.proofs.Walks.{element_countless}
use Rattle.path_frame.proofs.read_element.Goals as goal

pub returns-in_err-count : goal.returns-in_err-count
unfolding walk_said
returns-in_err-count c =
    rw c.from_residual-in_err-count.ensures
    (sym (element_countless c.args.f.now c.args.at _ (sym c.in_ok-middle.ensures) (ltb-false _ _ (sym c.in_err-count.ensures.lookup.0))))
