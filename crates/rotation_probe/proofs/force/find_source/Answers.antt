use Rattle.refusal.proofs.Numbers.{err_is}
use Rattle.rotation_probe.proofs.Sources.{source_refused, source_factory, source_part}
use Rattle.rotation_probe.proofs.force.find_source.Goals as goal

pub returns-in_err-check_kind : goal.returns-in_err-check_kind
returns-in_err-check_kind c =
    rw (err_is c.from_residual.result _ c.from_residual.ensures.1) (source_refused _ _ _ _ c.in_err-check_kind.ensures)

pub returns-in_default : goal.returns-in_default
returns-in_default c = source_factory _ _ _ c.in_ok-check_kind.ensures _ c.in_force.ensures c.in_default.is

pub returns : goal.returns
returns c = source_part _ _ _ c.in_ok-check_kind.ensures _ c.in_force.ensures _ c.in-Some.is _ c.slot_start-start.ensures
