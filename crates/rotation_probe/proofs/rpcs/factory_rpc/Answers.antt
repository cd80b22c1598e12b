use Rattle.std.proofs.Common.{refl}
use Rattle.refusal.proofs.Numbers.{never_clear}
use Rattle.rotation_probe.proofs.Probes.{factory_refused, factory_permits}
use Rattle.rotation_probe.proofs.rpcs.factory_rpc.Goals as goal

pub returns-in-Ok : goal.returns-in-Ok
returns-in-Ok c = factory_permits _ _ c.in-Ok.ensures refl

pub returns-in-Err : goal.returns-in-Err
returns-in-Err c = rw c.number.ensures (factory_refused _ _ c.in-Err.ensures (λ z. never_clear c.in-Err.refusal z))
