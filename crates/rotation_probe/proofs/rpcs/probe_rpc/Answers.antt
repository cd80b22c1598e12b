use native.Mathlib.Omega.{arith}
use mathlib.Core.Path.{ap}
use Rattle.rotation_probe.specs.Rpc.{rpc_on, rpc_refused}
use Rattle.rotation_probe.proofs.Sources.{from, part_within, lies, factory, refused}
use Rattle.rotation_probe.proofs.Probes.{rpc_from}
use Rattle.rotation_probe.proofs.rpcs.probe_rpc.Goals as goal

pub slice_bounds-judge-count : goal.slice_bounds-judge-count
slice_bounds-judge-count c = omega (arith, (part_within _ _ _ _ _ (lies _ _ _ _ c.find_source.ensures _ _ c.in-Ok-Some.is c.in-Ok-Some.field-0-is)).0)

pub slice_bounds-judge-start : goal.slice_bounds-judge-start
slice_bounds-judge-start c = (part_within _ _ _ _ _ (lies _ _ _ _ c.find_source.ensures _ _ c.in-Ok-Some.is c.in-Ok-Some.field-0-is)).0

pub slice_bounds-judge-end : goal.slice_bounds-judge-end
slice_bounds-judge-end c = (part_within _ _ _ _ _ (lies _ _ _ _ c.find_source.ensures _ _ c.in-Ok-Some.is c.in-Ok-Some.field-0-is)).1

pub returns-in-Err : goal.returns-in-Err
unfolding from
returns-in-Err c = rpc_from _ _ _ _ _ _ (refused _ _ _ _ c.find_source.ensures _ c.in-Err.is) _ (ap rpc_refused c.number.ensures)

pub returns-in-Ok-None : goal.returns-in-Ok-None
unfolding from rpc_on
returns-in-Ok-None c =
    rpc_from _ _ _ _ _ _ (factory _ _ _ _ c.find_source.ensures _ c.in-Ok-None.is c.in-Ok-None.field-0-is) _ c.factory_rpc.ensures

pub returns-in-Ok-Some : goal.returns-in-Ok-Some
unfolding from
returns-in-Ok-Some c =
    rpc_from _ _ _ _ _ _ (lies _ _ _ _ c.find_source.ensures _ _ c.in-Ok-Some.is c.in-Ok-Some.field-0-is) _ c.judge.ensures
