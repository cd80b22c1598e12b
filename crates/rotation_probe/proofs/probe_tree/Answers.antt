-- `probe_tree` goes by where the text in force lies.
use native.Mathlib.Omega.{arith}
use mathlib.Core.Path.{ap, ◌∙◌}
use Rattle.refusal.specs.Refusal.{number}
use Rattle.refusal.specs.declared.fault.Fault.{Fault}
use Rattle.verdict_request.specs.TreeAnswer as answers
use Rattle.rotation_probe.specs.Probe.{tree_on}
use Rattle.rotation_probe.proofs.Sources.{from, part_within, lies, factory, refused}
use Rattle.rotation_probe.proofs.Probes.{tree_from}
use Rattle.rotation_probe.proofs.probe_tree.Goals as goal

pub slice_bounds-tree_verdict-count : goal.slice_bounds-tree_verdict-count
slice_bounds-tree_verdict-count c = omega (arith, (part_within _ _ _ _ _ (lies _ _ _ _ c.find_source.ensures _ _ c.in-Ok-Some.is c.in-Ok-Some.field-0-is)).0)

pub slice_bounds-tree_verdict-start : goal.slice_bounds-tree_verdict-start
slice_bounds-tree_verdict-start c = (part_within _ _ _ _ _ (lies _ _ _ _ c.find_source.ensures _ _ c.in-Ok-Some.is c.in-Ok-Some.field-0-is)).0

pub slice_bounds-tree_verdict-end : goal.slice_bounds-tree_verdict-end
slice_bounds-tree_verdict-end c = (part_within _ _ _ _ _ (lies _ _ _ _ c.find_source.ensures _ _ c.in-Ok-Some.is c.in-Ok-Some.field-0-is)).1

pub returns-in-Err : goal.returns-in-Err
unfolding from
returns-in-Err c =
    tree_from _ _ _ _ _ _ _ (refused _ _ _ _ c.find_source.ensures _ c.in-Err.is) _
    (ap (λ (f : Fault). answers.Refused (number f.refusal) f.line) c.at.ensures)

pub returns-in-Ok-None : goal.returns-in-Ok-None
unfolding from tree_on
returns-in-Ok-None c =
    tree_from _ _ _ _ _ _ _ (factory _ _ _ _ c.find_source.ensures _ c.in-Ok-None.is c.in-Ok-None.field-0-is) _ c.factory_tree.ensures

pub returns-in-Ok-Some : goal.returns-in-Ok-Some
unfolding from
returns-in-Ok-Some c =
    tree_from _ _ _ _ _ _ _ (lies _ _ _ _ c.find_source.ensures _ _ c.in-Ok-Some.is c.in-Ok-Some.field-0-is) _ c.tree_verdict.ensures
