-- `answer_rpc` is safe: the text in force lies within the store.
use Rattle.rotation_probe.proofs.Sources.{part_within, lies}
use Rattle.cli_probe.proofs.answer_rpc.Goals as goal

pub slice_bounds-tell_rpc-count : goal.slice_bounds-tell_rpc-count
slice_bounds-tell_rpc-count c = (part_within _ _ _ _ _ (lies _ _ _ _ c.find_source.ensures _ _ c.in-Ok-Some.is c.in-Ok-Some.field-0-is)).0

pub slice_bounds-tell_rpc-start : goal.slice_bounds-tell_rpc-start
slice_bounds-tell_rpc-start c = (part_within _ _ _ _ _ (lies _ _ _ _ c.find_source.ensures _ _ c.in-Ok-Some.is c.in-Ok-Some.field-0-is)).0

pub slice_bounds-tell_rpc-end : goal.slice_bounds-tell_rpc-end
slice_bounds-tell_rpc-end c = (part_within _ _ _ _ _ (lies _ _ _ _ c.find_source.ensures _ _ c.in-Ok-Some.is c.in-Ok-Some.field-0-is)).1
