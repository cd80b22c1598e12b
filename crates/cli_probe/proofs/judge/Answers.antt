-- `judge` is safe: the text in force lies within the store.
use Rattle.rotation_probe.proofs.Sources.{part_within, lies}
use Rattle.cli_probe.proofs.judge.Goals as goal

pub slice_bounds-fallback-count : goal.slice_bounds-fallback-count
slice_bounds-fallback-count c = (part_within _ _ _ _ _ (lies _ _ _ _ c.find_source.ensures _ _ c.in-Ok-Some.is c.in-Ok-Some.field-0-is)).0

pub slice_bounds-fallback-start : goal.slice_bounds-fallback-start
slice_bounds-fallback-start c = (part_within _ _ _ _ _ (lies _ _ _ _ c.find_source.ensures _ _ c.in-Ok-Some.is c.in-Ok-Some.field-0-is)).0

pub slice_bounds-fallback-end-in-Ok-Some : goal.slice_bounds-fallback-end-in-Ok-Some
slice_bounds-fallback-end-in-Ok-Some c = (part_within _ _ _ _ _ (lies _ _ _ _ c.find_source.ensures _ _ c.in-Ok-Some.is c.in-Ok-Some.field-0-is)).1
