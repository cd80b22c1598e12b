-- `find` answers what stands from the key on, up to the end of the line.
use native.Mathlib.Omega.{arith}
use Rattle.cli_refusal.proofs.Looking.{entry_is, entry_end, entry_short}
use Rattle.cli_refusal.proofs.entry.find.Goals as goal

pub slice_bounds-result-count : goal.slice_bounds-result-count
slice_bounds-result-count c = let e = entry_end _ _ _ _ c.find_entry-from.ensures c.find-end.ensures in omega arith

pub slice_bounds-result-start : goal.slice_bounds-result-start
slice_bounds-result-start c = let e = entry_end _ _ _ _ c.find_entry-from.ensures c.find-end.ensures in omega arith

pub slice_bounds-result-end : goal.slice_bounds-result-end
slice_bounds-result-end c = let e = entry_end _ _ _ _ c.find_entry-from.ensures c.find-end.ensures in omega arith

pub returns : goal.returns
returns c =
    record {
      value = entry_is _ _ _ _ c.find_entry-from.ensures c.find-end.ensures;
      short = entry_short _ _ _ _ c.find_entry-from.ensures c.find-end.ensures;
    }
