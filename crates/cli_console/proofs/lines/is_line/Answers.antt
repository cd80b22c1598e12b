-- `is_line` is safe: the LF that is found lies within the text.
use native.Mathlib.Omega.{arith}
use Rattle.text_search.proofs.Searching.{found_high}
use Rattle.cli_console.proofs.lines.is_line.Goals as goal

pub slice_bounds-is_same-end : goal.slice_bounds-is_same-end
slice_bounds-is_same-end c = found_high _ _ _ _ (omega arith) c.find-end.ensures
