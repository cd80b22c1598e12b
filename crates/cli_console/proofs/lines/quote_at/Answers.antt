-- `quote_at` is safe: the LF that is found lies within the text.
use native.Mathlib.Omega.{arith}
use Rattle.text_search.proofs.Searching.{found_high}
use Rattle.cli_console.proofs.lines.quote_at.Goals as goal

pub slice_bounds-print-end : goal.slice_bounds-print-end
slice_bounds-print-end c = found_high _ _ _ _ (omega arith) c.find-end.ensures
