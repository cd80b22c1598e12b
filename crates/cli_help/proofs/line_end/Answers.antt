-- `line_end`: the LF that is found lies within the page.
use native.Mathlib.Omega.{arith}
use Rattle.text_search.proofs.Searching.{found_low, found_high}
use Rattle.cli_help.proofs.line_end.Goals as goal

pub returns : goal.returns
returns c = (found_low _ _ _ _ (omega arith) c.find.ensures, found_high _ _ _ _ (omega arith) c.find.ensures)
