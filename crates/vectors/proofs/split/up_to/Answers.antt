-- `up_to` equals its definition: what it finds lies within the line.
use native.Mathlib.Omega.{arith}
use Rattle.text_search.proofs.Searching.{found_low, found_high}
use Rattle.vectors.proofs.split.up_to.Goals as goal

pub returns-then-found-end : goal.returns-then-found-end
returns-then-found-end c =
    (found_low _ _ _ _ (omega arith) c.find-found.ensures, found_high _ _ _ _ (omega arith) c.find-found.ensures)

pub returns-else-found-end : goal.returns-else-found-end
returns-else-found-end c =
    (found_low _ _ _ _ (omega arith) c.find-end.ensures, found_high _ _ _ _ (omega arith) c.find-end.ensures)
