-- `read_elements` stores the elements, and then their count.
use Rattle.limits.specs.Limits.{max_elements}
use Rattle.limits.specs.Sizes.{max_elem_bytes, max_path_bytes}
use Rattle.path_read.specs.Steps.{max_growth, good_element, Within}
use Rattle.path_read.proofs.Storing.{Storing}
use Prim.Native.Nat.{◌*◌, ◌-◌, ◌≤◌}
use Rattle.path.specs.Bytes.{elem_bytes}
use Rattle.path_read.specs.TextReader.{each}
use Rattle.path_read.proofs.reader.read_elements.Given as goal

-- The elements read so far, one for each that is no longer `left`, stand in `out` after the count, up to q; what is read from p on completes them.
abbrev pub invariant-loop-left : goal.invariant-loop-left
invariant-loop-left l = Storing elem_bytes l.initial.out 1 (each 47 max_elements good_element l.text 0) (max_elements - l.left) l.out l.q
    (each 47 l.left good_element l.text l.p) × (l.left ≤ max_elements) × Within (max_path_bytes - max_elem_bytes * l.left) (max_growth - l.left) l.text 0 l.p 0 l.q

abbrev pub decreases-loop-left : goal.decreases-loop-left
decreases-loop-left l = l.left
