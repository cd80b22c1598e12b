-- `read_plain` stores the bytes of the value, one after another.
use Rattle.limits.specs.Limits.{max_string}
use Rattle.path_read.specs.Steps.{Within}
use Rattle.path_read.proofs.Storing.{Storing}
use Rattle.path_read.proofs.Reading.{single}
use Prim.Native.Nat.{◌-◌, ◌≤◌}
use Rattle.path_read.specs.TextReader.{value}
use Rattle.path_read.proofs.reader.read_plain.Given as goal

-- The bytes read so far, one for each that is no longer `left`, stand in `out` from `to` up to q; what is read from p on completes the value.
abbrev pub invariant-loop-byte : goal.invariant-loop-byte
invariant-loop-byte l = Storing single l.initial.out l.to (value max_string l.text l.at) (max_string - l.left) l.out l.q (value l.left l.text l.p) × (l.left ≤ max_string) ×
    Within (max_string - l.left) 0 l.text l.at l.p l.to l.q

abbrev pub decreases-loop-byte : goal.decreases-loop-byte
decreases-loop-byte l = l.left
