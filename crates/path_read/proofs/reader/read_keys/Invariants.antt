-- `read_keys` stores the keys, and then their count, where no two have the same name.
use Prim.Native.Nat.{◌+◌, ◌*◌, ◌-◌, ◌≤◌}
use Rattle.limits.specs.Limits.{max_keys}
use Rattle.limits.specs.Sizes.{max_key_bytes, max_keys_bytes}
use Rattle.path.specs.Bytes.{key_bytes}
use Rattle.path_read.specs.TextReader.{each}
use Rattle.path_read.specs.Steps.{good_key, Within}
use Rattle.path_read.proofs.Storing.{Storing}
use Rattle.path_read.proofs.reader.read_keys.Given as goal

-- The keys read so far, one for each that is no longer `left`, stand in `out` after the count, up to q; what is read from p on completes them.
abbrev pub invariant-loop-left : goal.invariant-loop-left
invariant-loop-left l = Storing key_bytes l.initial.out (l.to + 1) (each 91 max_keys good_key l.text l.at) (max_keys - l.left) l.out l.q
    (each 91 l.left good_key l.text l.p) × (l.left ≤ max_keys) × Within (max_keys_bytes - max_key_bytes * l.left) 1 l.text l.at l.p l.to l.q

abbrev pub decreases-loop-left : goal.decreases-loop-left
decreases-loop-left l = l.left
