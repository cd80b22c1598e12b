-- `bytes_line` reads the bytes apart, and then makes their digits.
use Prim.Native.Nat.{ℕ, ◌*◌}
use mathlib.Core.Path.{sym, ap}
use lib.ListN.{replicate, length-replicate}
use lib.Seq.{length-take-le}
use Rattle.limits.specs.Sizes.{max_path_bytes}
use Rattle.path_read.specs.Calls.{filled_of}
use Rattle.cli_answers.proofs.PathLines.{read_room, read_taken, hex_room, hex_end, hex_line_is, hex_made, hex_nothing}
use Rattle.cli_answers.proofs.paths.bytes_line.Goals as goal

pub slice_bounds-bytes-end : goal.slice_bounds-bytes-end
slice_bounds-bytes-end c =
    read_room _ _ _ _ (length-replicate {A = ℕ} max_path_bytes 0) c.read_text.ensures _ (ap filled_of c.in-Ok.is)

pub slice_bounds-write_hex-end : goal.slice_bounds-write_hex-end
slice_bounds-write_hex-end c =
    read_taken _ _ _ _ (length-replicate {A = ℕ} max_path_bytes 0) c.read_text.ensures _ (ap filled_of c.in-Ok.is)

pub write_hex-end-requires : goal.write_hex-end-requires
write_hex-end-requires c =
    hex_room _ _ _ _ (length-replicate {A = ℕ} max_path_bytes 0) c.read_text.ensures _ (ap filled_of c.in-Ok.is)
    (replicate (2 * max_path_bytes) 0) (length-replicate {A = ℕ} (2 * max_path_bytes) 0)

pub slice_bounds-digits-end : goal.slice_bounds-digits-end
slice_bounds-digits-end c =
    hex_end _ _ _ _ (length-replicate {A = ℕ} max_path_bytes 0) c.read_text.ensures _ (ap filled_of c.in-Ok.is)
    (replicate (2 * max_path_bytes) 0) (length-replicate {A = ℕ} (2 * max_path_bytes) 0) _ _ c.write_hex-end.ensures

pub slice_bounds-of-end : goal.slice_bounds-of-end
slice_bounds-of-end c =
    sym (length-take-le _ _ (hex_end _ _ _ _ (length-replicate {A = ℕ} max_path_bytes 0) c.read_text.ensures _ (ap filled_of c.in-Ok.is)
    (replicate (2 * max_path_bytes) 0) (length-replicate {A = ℕ} (2 * max_path_bytes) 0) _ _ c.write_hex-end.ensures))

pub returns-in-Ok : goal.returns-in-Ok
returns-in-Ok c =
    rw (
      c.push_str.ensures,
      c.of-hex.ensures,
      hex_line_is _ _ _ _ (length-replicate {A = ℕ} max_path_bytes 0) c.read_text.ensures _ (ap filled_of c.in-Ok.is) (replicate (2 * max_path_bytes) 0) (length-replicate {A = ℕ} (2 * max_path_bytes) 0) _ _
          c.write_hex-end.ensures,
    ) (hex_made _ _ _ _ (length-replicate {A = ℕ} max_path_bytes 0) c.read_text.ensures _ (ap filled_of c.in-Ok.is))

pub returns-in-Err : goal.returns-in-Err
returns-in-Err c =
    hex_nothing _ _ _ _ (length-replicate {A = ℕ} max_path_bytes 0) c.read_text.ensures _ (ap filled_of c.in-Err.is)
