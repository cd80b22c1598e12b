-- `text_line` makes the text apart, and then the line.
use Prim.Native.Nat.{ℕ}
use mathlib.Core.Path.{sym, ap}
use lib.ListN.{length-replicate}
use lib.Seq.{length-take-le}
use Rattle.limits.specs.Sizes.{max_path_text}
use Rattle.path_read.specs.Calls.{filled_of}
use Rattle.cli_answers.proofs.PathLines.{text_room, text_made, text_nothing}
use Rattle.cli_answers.proofs.paths.text_line.Goals as goal

pub slice_bounds-text-end : goal.slice_bounds-text-end
slice_bounds-text-end c =
    text_room _ _ _ _ (length-replicate {A = ℕ} max_path_text 0) c.write_text.ensures _ (ap filled_of c.in-Ok.is)

pub slice_bounds-of-end : goal.slice_bounds-of-end
slice_bounds-of-end c =
    sym (length-take-le _ _ (text_room _ _ _ _ (length-replicate {A = ℕ} max_path_text 0) c.write_text.ensures _ (ap filled_of c.in-Ok.is)))

pub returns-in-Ok : goal.returns-in-Ok
returns-in-Ok c =
    rw (c.push_str.ensures, c.of-line.ensures)
    (text_made _ _ _ _ (length-replicate {A = ℕ} max_path_text 0) c.write_text.ensures _ (ap filled_of c.in-Ok.is))

pub returns-in-Err : goal.returns-in-Err
returns-in-Err c =
    text_nothing _ _ _ _ (length-replicate {A = ℕ} max_path_text 0) c.write_text.ensures _ (ap filled_of c.in-Err.is)
