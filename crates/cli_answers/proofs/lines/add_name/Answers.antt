-- `add_name` stores the name apart, and adds it.
use Prim.Native.Nat.{ℕ}
use mathlib.Core.Path.{◌∙◌}
use lib.ListN.{length-replicate}
use Rattle.limits.specs.Limits.{max_string}
use Rattle.cli_answers.proofs.Naming.{name_room, name_taken, name_there}
use Rattle.cli_answers.proofs.lines.add_name.Goals as goal

pub slice_bounds-name-end : goal.slice_bounds-name-end
slice_bounds-name-end g c = name_room _ _ _ _ _ (length-replicate {A = ℕ} max_string 0) c.name_of-n.ensures

pub slice_bounds-push_str-end : goal.slice_bounds-push_str-end
slice_bounds-push_str-end g c = name_taken _ _ _ _ _ (length-replicate {A = ℕ} max_string 0) c.name_of-n.ensures

pub returns-clause-added : goal.returns-clause-added
returns-clause-added g c =
    c.push_str.ensures ∙ rw (name_there _ _ _ _ _ (length-replicate {A = ℕ} max_string 0) c.name_of-n.ensures)
