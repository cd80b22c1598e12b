-- `of_counted` equals its definition.
use mathlib.Core.Path.{◌≡◌, ap, ◌∙◌}
use Rattle.std.specs.Prelude.{Option, Some, None, Ok}
use Rattle.table.specs.declared.Groups.{Groups}
use Rattle.burgee.specs.Word.{counted_word}
use Rattle.burgee.proofs.word.of_counted.Goals as goal

pub returns-in-Ok-Some : goal.returns-in-Ok-Some
unfolding counted_word
returns-in-Ok-Some c =
    let e : c.in-Ok-Some.field-0 ≡ Some c.in-Ok-Some.groups = rw c.in-Ok-Some.is at c.in-Ok-Some.field-0-is in
    rw (c.in-Ok-Some.is, e)

pub returns-in-Ok-None : goal.returns-in-Ok-None
unfolding counted_word
returns-in-Ok-None c =
    let e : c.in-Ok-None.field-0 ≡ None = rw c.in-Ok-None.is at c.in-Ok-None.field-0-is in
    rw (c.in-Ok-None.is, e)

pub returns-in-Err : goal.returns-in-Err
unfolding counted_word
returns-in-Err c = c.of_refusal.ensures ∙ rw (c.number.ensures, c.in-Err.is)
