-- `groups_text` is the definition.
use mathlib.Core.Path.{◌≡◌, ap, ◌∙◌}
use Rattle.std.specs.Prelude.{Some, None}
use Rattle.table.specs.Counted.{Count, NoGroup, counted_as}
use Rattle.cli_answers.specs.Rows.{groups_line}
use Rattle.cli_table.proofs.Groups.{groups_told, none_told, refusal_bare}
use Rattle.cli_table.proofs.tables.groups_text.Goals as goal

pub returns-in-Ok-Some : goal.returns-in-Ok-Some
returns-in-Ok-Some c =
    let e : c.in-Ok-Some.field-0 ≡ Some c.in-Ok-Some.field-0-0 = rw c.in-Ok-Some.is at c.in-Ok-Some.field-0-is in
    let told : counted_as c.args.c ≡ Count c.in-Ok-Some.field-0-0.count c.in-Ok-Some.field-0-0.first = rw (c.in-Ok-Some.is, e) in
    groups_told _ _ c.requires _ (c.add_count.ensures.added ∙ rw c.new-text.ensures) _ told c.add_groups.ensures

pub returns-in-Ok-None : goal.returns-in-Ok-None
returns-in-Ok-None c =
    let e : c.in-Ok-None.field-0 ≡ None = rw c.in-Ok-None.is at c.in-Ok-None.field-0-is in
    let told : counted_as c.args.c ≡ NoGroup = rw (c.in-Ok-None.is, e) in
    none_told _ _ c.requires _ (c.add_count.ensures.added ∙ rw c.new-text.ensures) told

pub returns-in-Err : goal.returns-in-Err
returns-in-Err c =
    refusal_bare _ _ c.requires _ (c.add_count.ensures.added ∙ rw c.new-text.ensures) (ap counted_as c.in-Err.is)
