-- `path` is the definition.
use mathlib.Core.Path.{◌≡◌}
use Rattle.verdict_request.specs.declared.PathAnswer.TheVariants.{Permit, Deny, Default}
use Rattle.cli_answers.specs.Lines.{path_lines}
use Rattle.cli_answers.proofs.lines.path.Goals as goal

pub returns-in-Ok-Permit : goal.returns-in-Ok-Permit
unfolding path_lines
returns-in-Ok-Permit c =
    let e : c.in-Ok-Permit.field-0 ≡ Permit c.in-Ok-Permit.rule = rw c.in-Ok-Permit.is at c.in-Ok-Permit.field-0-is in rw (c.in-Ok-Permit.is, e) c.by_rule.ensures

pub returns-in-Ok-Deny : goal.returns-in-Ok-Deny
unfolding path_lines
returns-in-Ok-Deny c =
    let e : c.in-Ok-Deny.field-0 ≡ Deny c.in-Ok-Deny.rule = rw c.in-Ok-Deny.is at c.in-Ok-Deny.field-0-is in rw (c.in-Ok-Deny.is, e) c.by_rule-in-Ok-Deny.ensures

pub returns-in-Ok-Default : goal.returns-in-Ok-Default
unfolding path_lines
returns-in-Ok-Default c =
    let e : c.in-Ok-Default.field-0 ≡ Default = rw c.in-Ok-Default.is at c.in-Ok-Default.field-0-is in
    rw (c.in-Ok-Default.is, e) (simp (c.new-text.ensures, c.push_str.ensures, c.push_str-in-Ok-Default.ensures, c.reason.ensures.value))

pub returns-in-Err : goal.returns-in-Err
unfolding path_lines
returns-in-Err c = rw c.in-Err.is c.new.ensures
