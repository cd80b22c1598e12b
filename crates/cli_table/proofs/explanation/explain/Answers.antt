-- `explain` tells what is below the verdict.
use mathlib.Core.Path.{◌≡◌, ap}
use Rattle.verdict_request.specs.Answers.{path_answer_of}
use Rattle.verdict_request.specs.PathAnswer as path
use Rattle.verdict_request.specs.declared.PathAnswer.TheVariants.{Permit, Deny, Default}
use Rattle.cli_table.proofs.Matches.{explained_permit, explained_deny, unexplained, refused_bare}
use Rattle.cli_table.proofs.explanation.explain.Goals as goal

pub returns-in-Ok-Permit : goal.returns-in-Ok-Permit
returns-in-Ok-Permit c =
    let e : c.in-Ok-Permit.field-0 ≡ Permit c.in-Ok-Permit.field-0-0 = rw c.in-Ok-Permit.is at c.in-Ok-Permit.field-0-is in
    let told : path_answer_of c.args.a ≡ path.Permit c.in-Ok-Permit.field-0-0 = rw (c.in-Ok-Permit.is, e) in
    explained_permit _ _ _ _ _ _ c.requires _ _ told c.matches.ensures

pub returns-in-Ok-Deny : goal.returns-in-Ok-Deny
returns-in-Ok-Deny c =
    let e : c.in-Ok-Deny.field-0 ≡ Deny c.in-Ok-Deny.field-0-0 = rw c.in-Ok-Deny.is at c.in-Ok-Deny.field-0-is in
    let told : path_answer_of c.args.a ≡ path.Deny c.in-Ok-Deny.field-0-0 = rw (c.in-Ok-Deny.is, e) in
    explained_deny _ _ _ _ _ _ c.requires _ _ told c.matches-in-Ok-Deny.ensures

pub returns-in-Ok-Default : goal.returns-in-Ok-Default
returns-in-Ok-Default c =
    let e : c.in-Ok-Default.field-0 ≡ Default = rw c.in-Ok-Default.is at c.in-Ok-Default.field-0-is in
    let told : path_answer_of c.args.a ≡ path.Default = rw (c.in-Ok-Default.is, e) in
    unexplained _ _ _ _ _ _ c.requires _ told c.new.ensures

pub returns-in-Err : goal.returns-in-Err
returns-in-Err c = refused_bare _ _ _ _ _ _ c.requires _ _ _ (ap path_answer_of c.in-Err.is) c.new-in-Err.ensures
