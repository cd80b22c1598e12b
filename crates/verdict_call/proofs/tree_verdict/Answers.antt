use Rattle.verdict_call.proofs.Errors.{err_is}
use mathlib.Core.Path.{◌≡◌, sym, ap, ◌∙◌}
use Rattle.table.specs.Text.{table_of}
use Rattle.table_check.proofs.Calls.{outcome_kept, outcome_refused, count_requires, grouped}
use Rattle.verdict_call.proofs.Holding.{safe, holding, of_table, tree_refused_is, tree_kept}
use Rattle.verdict_call.proofs.tree_verdict.Goals as goal

pub returns-in_err-load : goal.returns-in_err-load
returns-in_err-load c =
    let h = err_is c.from_residual.result _ c.from_residual.ensures.1 in
    let i : h.0 ≡ c.in_err-load.field-0.0 = h.2 in
    rw (h.1, i) (tree_refused_is c.args.table.now c.args.user.now c.args.mode c.args.origin.now c.args.path.now c.in_err-load.field-0.0
    (sym (outcome_refused _ _ _ c.load.ensures _ c.in_err-load.was)))

pub memberships-set-requires : goal.memberships-set-requires
memberships-set-requires c = rw c.bytes.ensures (count_requires (outcome_kept _ _ _ c.load.ensures c.in_ok-load.was))

pub rules_of-requires : goal.rules_of-requires
rules_of-requires c = safe (outcome_kept _ _ _ c.load.ensures c.in_ok-load.was)

pub returns : goal.returns
returns c =
    let K = outcome_kept _ _ _ c.load.ensures c.in_ok-load.was in
    of_table c.load.new.table c.rules_of.result c.rules_of.ensures c.args.user.now c.memberships-set.result _ c.tree_answer.ensures
    (table_of c.args.table.now) (holding K) (rw (c.memberships-set.ensures, c.bytes.ensures) (grouped K c.args.user.now))
    ∙ tree_kept c.args.table.now c.args.user.now c.args.mode c.args.origin.now c.args.path.now K.accepts
