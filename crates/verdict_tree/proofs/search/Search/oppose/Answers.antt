use native.Mathlib.Omega.{arith}
use mathlib.Core.Path.{◌≡◌, sym, ap, ◌∙◌}
use mathlib.Core.Bool.{Bool, xor}
use Rattle.table.specs.Table.{Rule}
use Rattle.verdict.specs.Order.{earlier}
use Rattle.verdict_compare.specs.Place.{elements}
use Rattle.verdict_judge.specs.Placed.{nth, of_rules}
use Rattle.verdict_judge.specs.Best.{numbered, held}
use Rattle.verdict_judge.proofs.Steps.{step_off, step_miss, step_keep, step_take}
use Rattle.verdict_tree.specs.Tree.{permits_both}
use Rattle.verdict_tree.proofs.Weights.{unfit, fit, same_actions, other_actions}
use Rattle.verdict_tree.proofs.Deciding.{decided_by_lem}
use Rattle.verdict_tree.proofs.search.Search.oppose.Goals as goal

pub returns-then-self-number-lt-MAX_RULES : goal.returns-then-self-number-lt-MAX_RULES
returns-then-self-number-lt-MAX_RULES c =
    let R = c.args.self.now.rules in
    let few = R.few in
    let l = c.requires.1 in
    λ test h. let also : Rule → Bool = λ r. xor (permits_both test (of_rules R) r.path (elements c.args.self.now.asked)) c.args.v in
    step_off earlier _ _ _ test also (unfit test (nth R c.args.i.0) c.args.i.0 _ (omega arith) (h _ l) c.if-self-number-lt-MAX_RULES.true)

pub returns-then-not-comes_first : goal.returns-then-not-comes_first
returns-then-not-comes_first c =
    let R = c.args.self.now.rules in
    λ test h. let also : Rule → Bool = λ r. xor (permits_both test (of_rules R) r.path (elements c.args.self.now.asked)) c.args.v in
    step_keep earlier _ _ _ test also (sym (rw c.rule-own.ensures at c.comes_first.ensures) ∙ c.if-not-comes_first.true)

pub returns-then-is_permit-v : goal.returns-then-is_permit-v
returns-then-is_permit-v c =
    let s = c.args.self.now in
    let R = s.rules in
    let p = elements s.asked in
    let v = c.args.v in
    λ test h. let also : Rule → Bool = λ r. xor (permits_both test (of_rules R) r.path p) v in
    step_miss earlier _ _ _ test also
    (ap (λ (y : Bool). xor y v) (decided_by_lem R s.weights.now test h p c.args.i.0 _ c.requires.1 c.decide_joined.ensures
    ∙ sym (c.is_permit.ensures ∙ ap (λ (r : Rule). r.permit) c.rule-decider.ensures)) ∙ same_actions _ v c.if-is_permit-v.true)

pub returns : goal.returns
unfolding held numbered
returns c =
    let s = c.args.self.now in
    let R = s.rules in
    let p = elements s.asked in
    let v = c.args.v in
    let few = R.few in
    let l = c.requires.1 in
    λ test h. let also : Rule → Bool = λ r. xor (permits_both test (of_rules R) r.path p) v in
    rw c.rule-own.ensures (step_take earlier (held c.args.so_far) c.args.i.0 (nth R c.args.i.0) test also
    (fit test (nth R c.args.i.0) c.args.i.0 _ (omega arith) (h _ l) (omega (arith, c.if-self-number-lt-MAX_RULES.false)))
    (ap (λ (y : Bool). xor y v) (decided_by_lem R s.weights.now test h p c.args.i.0 _ l c.decide_joined.ensures
    ∙ sym (c.is_permit.ensures ∙ ap (λ (r : Rule). r.permit) c.rule-decider.ensures)) ∙ other_actions _ v c.if-is_permit-v.false)
    (sym (rw c.rule-own.ensures at c.comes_first.ensures) ∙ c.if-not-comes_first.false))
