use mathlib.Core.Path.{sym, ap, ◌∙◌}
use mathlib.Core.Bool.{Bool}
use lib.ListN.{get_or}
use Rattle.text.specs.String.{Str, same}
use Rattle.table.specs.Table.{Rule}
use Rattle.table.specs.declared.GroupNumber.{GroupNumber}
use Rattle.verdict_judge.specs.Place.{rule}
use Rattle.verdict_concern.specs.Concern.{concerns_by, applies_by}
use Rattle.verdict_concern.proofs.Concerns.{other_mode, other_origin, by_subject}
use Rattle.verdict_concern.proofs.asker.Asker.is_concerned.Goals.{then-mode-self-via-then-mode-self, then-mode-self-via-else-mode-self+then-not-is_same}
use Rattle.verdict_concern.proofs.asker.Asker.is_concerned.Goals as goal

pub returns-then-mode-self : goal.returns-then-mode-self
returns-then-mode-self c =
    let a = c.args.self in
    let g = get_or c.args.rules.holders.now c.args.number.0 0 in
    let by : Rule → Bool = λ r. applies_by a.set g a.user.now a.mode a.origin.now r in
    elim c.then-mode-self.branch [
      | then-mode-self-via-then-mode-self w ↦
          other_mode a.set g a.user.now _ _ a.origin.now (λ e. w.if-mode-self.true (c.mode.ensures ∙ e)) ∙ ap by c.rule-own.ensures
      | then-mode-self-via-else-mode-self+then-not-is_same w ↦
          other_origin a.set g a.user.now _ _ a.origin.now (sym c.mode.ensures ∙ w.if-mode-self.false)
          (sym (w.is_same.ensures ∙ ap (λ (s : Str). same s a.origin.now) w.origin.ensures) ∙ w.if-not-is_same.true)
          ∙ ap by c.rule-own.ensures
    ]

pub returns : goal.returns
returns c =
    let a = c.args.self in
    let g = get_or c.args.rules.holders.now c.args.number.0 0 in
    let by : Rule → Bool = λ r. applies_by a.set g a.user.now a.mode a.origin.now r in
    let own = rule c.rule-own.result in
    c.is_subject.ensures ∙ ap (λ (n : GroupNumber). concerns_by a.set n.0 a.user.now own) c.group_of.ensures
    ∙ by_subject a.set g a.user.now _ _ a.origin.now (sym c.mode.ensures ∙ c.if-mode-self.false)
    (sym (c.is_same.ensures ∙ ap (λ (s : Str). same s a.origin.now) c.origin.ensures) ∙ c.if-not-is_same.false)
    ∙ ap by c.rule-own.ensures
