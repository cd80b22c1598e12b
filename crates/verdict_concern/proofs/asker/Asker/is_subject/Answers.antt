use mathlib.Core.Path.{sym, ap, ◌∙◌}
use Rattle.text.specs.String.{Str, same}
use Rattle.verdict_concern.proofs.Concerns.{concerns_group, concerns_user}
use Rattle.verdict_concern.proofs.asker.Asker.is_subject.Goals as goal

pub returns-then-is_by_group : goal.returns-then-is_by_group
returns-then-is_by_group c = c.has.ensures ∙ concerns_group _ _ _ _ (sym c.is_by_group.ensures ∙ c.if-is_by_group.true)

pub returns : goal.returns
returns c =
    c.is_same.ensures ∙ ap (λ (s : Str). same s c.args.self.user.now) c.subject.ensures
    ∙ concerns_user _ _ _ _ (sym c.is_by_group.ensures ∙ c.if-is_by_group.false)
