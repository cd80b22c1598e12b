use mathlib.Core.Path.{sym, ◌∙◌}
use Rattle.verdict_request.proofs.Asked.{number_user, number_mode, number_origin, number_none}
use Rattle.verdict_request.proofs.request.check.Goals.{then-is_bad_user-via-then-is_bad_user, then-is_bad_user-via-else-is_bad_user+then-is_bad_mode}
use Rattle.verdict_request.proofs.request.check.Goals as goal

pub returns-then-is_bad_user : goal.returns-then-is_bad_user
returns-then-is_bad_user c =
    elim c.then-is_bad_user.branch [
      | then-is_bad_user-via-then-is_bad_user w ↦ number_user _ _ _ (sym c.is_bad_user.ensures ∙ w.if-is_bad_user.true)
      | then-is_bad_user-via-else-is_bad_user+then-is_bad_mode w ↦
          number_mode _ _ _ (sym c.is_bad_user.ensures ∙ w.if-is_bad_user.false) (sym w.is_bad_mode.ensures ∙ w.if-is_bad_mode.true)
    ]

pub returns-then-is_bad_origin : goal.returns-then-is_bad_origin
returns-then-is_bad_origin c =
    number_origin _ _ _ (sym c.is_bad_user.ensures ∙ c.if-is_bad_user.false)
    (sym c.is_bad_mode.ensures ∙ c.if-is_bad_mode.false) (sym c.is_bad_origin.ensures ∙ c.if-is_bad_origin.true)

pub returns : goal.returns
returns c =
    number_none _ _ _ (sym c.is_bad_user.ensures ∙ c.if-is_bad_user.false)
    (sym c.is_bad_mode.ensures ∙ c.if-is_bad_mode.false) (sym c.is_bad_origin.ensures ∙ c.if-is_bad_origin.false)
