use mathlib.Core.Path.{◌≡◌}
use Rattle.verdict_call.proofs.Errors.{err_is}
use Rattle.verdict_call.proofs.Spelled.{fetched, not_fetched}
use Rattle.verdict_call.proofs.loaded.fetch.Goals as goal

pub returns-in_err-check : goal.returns-in_err-check
returns-in_err-check c =
    let h = err_is c.from_residual.result _ c.from_residual.ensures.1 in
    let i : h.0 ≡ c.in_err-check.field-0.0 = h.2 in
    rw (h.1, i) (not_fetched c.args.asker c.args.text.now _ _ c.in_err-check.ensures)

pub returns : goal.returns
returns c = fetched c.args.asker c.args.text.now _ _ c.requires _ c.in_ok-check.ensures c.read_text.ensures.0 c.read_text.ensures.1
