use Rattle.refusal.specs.Refusal.{at_line}
use Rattle.verdict_call.proofs.Errors.{err_is}
use mathlib.Core.Path.{◌≡◌, sym, ap, ◌∙◌}
use lib.Seq.{length-take-le}
use Rattle.path.specs.Path.{Path}
use Rattle.path.specs.Refusal.{key_twice}
use Rattle.refusal.proofs.Numbers.{never_clear}
use Rattle.verdict.specs.Verdict.{tree}
use Rattle.verdict_judge.specs.Best.{held}
use Rattle.verdict_request.specs.Calls.{asked, request, spread}
use Rattle.verdict_call.proofs.Found.{verdict_is, spread_is}
use Rattle.verdict_call.proofs.Spelled.{refused_by, read_by, path_bytes_lem, spelled_is, tree_refused, tree_judged}
use Rattle.verdict_compare.specs.Place.{elements}
use Rattle.verdict_call.proofs.loaded.tree_answer.Goals as goal

pub returns-in_err-len : goal.returns-in_err-len
returns-in_err-len c =
    let h = err_is c.from_residual.result _ c.from_residual.ensures.1 in
    let i : h.0 ≡ at_line c.in_err-len.field-0.0 0 = h.2 in
    λ t holding groups.
    rw (h.1, i, refused_by c.args.asker c.args.text.now _ _ c.in_err-len.ensures) (tree_refused _ _ (never_clear c.in_err-len.field-0.0))

pub slice_bounds-bytes-end : goal.slice_bounds-bytes-end
slice_bounds-bytes-end c = (read_by c.args.asker c.args.text.now _ _ c.in_ok-len.ensures).1.fits

pub slice_bounds-read-end : goal.slice_bounds-read-end
slice_bounds-read-end c = sym (length-take-le _ _ (read_by c.args.asker c.args.text.now _ _ c.in_ok-len.ensures).1.fits)

pub read-asked-requires : goal.read-asked-requires
read-asked-requires c =
    let r = (read_by c.args.asker c.args.text.now _ _ c.in_ok-len.ensures).1 in (path_bytes_lem _ r.path r.read).0

pub returns : goal.returns
unfolding request
returns c =
    let R = c.args.rules in
    let a = c.args.asker in
    let k = read_by a c.args.text.now _ _ c.in_ok-len.ensures in
    let r = k.1 in
    let p = elements c.read-asked.result in
    let here = c.read-asked.ensures.path ∙ (path_bytes_lem _ r.path r.read).1 in
    let there = here ∙ sym (spelled_is c.args.text.now r.path r.reads) in
    let same = c.places.ensures in
    let opposes = rw (same.bytes, same.starts, same.count) at c.witness-opposing.ensures in
    λ t holding groups. c.spread_of.ensures
    ∙ ap spread
    (spread_is t R.bytes.now R.starts.now R.holders.now R.count holding a.user.now a.set groups a.mode a.origin.now p
    c.mark.new.on c.mark.ensures.marks _ (held c.witness-opposing.result) opposes (ap key_twice here ∙ r.once)
    (verdict_is t R.bytes.now R.starts.now R.holders.now R.count holding a.user.now a.set groups a.mode a.origin.now p
    c.mark.new.on c.mark.ensures.marks (held c.decide-found.result) _ c.decide-found.ensures.best c.is_permitted-v.ensures))
    ∙ ap (λ (p : Path). spread (tree t (asked a.user.now a.mode a.origin.now p))) there
    ∙ tree_judged _ _ k.0
