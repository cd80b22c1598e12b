use mathlib.Core.Path.{refl, ◌∙◌}
use Rattle.verdict_compare.specs.Place.{element, elements}
use Rattle.verdict_judge.specs.Best.{kept}
use Rattle.rule_index.specs.Clue.{values}
use Rattle.rule_index.proofs.Finding.{elems_on, elems_done}
use Rattle.rule_index.proofs.lookup.Lookup.probe_elements.Goals as goal

pub loop-e-init : goal.loop-e-init
loop-e-init c = rw c.into_iter-e-iterator.ensures.into_iter_gives (c.requires.1, (λ rest h. h), refl)

pub probe_keys-so_far-requires : goal.probe_keys-so_far-requires
probe_keys-so_far-requires c = (c.requires.0, c.loop-e.invariant.0, c.loop-e.invariant.2 ∙ c.requires.2)

pub loop-e-preserved : goal.loop-e-preserved
loop-e-preserved c =
    let s = c.args.self.now in
    let R = s.rules in
    let a = s.asker in (
      c.probe_keys-so_far.ensures.probed_all.probing,
      elems_on R.bytes.now R.starts.now R.holders.now R.count a.set a.user.now a.mode a.origin.now (elements s.asked) s.seed s.keys.now
          (values (elements c.args.path)) (kept c.args.best) (kept c.loop-e.so_far) _ _ (element c.in-Some.e) (elements c.next.new.self)
          (rw c.keys.ensures at c.probe_keys-so_far.ensures.probed_all) (rw c.in-Some.ensures.steps at c.loop-e.invariant.1),
      c.probe_keys-so_far.ensures.seen_len_unchanged ∙ c.loop-e.invariant.2,
    )

pub returns-clause-probed_all : goal.returns-clause-probed_all
returns-clause-probed_all c =
    let s = c.args.self.now in
    let R = s.rules in
    let a = s.asker in
    elems_done R.bytes.now R.starts.now R.holders.now R.count a.set a.user.now a.mode a.origin.now (elements s.asked) s.seed s.keys.now
    (values (elements c.args.path)) (kept c.args.best) (kept c.loop-e.so_far) _ c.loop-e.invariant.0
    (rw c.in-None.ensures.steps.0 at c.loop-e.invariant.1)
