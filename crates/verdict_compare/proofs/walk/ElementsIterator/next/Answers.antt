use Rattle.verdict_compare.specs.Place.{elements}
use Rattle.verdict_compare.proofs.Steps.{goes_on, ended, starts, split}
use Rattle.verdict_compare.proofs.walk.ElementsIterator.next.Goals as goal

pub returns-in_default-clause-steps : goal.returns-in_default-clause-steps
returns-in_default-clause-steps c = let e = ended c.args.self.now c.in_default.ensures in (e, e)

pub rest-requires : goal.rest-requires
rest-requires c = starts c.args.self.now _ c.in-Some.ensures

pub returns-clause-steps : goal.returns-clause-steps
returns-clause-steps c = split c.args.self.now _ c.in-Some.ensures _ c.rest.ensures

pub returns-clause-goes : goal.returns-clause-goes
returns-clause-goes c = goes_on _ elements _ _ _ _ (split c.args.self.now _ c.in-Some.ensures _ c.rest.ensures) tt
