use native.Mathlib.Omega.{arith}
use Rattle.table_place.proofs.Cursor.{keys_nil, keys_room, keys_again}
use Rattle.verdict_compare.specs.Place.{keys}
use Rattle.verdict_compare.proofs.Steps.{goes_on, keys_split}
use Rattle.verdict_compare.proofs.walk.KeysIterator.next.Goals as goal

pub returns-then-count-eq0-clause-steps : goal.returns-then-count-eq0-clause-steps
returns-then-count-eq0-clause-steps c =
    let s = c.args.self.now in
    let e = keys_nil s.bytes.now s.count s.at (omega (arith, c.if-count-eq0.true)) in (e, e)

pub key_end-requires : goal.key_end-requires
key_end-requires c =
    let s = c.args.self.now in (keys_room s.bytes.now s.count s.at (omega (arith, c.if-count-eq0.false)) s.inside).1

pub invariant_of-self : goal.invariant_of-self
invariant_of-self c =
    let s = c.args.self.now in
    record { inside = keys_again s.bytes.now s.count s.at _ (omega (arith, c.if-count-eq0.false)) s.inside c.key_end.ensures }

pub invariant_of-result : goal.invariant_of-result
invariant_of-result c =
    let s = c.args.self.now in
    record { inside = (keys_room s.bytes.now s.count s.at (omega (arith, c.if-count-eq0.false)) s.inside).1 }

pub returns-clause-steps : goal.returns-clause-steps
returns-clause-steps c = keys_split c.args.self.now _ (omega (arith, c.if-count-eq0.false)) c.key_end.ensures

pub returns-clause-goes : goal.returns-clause-goes
returns-clause-goes c = goes_on _ keys _ _ _ _ (keys_split c.args.self.now _ (omega (arith, c.if-count-eq0.false)) c.key_end.ensures) tt
