use mathlib.Core.Path.{refl}
use native.Mathlib.Omega.{arith}
use Rattle.table_rows.specs.Rules.{rule_in}
use Rattle.verdict_judge.proofs.Parts.{rule_room}
use Rattle.verdict_judge.proofs.rules.Rule.is_permit.Goals as goal

pub bounds-self-self : goal.bounds-self-self
bounds-self-self c = let own = c.args.self in let e = rule_room own.bytes.now own.at own.inside in omega arith

pub returns : goal.returns
unfolding rule_in
returns c = refl
