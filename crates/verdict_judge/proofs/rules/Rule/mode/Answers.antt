use mathlib.Core.Path.{refl}
use native.Mathlib.Omega.{arith}
use Rattle.table_rows.specs.Rules.{rule_in}
use Rattle.verdict_judge.proofs.Parts.{rule_room}
use Rattle.verdict_judge.proofs.rules.Rule.mode.Goals as goal

pub overflow_add-result : goal.overflow_add-result
overflow_add-result c = let own = c.args.self in let e = rule_room own.bytes.now own.at own.inside in let s = own.short in omega arith

pub bounds-self-self : goal.bounds-self-self
bounds-self-self c = let own = c.args.self in let e = rule_room own.bytes.now own.at own.inside in omega arith

pub returns : goal.returns
unfolding rule_in
returns c = refl
