use native.Mathlib.Omega.{arith}
use Rattle.table_rows.specs.Rules.{id_at}
use Rattle.verdict_judge.proofs.Parts.{rule_room}
use Rattle.verdict_judge.proofs.rules.Rule.id_at.Goals as goal

pub overflow_add-self : goal.overflow_add-self
overflow_add-self c = let own = c.args.self in let e = rule_room own.bytes.now own.at own.inside in let s = own.short in omega arith

pub str_end-requires : goal.str_end-requires
str_end-requires c = let own = c.args.self in let e = rule_room own.bytes.now own.at own.inside in omega arith

pub returns : goal.returns
unfolding id_at
returns c = c.str_end.ensures
