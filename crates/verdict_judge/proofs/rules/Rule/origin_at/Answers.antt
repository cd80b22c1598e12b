use mathlib.Core.Path.{sym}
use native.Mathlib.Omega.{arith}
use Rattle.table_rows.specs.Rules.{origin_at}
use Rattle.verdict_judge.proofs.Parts.{rule_room}
use Rattle.verdict_judge.proofs.rules.Rule.origin_at.Goals as goal

pub str_end-requires : goal.str_end-requires
str_end-requires c =
    let own = c.args.self in let e = rule_room own.bytes.now own.at own.inside in rw c.id_at.ensures (omega arith)

pub returns : goal.returns
unfolding origin_at
returns c = rw (sym c.id_at.ensures) c.str_end.ensures
