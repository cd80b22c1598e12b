use mathlib.Core.Path.{sym}
use native.Mathlib.Omega.{arith}
use Rattle.table_rows.specs.Rules.{path_at}
use Rattle.verdict_judge.proofs.Parts.{rule_room}
use Rattle.verdict_judge.proofs.rules.Rule.path_at.Goals as goal

pub str_end-requires : goal.str_end-requires
unfolding path_at
str_end-requires c =
    let own = c.args.self in
    let e = rule_room own.bytes.now own.at own.inside in rw c.origin_at.ensures (omega arith)

pub returns : goal.returns
unfolding path_at
returns c = rw (sym c.origin_at.ensures) c.str_end.ensures
