use Rattle.table_rows.specs.Rules.{rule_in}
use Rattle.verdict_judge.proofs.Parts.{rule_room}
use Rattle.verdict_judge.proofs.rules.Rule.path.Goals as goal

pub read-requires : goal.read-requires
read-requires c =
    let own = c.args.self in
    let e = rule_room own.bytes.now own.at own.inside in rw c.path_at.ensures e.4

pub returns-clause-path : goal.returns-clause-path
unfolding rule_in
returns-clause-path c = rw c.path_at.ensures at c.read.ensures.path
