use native.Mathlib.Omega.{arith}
use Rattle.verdict_judge.proofs.Parts.{rule_room, id_room, id_in}
use Rattle.verdict_judge.proofs.rules.Rule.id.Goals as goal

pub overflow_add-start : goal.overflow_add-start
overflow_add-start c =
    let own = c.args.self in let d = id_room own.bytes.now own.at _ own.inside c.id_at-i.ensures in let s = own.short in omega arith

pub str_end-end-requires : goal.str_end-end-requires
str_end-end-requires c =
    let own = c.args.self in let e = rule_room own.bytes.now own.at own.inside in rw c.id_at-i.ensures (omega arith)

pub slice_bounds-result-count : goal.slice_bounds-result-count
slice_bounds-result-count c =
    let own = c.args.self in
    let d = id_room own.bytes.now own.at _ own.inside c.id_at-i.ensures in omega (arith, c.str_end-end.ensures)

pub slice_bounds-result-start : goal.slice_bounds-result-start
slice_bounds-result-start c =
    let own = c.args.self in
    let d = id_room own.bytes.now own.at _ own.inside c.id_at-i.ensures in omega (arith, c.str_end-end.ensures)

pub slice_bounds-result-end : goal.slice_bounds-result-end
slice_bounds-result-end c =
    let own = c.args.self in
    let d = id_room own.bytes.now own.at _ own.inside c.id_at-i.ensures in omega (arith, c.str_end-end.ensures)

pub returns : goal.returns
returns c = let own = c.args.self in id_in own.bytes.now own.at _ _ c.id_at-i.ensures c.str_end-end.ensures
