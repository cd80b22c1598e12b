use native.Mathlib.Omega.{arith}
use Rattle.table_rows.specs.Rules.{path_at, origin_at}
use Rattle.table_place.proofs.Cursor.{str_grows}
use Rattle.verdict_judge.proofs.Parts.{rule_room, origin_in}
use Rattle.verdict_judge.proofs.rules.Rule.origin.Goals as goal

pub overflow_add-start : goal.overflow_add-start
unfolding path_at
overflow_add-start c =
    let own = c.args.self in
    let e = rule_room own.bytes.now own.at own.inside in
    let d = str_grows own.bytes.now (origin_at own.bytes.now own.at) in
    let s = own.short in omega (arith, c.origin_at-o.ensures)

pub str_end-end-requires : goal.str_end-end-requires
unfolding path_at
str_end-end-requires c =
    let own = c.args.self in
    let e = rule_room own.bytes.now own.at own.inside in rw c.origin_at-o.ensures (omega arith)

pub slice_bounds-result-count : goal.slice_bounds-result-count
slice_bounds-result-count c = omega (arith, str_grows c.args.self.bytes.now c.origin_at-o.result, c.str_end-end.ensures)

pub slice_bounds-result-start : goal.slice_bounds-result-start
slice_bounds-result-start c = omega (arith, str_grows c.args.self.bytes.now c.origin_at-o.result, c.str_end-end.ensures)

pub slice_bounds-result-end : goal.slice_bounds-result-end
unfolding path_at
slice_bounds-result-end c =
    let own = c.args.self in
    let e = rule_room own.bytes.now own.at own.inside in rw (c.str_end-end.ensures, c.origin_at-o.ensures) (omega arith)

pub returns : goal.returns
returns c = let own = c.args.self in origin_in own.bytes.now own.at _ _ c.origin_at-o.ensures c.str_end-end.ensures
