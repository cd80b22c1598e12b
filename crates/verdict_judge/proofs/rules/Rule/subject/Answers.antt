use native.Mathlib.Omega.{arith}
use Prim.Native.Nat.{◌+◌}
use Rattle.table_place.proofs.Cursor.{str_grows}
use Rattle.verdict_judge.proofs.Parts.{rule_room, subject_in}
use Rattle.verdict_judge.proofs.rules.Rule.subject.Goals as goal

pub overflow_add-start : goal.overflow_add-start
overflow_add-start c = let own = c.args.self in let e = rule_room own.bytes.now own.at own.inside in let s = own.short in omega arith

pub overflow_add-self : goal.overflow_add-self
overflow_add-self c = let own = c.args.self in let e = rule_room own.bytes.now own.at own.inside in let s = own.short in omega arith

pub str_end-end-requires : goal.str_end-end-requires
str_end-end-requires c = let own = c.args.self in let e = rule_room own.bytes.now own.at own.inside in omega arith

pub slice_bounds-result-count : goal.slice_bounds-result-count
slice_bounds-result-count c =
    let own = c.args.self in
    let e = rule_room own.bytes.now own.at own.inside in
    let d = str_grows own.bytes.now (own.at + 3) in omega (arith, c.str_end-end.ensures)

pub slice_bounds-result-start : goal.slice_bounds-result-start
slice_bounds-result-start c =
    let own = c.args.self in
    let e = rule_room own.bytes.now own.at own.inside in
    let d = str_grows own.bytes.now (own.at + 3) in omega (arith, c.str_end-end.ensures)

pub slice_bounds-result-end : goal.slice_bounds-result-end
slice_bounds-result-end c =
    let own = c.args.self in
    let e = rule_room own.bytes.now own.at own.inside in
    let d = str_grows own.bytes.now (own.at + 3) in omega (arith, c.str_end-end.ensures)

pub returns : goal.returns
returns c = let own = c.args.self in subject_in own.bytes.now own.at _ c.str_end-end.ensures
