use Rattle.std.proofs.Common.{◌+◌, ◌-◌, ap, rules, tests, arith, length, take, drop, length-drop}
use Rattle.std.proofs.lemmas.Iterator.{YieldsList-from_slice}
use Rattle.std.proofs.lemmas.Iterator.Search.{position_from_yields_List}
use Rattle.std.proofs.lemmas.Slice.{between_to_end}
use Rattle.text_search.specs.Search.{is}
use Rattle.text_search.proofs.Searching.{position_some, position_none}
use Rattle.text_search.proofs.find.Goals as goal

pub returns-in-Some : goal.returns-in-Some
returns-in-Some c =
    let e = between_to_end c.args.text.now c.args.at (length c.args.text.now) (omega arith) in
    let told = rw e at (position_from_yields_List (is c.args.b) _ _ c.position.result c.position.ensures.ran (YieldsList-from_slice (take (length c.args.text.now - c.args.at) (drop c.args.at c.args.text.now)) cc) (λ x b q k. search (rules, tests))) in
    ap (λ n. c.args.at + n) (position_some (is c.args.b) _ _ told _ c.in-Some.is)

pub returns-in-None : goal.returns-in-None
returns-in-None c =
    let e = between_to_end c.args.text.now c.args.at (length c.args.text.now) (omega arith) in
    let told = rw e at (position_from_yields_List (is c.args.b) _ _ c.position.result c.position.ensures.ran (YieldsList-from_slice (take (length c.args.text.now - c.args.at) (drop c.args.at c.args.text.now)) cc) (λ x b q k. search (rules, tests))) in
    let all = position_none (is c.args.b) (drop c.args.at c.args.text.now) c.position.result told c.in-None.is in
    omega (arith, all, length-drop c.args.at c.args.text.now)
