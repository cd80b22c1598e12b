-- `name_end` is where the first byte stands that is none of a name.
use native.Mathlib.Omega.{arith}
use mathlib.Core.Path.{sym, ◌∙◌}
use Prim.Native.Nat.{◌-◌}
use lib.ListN.{length, drop, length-drop}
use Rattle.std.proofs.lemmas.List.{take_all}
use Rattle.path.specs.Walk.{no_name}
use Rattle.path_read.proofs.Searching.{first_some, first_none}
use Rattle.path_read.proofs.reader.name_end.Goals as goal

pub returns-in-Some : goal.returns-in-Some
returns-in-Some c =
    let s = c.args.text.now in
    let w = take_all (length s - c.args.at) (drop c.args.at s) (omega (arith, length-drop c.args.at s)) in
    let h = rw w at (sym c.first_other.ensures ∙ c.in-Some.is) in
    omega (arith, first_some no_name (drop c.args.at s) c.in-Some.n h)

pub returns-in-None : goal.returns-in-None
returns-in-None c =
    let s = c.args.text.now in
    let w = take_all (length s - c.args.at) (drop c.args.at s) (omega (arith, length-drop c.args.at s)) in
    let h = rw w at (sym c.first_other.ensures ∙ c.in-None.is) in
    omega (arith, first_none no_name (drop c.args.at s) h, length-drop c.args.at s, c.requires)
