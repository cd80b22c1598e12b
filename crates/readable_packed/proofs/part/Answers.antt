-- `part` does what the letter says.
use native.Mathlib.Omega.{arith}
use Rattle.std.proofs.Common.{rules}
use Rattle.readable_parts.specs.Parts.{packed, packed_path}
use Rattle.readable_parts.specs.Steps.{stops}
use Rattle.readable_parts.proofs.Showing.{is_string, is_time, is_path_lem, is_action, is_mode, is_subject, is_plain_lem, put_as}
use Rattle.readable_packed.proofs.Packing.{plain_past, plain_other, plain_puts}
use Rattle.readable_packed.proofs.part.Goals as goal

pub string-requires : goal.string-requires
string-requires c =
    (omega (arith, c.requires.0, (is_string packed _ c.in-83.is).1), c.requires.1)

pub returns-in-83 : goal.returns-in-83
unfolding packed
returns-in-83 c =
    put_as packed _ (is_string packed _ c.in-83.is) c.string.ensures

pub time-requires : goal.time-requires
time-requires c =
    (omega (arith, c.requires.0, (is_time packed _ c.in-84.is).1), c.requires.1)

pub returns-in-84 : goal.returns-in-84
unfolding packed
returns-in-84 c =
    put_as packed _ (is_time packed _ c.in-84.is) c.time.ensures

pub path-requires : goal.path-requires
path-requires c =
    omega (arith, c.requires.0, (is_path_lem packed _ c.in-80.is).1)

pub returns-in-80 : goal.returns-in-80
unfolding packed packed_path
returns-in-80 c =
    put_as packed _ (is_path_lem packed _ c.in-80.is) c.path.ensures

pub code-requires : goal.code-requires
code-requires c =
    (omega (arith, c.requires.0, (is_action packed _ c.in-65.is).1), c.requires.1, omega arith)

pub returns-in-65 : goal.returns-in-65
unfolding packed
returns-in-65 c =
    put_as packed _ (is_action packed _ c.in-65.is) c.code.ensures

pub code-requires-in-77 : goal.code-requires-in-77
code-requires-in-77 c =
    (omega (arith, c.requires.0, (is_mode packed _ c.in-77.is).1), c.requires.1, omega arith)

pub returns-in-77 : goal.returns-in-77
unfolding packed
returns-in-77 c =
    put_as packed _ (is_mode packed _ c.in-77.is) c.code-in-77.ensures

pub code-requires-in-75 : goal.code-requires-in-75
code-requires-in-75 c =
    (omega (arith, c.requires.0, (is_subject packed _ c.in-75.is).1), c.requires.1, omega arith)

pub returns-in-75 : goal.returns-in-75
unfolding packed
returns-in-75 c =
    put_as packed _ (is_subject packed _ c.in-75.is) c.code-in-75.ensures

pub returns-then-s-at : goal.returns-then-s-at
unfolding packed
returns-then-s-at c =
    put_as packed _ (is_plain_lem packed c.args.c (search rules) (search rules)
    (search rules) (search rules) (search rules) (search rules)) (stops (plain_past _ _ _ c.if-s-at.true))

pub returns-then-s-at-2 : goal.returns-then-s-at-2
unfolding packed
returns-then-s-at-2 c =
    put_as packed _ (is_plain_lem packed c.args.c (search rules) (search rules)
    (search rules) (search rules) (search rules) (search rules))
    (stops (plain_other _ _ _ c.if-s-at.false c.if-s-at-2.true))

pub returns-else-s-at-2 : goal.returns-else-s-at-2
unfolding packed
returns-else-s-at-2 c =
    put_as packed _ (is_plain_lem packed c.args.c (search rules) (search rules)
    (search rules) (search rules) (search rules) (search rules))
    (plain_puts _ _ _ c.if-s-at.false c.if-s-at-2.false _ _)
