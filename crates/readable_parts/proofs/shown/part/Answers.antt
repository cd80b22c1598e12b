-- `part` does what the letter says.
use native.Mathlib.Omega.{arith}
use Rattle.std.proofs.Common.{rules}
use Rattle.readable_parts.specs.Parts.{shown, shown_path}
use Rattle.readable_parts.proofs.Showing.{is_string, is_time, is_path_lem, is_action, is_mode, is_subject, is_plain_lem, put_as, plain_puts}
use Rattle.readable_parts.proofs.shown.part.Goals as goal

pub string-requires : goal.string-requires
string-requires c =
    omega (arith, c.requires.0, (is_string shown _ c.in-83.is).1)

pub returns-in-83 : goal.returns-in-83
unfolding shown
returns-in-83 c =
    put_as shown _ (is_string shown _ c.in-83.is) c.string.ensures

pub time-requires : goal.time-requires
time-requires c =
    (omega (arith, c.requires.0, (is_time shown _ c.in-84.is).1), c.requires.1)

pub returns-in-84 : goal.returns-in-84
unfolding shown
returns-in-84 c =
    put_as shown _ (is_time shown _ c.in-84.is) c.time.ensures

pub path-requires : goal.path-requires
path-requires c =
    omega (arith, c.requires.0, (is_path_lem shown _ c.in-80.is).1)

pub returns-in-80 : goal.returns-in-80
unfolding shown shown_path
returns-in-80 c =
    put_as shown _ (is_path_lem shown _ c.in-80.is) c.path.ensures

pub code-requires : goal.code-requires
code-requires c =
    (omega (arith, c.requires.0, (is_action shown _ c.in-65.is).1), omega arith, omega arith, omega arith)

pub returns-in-65 : goal.returns-in-65
unfolding shown
returns-in-65 c =
    put_as shown _ (is_action shown _ c.in-65.is) c.code.ensures

pub code-requires-in-77 : goal.code-requires-in-77
code-requires-in-77 c =
    (omega (arith, c.requires.0, (is_mode shown _ c.in-77.is).1), omega arith, omega arith, omega arith)

pub returns-in-77 : goal.returns-in-77
unfolding shown
returns-in-77 c =
    put_as shown _ (is_mode shown _ c.in-77.is) c.code-in-77.ensures

pub code-requires-in-75 : goal.code-requires-in-75
code-requires-in-75 c =
    (omega (arith, c.requires.0, (is_subject shown _ c.in-75.is).1), omega arith, omega arith, omega arith)

pub returns-in-75 : goal.returns-in-75
unfolding shown
returns-in-75 c =
    put_as shown _ (is_subject shown _ c.in-75.is) c.code-in-75.ensures

pub bounds-out-to : goal.bounds-out-to
bounds-out-to c =
    omega (
      arith,
      c.requires.0,
      (is_plain_lem shown c.args.c (search rules) (search rules) (search rules)
          (search rules) (search rules) (search rules)).1,
    )

pub overflow_add-result : goal.overflow_add-result
overflow_add-result c =
    omega (
      arith,
      c.requires.0,
      (is_plain_lem shown c.args.c (search rules) (search rules) (search rules)
          (search rules) (search rules) (search rules)).1,
    )

pub returns-in_default : goal.returns-in_default
unfolding shown
returns-in_default c =
    let is = is_plain_lem shown c.args.c (search rules) (search rules) (search rules)
    (search rules) (search rules) (search rules) in
    put_as shown _ is (plain_puts _ _ _ _ _ (omega (arith, c.requires.0, is.1)) c.requires.1)
