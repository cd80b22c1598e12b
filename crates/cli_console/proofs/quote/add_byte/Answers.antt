-- `add_byte` is the definition.
use native.Mathlib.Omega.{arith}
use mathlib.Core.List.{append_assoc}
use mathlib.Core.Path.{sym, ◌∙◌}
use Rattle.cli_console.proofs.Quoting.{hex_two, hex_put, plain_shown, hex_shown}
use Rattle.cli_console.proofs.quote.add_byte.Goals as goal

pub write_hex-requires : goal.write_hex-requires
write_hex-requires c = omega (arith, hex_two c.args.b)

pub returns-then-is_print-clause-added : goal.returns-then-is_print-clause-added
returns-then-is_print-clause-added c = rw (plain_shown c.args.b (sym c.is_print.ensures ∙ c.if-is_print.true)) c.push.ensures

pub returns-else-is_print-clause-added : goal.returns-else-is_print-clause-added
returns-else-is_print-clause-added c =
    rw (hex_shown c.args.b (sym c.is_print.ensures ∙ c.if-is_print.false))
    (simp (append_assoc, c.push_str.ensures, c.push_str-else-is_print.ensures, c.write_hex.ensures.same, hex_put c.args.b))
