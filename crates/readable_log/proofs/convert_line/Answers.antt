-- `convert_line` converts a line by itself.
use native.Mathlib.Omega.{arith}
use mathlib.Core.Path.{sym, ◌∙◌}
use Prim.Native.Nat.{◌-◌}
use Rattle.readable_lines.specs.Lines.{line_by}
use Rattle.readable_lines.specs.declared.Source.TheVariants.{Log}
use Rattle.readable_log.proofs.Cutting.{cut_fails, cut_unread, cut_lays, cut_long, long_line, short_line}
use Rattle.readable_log.proofs.convert_line.Goals as goal

pub returns-then-is_overlong : goal.returns-then-is_overlong
returns-then-is_overlong c =
    cut_fails (line_by Log c.args.direction) _ _ _ c.line_end-end.ensures
    (long_line c.args.direction _ (sym c.is_overlong.ensures ∙ c.if-is_overlong.true) _ (cut_long (line_by Log c.args.direction) _ _ _ c.line_end-end.ensures))

pub convert_line-requires : goal.convert_line-requires
convert_line-requires c = (
  omega (arith, c.line_end-end.ensures.past, cut_long (line_by Log c.args.direction) _ _ _ c.line_end-end.ensures),
  λ p. omega (
    arith,
    short_line c.args.direction (c.line_end-end.result - c.args.from) (sym c.is_overlong.ensures ∙ c.if-is_overlong.false) p,
    cut_long (line_by Log c.args.direction) _ _ _ c.line_end-end.ensures,
  ),
  c.requires.1,
)

pub returns-in_err-line : goal.returns-in_err-line
returns-in_err-line c =
    rw c.from_residual.ensures (cut_unread (line_by Log c.args.direction) _ _ _ c.line_end-end.ensures c.convert_line.ensures c.in_err-line.was)

pub returns : goal.returns
returns c =
    cut_lays (line_by Log c.args.direction) _ _ _ c.line_end-end.ensures c.convert_line.ensures c.in_ok-line.was
