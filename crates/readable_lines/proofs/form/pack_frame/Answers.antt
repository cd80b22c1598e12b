-- `pack_frame` answers what the definition says.
use native.Mathlib.Omega.{arith}
use mathlib.Core.Path.{sym, ◌∙◌}
use borrow.Author.Tests.{not-true, not-false}
use Rattle.readable_lines.specs.Steps.{nothing}
use Rattle.readable_lines.proofs.Converting.{line_strange, line_empty, line_unread, line_kindless, line_longer, line_fills, kind_is, kind_is_none}
use Rattle.readable_lines.proofs.form.pack_frame.Goals as goal

pub returns-then-not-all_print : goal.returns-then-not-all_print
returns-then-not-all_print c =
    rw (line_strange c.args.s.now (sym c.all_print.ensures ∙ not-true _ c.if-not-all_print.true-raw)) nothing

pub returns-then-s-eq0 : goal.returns-then-s-eq0
returns-then-s-eq0 c =
    rw (line_empty c.args.s.now (omega (arith, c.if-s-eq0.true))) nothing

pub returns-in_err-next : goal.returns-in_err-next
returns-in_err-next c =
    rw (
      c.from_residual-in_err-next.ensures,
      line_unread c.args.s.now (sym c.all_print.ensures ∙ not-false _
          c.if-not-all_print.false-raw) _ (kind_is c.in_ok-kind.was c.kind_by.ensures) _ _ _ c.by_kind.ensures c.in_err-next.was,
    ) nothing

pub returns-then-next-s : goal.returns-then-next-s
returns-then-next-s c =
    rw (line_longer c.args.s.now (sym c.all_print.ensures ∙ not-false _
    c.if-not-all_print.false-raw) _ (kind_is c.in_ok-kind.was c.kind_by.ensures) _ _ _ c.by_kind.ensures
    c.in_ok-next.was c.if-next-s.true) nothing

pub returns : goal.returns
returns c =
    line_fills c.args.s.now (sym c.all_print.ensures ∙ not-false _ c.if-not-all_print.false-raw) _
    (kind_is c.in_ok-kind.was c.kind_by.ensures) _ _ _ c.by_kind.ensures c.in_ok-next.was c.requires c.if-next-s.false

pub returns-in_err-kind : goal.returns-in_err-kind
returns-in_err-kind c =
    rw (c.from_residual.ensures, line_kindless c.args.s.now (kind_is_none c.in_err-kind.was c.kind_by.ensures)) nothing
