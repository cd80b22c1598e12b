use native.Mathlib.Omega.{arith}
use mathlib.Core.List.{append-nil, append_assoc}
use mathlib.Core.Path.{sym, ◌∙◌}
use Rattle.cli_answers.proofs.Grouping.{no_lines, listed_line, unlisted_line}
use Rattle.cli_answers.proofs.rows.add_groups.Goals as goal
use Rattle.cli_answers.proofs.rows.add_groups.Goals.{then-has, else-has}

pub loop-g-init : goal.loop-g-init
loop-g-init g c = record { added = rw (no_lines c.args.table.now c.args.set) (sym (append-nil c.args.text.now)); short = omega arith }

pub loop-g-preserved : goal.loop-g-preserved
loop-g-preserved g c =
    elim c.if-has.branch [
      | then-has w ↦
          record {
            added = rw (
              w.text-is,
              w.add_group.ensures.added,
              c.loop-g.invariant.added,
              listed_line c.args.table.now c.args.set c.loop-g.g (sym c.has.ensures ∙ w.if-has.true),
            ) (append_assoc c.args.text.now _ _);
            short = rw w.text-is (omega (arith, c.loop-g.invariant.short, w.add_group.ensures.short));
          }
      | else-has w ↦
          record {
            added = rw (w.text-is, unlisted_line c.args.table.now c.args.set c.loop-g.g (sym c.has.ensures ∙ w.if-has.false)) c.loop-g.invariant.added;
            short = rw w.text-is (omega (arith, c.loop-g.invariant.short));
          }
    ]
