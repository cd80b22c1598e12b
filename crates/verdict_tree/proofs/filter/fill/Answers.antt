use native.Mathlib.Omega.{arith}
use mathlib.Core.Path.{◌≡◌, refl, ap, ◌∙◌}
use Prim.Native.Nat.{ℕ}
use lib.ListN.{get_or, length-set}
use borrow.Author.Count.{below_more}
use Rattle.path.specs.Path.{Path}
use Rattle.table.specs.Table.{Rule}
use Rattle.verdict_compare.specs.Place.{elements}
use Rattle.verdict_filter.specs.declared.Filter.{Filter}
use Rattle.verdict_filter.specs.Bloom.{none, beyond}
use Rattle.verdict_judge.specs.Placed.{nth}
use Rattle.verdict_judge.proofs.Storing.{stored_in}
use Rattle.verdict_tree.specs.Tree.{Fits}
use Rattle.verdict_tree.proofs.filter.fill.Goals.{then-weights-i-ge-MAX_RULES, else-weights-i-ge-MAX_RULES}
use Rattle.verdict_tree.proofs.filter.fill.Goals as goal

pub loop-i-init : goal.loop-i-init
loop-i-init c = (refl, λ i z. absurd (omega arith))

pub loop-i-preserved : goal.loop-i-preserved
loop-i-preserved c =
    let R = c.args.rules in
    let i = c.loop-i.i in
    let asked = elements c.args.asked in
    let Q : ℕ → Filter → Type 0 = λ j v. Fits (get_or c.args.weights.now j 0) → v ≡ beyond c.args.s 0 (nth R j).path asked in
    let room = c.loop-i.invariant.0 in
    elim c.if-weights-i-ge-MAX_RULES.branch [
      | then-weights-i-ge-MAX_RULES w ↦
          rw w.filters-is (
            length-set c.loop-i.filters i _ ∙ c.loop-i.invariant.0,
            stored_in none Q c.loop-i.filters i w.beyond.result (omega arith) c.loop-i.invariant.1
                (λ f. w.beyond.ensures ∙ ap (λ (p : Path). beyond c.args.s 0 p asked) (w.path.ensures.path ∙ ap (λ (r : Rule). r.path) w.rule.ensures)),
          )
      | else-weights-i-ge-MAX_RULES w ↦
          rw w.filters-is (
            c.loop-i.invariant.0,
            below_more (λ (j : ℕ). Q j (get_or c.loop-i.filters j none)) i c.loop-i.invariant.1
                (λ f. let z = w.if-weights-i-ge-MAX_RULES.false in absurd (omega arith)),
          )
    ]

pub returns-clause-filters : goal.returns-clause-filters
returns-clause-filters c = λ i l. c.loop-i.invariant.1 i (omega arith)
