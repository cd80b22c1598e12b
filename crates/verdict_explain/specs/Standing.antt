-- What the ranking looks at in a rule, and the step of the ranking at which one of two rules loses.
use Rattle.std.specs.Prelude.{ℕ, eqb, length}
use Rattle.text.specs.Test.{whether◌then◌else◌}
use Rattle.table.specs.Table.{Rule}
use Rattle.verdict.specs.Order.{definites, one_unless}
use Rattle.verdict_explain.specs.declared.Standing.{Standing}
use Rattle.verdict_explain.specs.declared.Step.{Step}
use Rattle.verdict_explain.specs.declared.Step.TheVariants as step

-- what the ranking looks at, apart from the id
unfoldable pub standing : Rule → Standing
standing r = record { elements = length r.path; keys = definites r.path; group = r.by_group; permit = r.permit }

-- this step decides where its two numbers differ, and else the next
unfoldable pub decides : ℕ → ℕ → Step → Step → Step
decides a b here next = whether eqb a b then next else here

-- "more elements; then more definite keys ..; then user over group; then deny over permit ..; then .. the smaller id"
unfoldable pub step_of : Standing → Standing → Step
step_of a b =
    decides a.elements b.elements step.Elements
    (decides a.keys b.keys step.Keys
    (decides (one_unless a.group) (one_unless b.group) step.Subject
    (decides (one_unless a.permit) (one_unless b.permit) step.Action
    step.Id)))
