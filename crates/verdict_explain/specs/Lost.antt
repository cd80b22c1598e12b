-- What it means that a rule lost at a step of the ranking.
use Rattle.std.specs.Prelude.{◌<◌, ◌≡◌, true, length}
use Rattle.text.specs.String.{before}
use Rattle.table.specs.Table.{Rule}
use Rattle.verdict.specs.Order.{definites, one_unless, better}
use Rattle.verdict_explain.specs.Standing.{standing, step_of}
use Rattle.verdict_explain.specs.declared.Step.{Step}
use Rattle.verdict_explain.specs.declared.Step.TheVariants as step

-- s lost to r at this step: up to it the two are level, and there r is ahead
unfoldable pub LostAt : Step → Rule → Rule → Type 0
LostAt step.Elements r s = length s.path < length r.path
LostAt step.Keys r s = (length r.path ≡ length s.path) × (definites s.path < definites r.path)
LostAt step.Subject r s =
    (length r.path ≡ length s.path) × (definites r.path ≡ definites s.path)
    × (one_unless s.by_group < one_unless r.by_group)
LostAt step.Action r s =
    (length r.path ≡ length s.path) × (definites r.path ≡ definites s.path) × (one_unless r.by_group ≡ one_unless s.by_group)
    × (one_unless s.permit < one_unless r.permit)
LostAt step.Id r s =
    (length r.path ≡ length s.path) × (definites r.path ≡ definites s.path) × (one_unless r.by_group ≡ one_unless s.by_group)
    × (one_unless r.permit ≡ one_unless s.permit) × (before r.id s.id ≡ true)

-- of a rule and one that the ranking prefers, `step_of` names the step at which the first lost
abbrev pub NamesTheStep : Type 0
NamesTheStep = (r s : Rule) → better r s ≡ true → LostAt (step_of (standing s) (standing r)) r s

-- and where a rule lost at any step, the ranking prefers the other
abbrev pub LosesByStep : Type 0
LosesByStep = (k : Step) (r s : Rule) → LostAt k r s → better r s ≡ true
