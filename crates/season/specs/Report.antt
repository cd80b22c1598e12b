-- The season report over a table and a log's requests: the counts, and their text.
use Rattle.std.specs.Prelude.{ℕ, zero, suc, Bool, true, false, List, [], ◌∷◌, ◌++◌, eqb, length}
use Rattle.limits.specs.Limits.{max_rules}
use Rattle.text.specs.Test.{◌and◌, only}
use Rattle.text.specs.String.{Str, bytes, joined}
use Rattle.text_make.specs.Decimal.{decimal}
use Rattle.table.specs.Table.{Table}
use Rattle.verdict.specs.Verdict.{Request, decider}
use Rattle.verdict_request.specs.Calls.{decided_by}
use Rattle.verdict_request.specs.PathAnswer.{PathAnswer}
use Rattle.verdict_request.specs.PathAnswer.{Permit, Deny, Default, Refused}

-- ---- the single-path verdicts

-- the answer that the table gives to a request of the log
unfoldable pub answer_to : Table → Request → PathAnswer
answer_to t q = decided_by (decider t q)

-- the rule decided
unfoldable pub decides : ℕ → PathAnswer → Bool
decides rule (Permit r) = eqb r.0 rule
decides rule (Deny r) = eqb r.0 rule
decides rule Default = false
decides rule (Refused n l) = false

-- "permit, denied by a rule, and denied by default"
unfoldable pub permitted : PathAnswer → Bool
permitted (Permit r) = true
permitted (Deny r) = false
permitted Default = false
permitted (Refused n l) = false

unfoldable pub denied_by_rule : PathAnswer → Bool
denied_by_rule (Permit r) = false
denied_by_rule (Deny r) = true
denied_by_rule Default = false
denied_by_rule (Refused n l) = false

unfoldable pub denied_by_default : PathAnswer → Bool
denied_by_default (Permit r) = false
denied_by_default (Deny r) = false
denied_by_default Default = true
denied_by_default (Refused n l) = false

-- ---- the counts

-- how many pass
unfoldable pub count : {A : Type 0} → (A → Bool) → List A → ℕ
count f xs = length (only f xs)

-- what f gives for n numbers, from i on
unfoldable pub for_each : (ℕ → ℕ) → ℕ → ℕ → List ℕ
for_each f zero i = []
for_each f (suc n) i = f i ∷ for_each f n (suc i)

module _ (t : Table) (qs : List Request) where
  -- "how often it decided"
  unfoldable pub rule_count : ℕ → ℕ
  rule_count rule = count (λ (q : Request). decides rule (answer_to t q)) qs

  -- "for each of the 256 rules"
  unfoldable pub rule_counts : List ℕ
  rule_counts = for_each rule_count max_rules 0

  -- how many requests have that mode and that outcome
  unfoldable pub cell : ℕ → (PathAnswer → Bool) → ℕ
  cell mode outcome = count (λ (q : Request). eqb q.mode mode and outcome (answer_to t q)) qs

  unfoldable pub row : ℕ → List ℕ
  row mode = cell mode permitted ∷ cell mode denied_by_rule ∷ cell mode denied_by_default ∷ []

  -- "a grid of read and write against permit, denied by a rule, and denied by default"
  unfoldable pub grid : List (List ℕ)
  grid = row 1 ∷ row 2 ∷ []

  -- ---- the report

  -- "rules 0 to 255, then read permit, read denied by rule, read default, then the same for write"
  unfoldable pub figures : List ℕ
  figures = rule_counts ++ (row 1 ++ row 2)

-- "decimal lines without leading zeros"
unfoldable pub figure_line : ℕ → Str
figure_line n = decimal n ++ bytes "\n"

-- "The report is 262 decimal lines"
unfoldable pub report : Table → List Request → Str
report t qs = joined figure_line (figures t qs)
