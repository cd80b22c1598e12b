-- What counting one answer does to the arrays of a report.
use Rattle.std.specs.Prelude.{ℕ, ◌+◌, ◌-◌, ◌≤◌, ◌<◌, ◌≡◌, List, [], get_or, set, replicate}
use Rattle.limits.specs.Limits.{max_rules}
use Rattle.verdict_request.specs.PathAnswer.{PathAnswer}
use Rattle.verdict_request.specs.PathAnswer.{Permit, Deny, Default, Refused}

-- one place raised
abbrev pub raised : List ℕ → ℕ → List ℕ
raised a k = set a k (get_or a k 0 + 1)

abbrev pub cell_of : List (List ℕ) → ℕ → ℕ → ℕ
cell_of g r c = get_or (get_or g r []) c 0

abbrev pub cell_raised : List (List ℕ) → ℕ → ℕ → List (List ℕ)
cell_raised g r c = set g r (raised (get_or g r []) c)

-- the place of the rule that decided, if one did
unfoldable pub raised_by : List ℕ → PathAnswer → List ℕ
raised_by a (Permit r) = raised a r.0
raised_by a (Deny r) = raised a r.0
raised_by a Default = a
raised_by a (Refused n l) = a

-- the column of an outcome: permit, denied by a rule, denied by default
unfoldable pub column_of : PathAnswer → ℕ
column_of (Permit r) = 0
column_of (Deny r) = 1
column_of Default = 2
column_of (Refused n l) = 2

-- the cell of a mode, 1 or 2, and an outcome
abbrev pub cell_raised_by : List (List ℕ) → ℕ → PathAnswer → List (List ℕ)
cell_raised_by g mode a = cell_raised g (mode - 1) (column_of a)

-- the rule that decided, if one did, has a place; and no answer of a loaded table is a refusal
unfoldable pub Placed : PathAnswer → Type 0
Placed (Permit r) = r.0 < max_rules
Placed (Deny r) = r.0 < max_rules
Placed Default = Unit {0}
Placed (Refused n l) = ⊥

-- no count is more than n
pub record UpTo (n : ℕ) (counts : List ℕ) (grid : List (List ℕ)) : Type 0 where
  pub rules : (i : ℕ) → get_or counts i 0 ≤ n
  pub cells : (r c : ℕ) → cell_of grid r c ≤ n

-- nothing is counted
pub record NoneIn (counts : List ℕ) (grid : List (List ℕ)) (lines : ℕ) : Type 0 where
  pub rules : counts ≡ replicate max_rules 0
  pub cells : grid ≡ replicate 2 (replicate 3 0)
  pub none : lines ≡ 0
