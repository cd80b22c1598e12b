-- The tests on a rule, one by one.
use Rattle.std.proofs.Common.{◌≡◌, ℕ, Bool, true, false, sym, ◌∙◌, ap, eq-eqb}
use borrow.Author.Tests.{ne_eqb}
use Rattle.text.specs.Test.{◌and◌, whether◌then◌else◌}
use Rattle.text.specs.String.{Str, same}
use Rattle.table.specs.Table.{Rule}
use Rattle.table_membership.specs.Set.{has_of}
use Rattle.verdict_concern.specs.Concern.{concerns_by, applies_by}

module _ (set g : ℕ) (user : Str) (r : Rule) where
  pub concerns_group : r.by_group ≡ true → has_of set g ≡ concerns_by set g user r
  unfolding concerns_by whether◌then◌else◌
  concerns_group e = rw e

  pub concerns_user : r.by_group ≡ false → same r.subject user ≡ concerns_by set g user r
  unfolding concerns_by whether◌then◌else◌
  concerns_user e = rw e

  module _ (mode : ℕ) (origin : Str) where
    pub other_mode : (r.mode ≡ mode → ⊥) → false ≡ applies_by set g user mode origin r
    unfolding applies_by ◌and◌
    other_mode n = rw (ne_eqb _ _ n)

    pub other_origin : r.mode ≡ mode → same r.origin origin ≡ false → false ≡ applies_by set g user mode origin r
    unfolding applies_by ◌and◌
    other_origin m e = rw (eq-eqb _ _ m, e)

    pub by_subject : r.mode ≡ mode → same r.origin origin ≡ true → concerns_by set g user r ≡ applies_by set g user mode origin r
    unfolding applies_by ◌and◌
    by_subject m e = rw (eq-eqb _ _ m, e)
