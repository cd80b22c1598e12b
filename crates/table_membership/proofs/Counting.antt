-- The count, by what is found of the user and the set.
use mathlib.Core.Path.{◌≡◌, sym, ◌∙◌}
use mathlib.Core.Bool.{Bool, true, false}
use Prim.Native.Nat.{ℕ}
use borrow.Author.Tests.{eq-eqb, ne_eqb}
use lib.Count.{ones, count_trailing_zeros}
use Rattle.limits.specs.Limits.{max_groups}
use Rattle.text.specs.Test.{whether◌then◌else◌}
use Rattle.text.specs.String.{Str}
use Rattle.table.specs.Group.{bad_user}
use Rattle.table.specs.Counted.{Count, NoGroup, Declined}
use Rattle.table_membership.specs.Set.{count_in}

module _ (user : Str) (set : ℕ) (bad : Bool) (x : bad ≡ bad_user user) where
  pub count_bad : bad ≡ true → Declined 20 0 ≡ count_in user set
  unfolding count_in whether◌then◌else◌
  count_bad h = rw (sym x ∙ h)

  pub count_none : bad ≡ false → ones set ≡ 0 → NoGroup ≡ count_in user set
  unfolding count_in whether◌then◌else◌
  count_none h e = rw (sym x ∙ h, eq-eqb (ones set) 0 e)

  pub count_some : bad ≡ false → (ones set ≡ 0 → ⊥) → Count (ones set) (record { 0 = count_trailing_zeros max_groups set }) ≡ count_in user set
  unfolding count_in whether◌then◌else◌
  count_some h e = rw (sym x ∙ h, ne_eqb (ones set) 0 e)
