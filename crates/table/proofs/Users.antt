-- A user as a table allows.
use mathlib.Core.Path.{◌≡◌, refl, sym, ◌∙◌}
use mathlib.Core.Bool.{Bool, true, false, not}
use lib.ListN.{length}
use Rattle.limits.specs.Limits.{max_string}
use Rattle.text.specs.Test.{◌or◌, all}
use Rattle.text.specs.Byte.{is_print}
use Rattle.text.specs.String.{Str}
use Rattle.table.specs.Group.{bad_user}
use Rattle.table.specs.Walk.{unsized_by}
use Rattle.table.proofs.Numbers.{long_is, stray_is}

module _ (user : Str) (a : Bool) (x : a ≡ unsized_by max_string (length user)) where
  pub user_unsized : a ≡ true → true ≡ bad_user user
  unfolding bad_user ◌or◌
  user_unsized h = rw (sym (long_is user (length user) refl) ∙ sym x ∙ h)

  pub user_sized : a ≡ false → (p : Bool) → p ≡ all is_print user → not p ≡ bad_user user
  unfolding bad_user ◌or◌
  user_sized h p y = rw (sym (long_is user (length user) refl) ∙ sym x ∙ h) (stray_is user p y)
