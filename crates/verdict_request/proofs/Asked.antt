-- The tests on a request, one by one.
use mathlib.Core.Path.{◌≡◌, ap}
use mathlib.Core.Bool.{Bool, true, false, not, ◌||◌}
use Prim.Native.Nat.{ℕ, ◌≤◌, ◌<◌}
use borrow.Author.Tests.{lt-ltb, le-ltb}
use lib.Dec.{eqb, ltb}
use lib.ListN.{length}
use Rattle.limits.specs.Limits.{max_short_string}
use Rattle.text.specs.Test.{◌or◌, whether◌then◌else◌, all}
use Rattle.text.specs.Byte.{is_print}
use Rattle.text.specs.String.{Str}
use Rattle.text.specs.Refusal.{◌when◌else◌, clear}
use Rattle.text.proofs.Tests.{or_is}
use Rattle.table.specs.Refusal.{stray}
use Rattle.verdict_request.specs.Calls.{bad_mode, bad_origin}

module _ (s : Str) where
  pub origin_long : max_short_string < length s → ltb max_short_string (length s) ≡ bad_origin s
  unfolding bad_origin ◌or◌
  origin_long h = rw (lt-ltb max_short_string (length s) h)

  pub origin_short : length s ≤ max_short_string → (b : Bool) → b ≡ all is_print s → not b ≡ bad_origin s
  unfolding bad_origin stray ◌or◌
  origin_short h b i = rw (le-ltb max_short_string (length s) h) (ap not i)

module _ (u m o : Bool) where
  pub number_user : u ≡ true → 20 ≡ (20 when (u or m) else 21 when o else clear)
  unfolding ◌or◌ whether◌then◌else◌
  number_user e = rw e

  pub number_mode : u ≡ false → m ≡ true → 20 ≡ (20 when (u or m) else 21 when o else clear)
  unfolding ◌or◌ whether◌then◌else◌
  number_mode e f = rw (e, f)

  pub number_origin : u ≡ false → m ≡ false → o ≡ true → 21 ≡ (20 when (u or m) else 21 when o else clear)
  unfolding ◌or◌ whether◌then◌else◌
  number_origin e f g = rw (e, f, g)

  pub number_none : u ≡ false → m ≡ false → o ≡ false → clear ≡ (20 when (u or m) else 21 when o else clear)
  unfolding ◌or◌ whether◌then◌else◌
  number_none e f g = rw (e, f, g)
