-- The text of a path is told by its bytes: there is none, or there is, and how long it can be.
use mathlib.Core.Path.{◌≡◌, refl, sym, ◌∙◌}
use mathlib.Core.Bool.{Bool, true, false}
use mathlib.Core.List.{List}
use mathlib.Core.Option.{none, some, map}
use Prim.Native.Nat.{ℕ, ◌-◌, ◌/◌, ◌≤◌}
use native.Mathlib.Omega.{arith}
use lib.ListN.{length}
use Rattle.limits.specs.Sizes.{max_path_text}
use Rattle.text.specs.Test.{◌and◌, whether◌then◌else◌}
use Rattle.text.specs.String.{Str}
use Rattle.text.specs.Frame.{Parsed, got, unread}
use Rattle.text.proofs.Tests.{clash, and_r}
use Rattle.path.specs.Path.{Path}
use Rattle.path.specs.Bytes.{path}
use Rattle.path.specs.Spells.{whole, read_bytes}
use Rattle.path.specs.Walk.{is_path, is_path_in}
use Rattle.path_read.specs.Text.{path_text}
use Rattle.path_read.specs.Calls.{text_for}
use Rattle.path_write.specs.Steps.{is_read, written}
use Rattle.path_read.proofs.Longest.{text_length, text_twice}

text_told : (f : Str) (x : Parsed Path) → is_path_in f x ≡ true → (map path_text (whole f x) ≡ some (written path_text x)) × (is_read x ≡ true) × (length (written path_text x) ≤ max_path_text)
unfolding is_path_in whole whether◌then◌else◌
text_told f (got p t) h = (rw h, refl, text_length p (and_r _ _ h))
text_told f unread h = clash h refl

text_none : (f : Str) (x : Parsed Path) → is_path_in f x ≡ false → map path_text (whole f x) ≡ none
unfolding is_path_in whole whether◌then◌else◌
text_none f (got p t) h = rw h
text_none f unread h = refl

-- b is what is_path answers
module _ (f : Str) (b : Bool) (i : b ≡ is_path f) where
  pub text_bad : b ≡ false → text_for f ≡ none
  unfolding text_for read_bytes is_path
  text_bad e = text_none f (path f 0) (sym i ∙ e)

  pub text_good : b ≡ true → text_for f ≡ some (written path_text (path f 0))
  unfolding text_for read_bytes is_path
  text_good e = (text_told f (path f 0) (sym i ∙ e)).0

  pub text_fits : b ≡ true → (is_read (path f 0) ≡ true) × (length (written path_text (path f 0)) ≤ max_path_text)
  unfolding is_path
  text_fits e = let t = text_told f (path f 0) (sym i ∙ e) in (t.1, t.2)

  -- there is surely room for the text where there is for twice the bytes
  pub text_room : (d : List ℕ) → b ≡ true → length f ≤ length d / 2 → length (written path_text (path f 0)) ≤ length d
  text_room d e h = omega (arith, text_twice f (written path_text (path f 0)) (text_good e))
