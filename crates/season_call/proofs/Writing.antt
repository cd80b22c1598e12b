-- The text of a report, handed out where it fits.
use Prim.Native.Nat.{ℕ, ◌≤◌, ◌<◌}
use borrow.Author.Tests.{le-leb, lt-leb}
use mathlib.Core.Path.{◌≡◌, refl, sym, ap, ◌∙◌}
use mathlib.Core.List.{List, [], ◌∷◌, ◌++◌, append_assoc}
use lib.ListN.{length}
use Rattle.text.specs.Test.{whether◌then◌else◌}
use Rattle.text.specs.String.{Str, joined}
use Rattle.text.specs.Fill.{put}
use Rattle.season.specs.Report.{figure_line}
use Rattle.season.specs.Calls.{answered, stored}
use Rattle.season.specs.declared.Reported.TheVariants.{Length, Refused}
use Rattle.season_sum.specs.Figures.{report_text}
use Rattle.season_call.specs.Written.{hands_out, left_in}

-- some figures, and then others
joined_after : (xs ys : List ℕ) → joined figure_line (xs ++ ys) ≡ joined figure_line xs ++ joined figure_line ys
unfolding joined
joined_after [] ys = refl
joined_after (x ∷ xs) ys = ap (λ (s : Str). figure_line x ++ s) (joined_after xs ys) ∙ sym (append_assoc (figure_line x) (joined figure_line xs) (joined figure_line ys))

pub report_is : (text counts cells : List ℕ) → (text ++ report_text counts) ++ report_text cells ≡ text ++ joined figure_line (counts ++ cells)
unfolding report_text
report_is text counts cells = rw (joined_after counts cells) (append_assoc text (joined figure_line counts) (joined figure_line cells))

-- ---- handed out

module _ (figures : List ℕ) {text : Str} (e : text ≡ joined figure_line figures) (out : List ℕ) where
  pub no_room : length out < length text → (Refused 23 0 ≡ hands_out figures out) × (out ≡ left_in figures out)
  unfolding answered stored whether◌then◌else◌
  no_room h = rw (← e, lt-leb (length text) (length out) h) (refl, refl)

  pub room : length text ≤ length out → (Length (length text) ≡ hands_out figures out) × (put out 0 text ≡ left_in figures out)
  unfolding answered stored whether◌then◌else◌
  room h = rw (← e, le-leb (length text) (length out) h) (refl, refl)
