-- The answers of the programs that convert part by part, said of what is read there.
use Rattle.std.specs.Prelude.{ℕ, ◌≤◌, ◌≡◌, List, eqb, length, None}
use Rattle.std.proofs.Math.Option.{Option}
use Rattle.limits.specs.Sizes.{max_path_text, max_quoted}
use Rattle.text.specs.Test.{whether◌then◌else◌}
use Rattle.text.specs.String.{Str}
use Rattle.text.specs.Frame.{got, unread, Reader}
use Rattle.text.specs.Steps.{Wrote}
use Rattle.path_read.specs.Calls.{bytes_for, text_for}
use Rattle.path_read.specs.Steps.{MaybeStored, reached}
use Rattle.readable_parts.specs.declared.Direction.{Direction}
use Rattle.readable_parts.specs.declared.Direction.TheVariants.{Show, Pack}

-- the longest that a part can be, as text or in a frame: a string in brackets, escaped; 16 digits; the longest path text; `permit`
unfoldable pub longest : ℕ → ℕ
longest c =
    whether eqb c 83 then max_quoted
    else whether eqb c 84 then 16
    else whether eqb c 80 then max_path_text
    else whether eqb c 65 then 6
    else whether eqb c 77 then 6
    else whether eqb c 75 then 6
    else 1

-- what r reads of s at `at`, within s, was stored into d from `to` on, and nothing else, and is not longer than `most`; where it reads nothing,
-- nothing is said of d
pub data Puts (most : ℕ) (r : Reader Str) (s : Str) (at : ℕ) : List ℕ → ℕ → List ℕ → MaybeStored → Type 0 where
  puts : {w : Str} {t : ℕ} {d : List ℕ} {to : ℕ} {d' : List ℕ} {end : ℕ} → r s at ≡ got w t → Wrote d to w d' end → length w ≤ most → t ≤ length s
      → Puts most r s at d to d' (reached t end)
  stops : {d : List ℕ} {to : ℕ} {d' : List ℕ} → r s at ≡ unread → Puts most r s at d to d' None

-- what is made of a path: the bytes of its text, or the text of its bytes
abbrev pub path_for : Direction → Str → Option Str
path_for Pack = bytes_for
path_for Show = text_for
