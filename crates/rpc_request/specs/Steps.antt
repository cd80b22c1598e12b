-- What the programs answer step by step: header lines by position, and the joined value of a header.
use Rattle.std.specs.Prelude.{◌≡◌, true, false, List, [], ◌∷◌, ◌++◌, ℕ, suc, ◌+◌, ◌≤◌, ◌<◌, ltb, length, drop}
use Rattle.std.specs.Prelude.{Option as Maybe, MatchOption}
use Rattle.std.proofs.Math.Option.{Option, none, some}
use Rattle.text.specs.Test.{whether◌then◌else◌, absent, or_nothing}
use Rattle.text.specs.String.{Str}
use Rattle.text.specs.Frame.{part}
use Rattle.rpc.specs.Request.{Line, cut_at, line_of, lines_of, headers_of, values_of, header_value}

-- the bytes from `from` on, cut at e; no cut where e is the end
unfoldable pub cut_here : List ℕ → ℕ → ℕ → Option (Str × Str)
cut_here h from e = whether ltb e (length h) then some (part h from e, drop (e + 1) h) else none

-- r is where the first byte b stands from `from` on
pub record Cut (b : ℕ) (h : List ℕ) (from r : ℕ) : Type 0 where
  pub is : cut_at b (drop from h) ≡ cut_here h from r
  pub low : from ≤ r
  pub high : r ≤ length h

-- e is where the LF of the line at i stands, which is well formed
pub record LineTo (h : List ℕ) (i e : ℕ) : Type 0 where
  pub cut : Cut 10 h i e
  pub inside : e < length h
  pub good : absent (line_of (cut_at 58 (part h i e))) ≡ false

-- r is where the LF of the line at i stands; or no lines stand from i on
abbrev pub LineEnd : List ℕ → ℕ → Maybe ℕ → Type 0
LineEnd h i r = MatchOption r ((n : ℕ) → absent (lines_of (suc n) (drop i h)) ≡ true) (LineTo h i)

-- each value after a comma
unfoldable pub commaed : List Str → Str
commaed [] = []
commaed (v ∷ l) = 44 ∷ (v ++ commaed l)

unfoldable pub one_line : Option Line → List Line
one_line none = []
one_line (some x) = x ∷ []

-- what the line l adds to the values of the header
unfoldable pub line_value : Str → Str → Str
line_value key l = commaed (values_of key (one_line (line_of (cut_at 58 l))))

-- the value of the header stands in `out` from r on
pub record Joined (key h out : Str) (r : ℕ) : Type 0 where
  pub is : drop r out ≡ header_value key (or_nothing (headers_of h))
  pub high : r ≤ length out
