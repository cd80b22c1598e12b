-- What is to be shown of the ranking.
use Rattle.std.specs.Prelude.{ℕ, ◌<◌, ◌≡◌, ◌⊎◌, List, [], ◌∷◌, get_or}
use Rattle.text.specs.Test.{◌∈◌}
use Rattle.season_parts.specs.Ranked.{Decided, ranked}

-- a decided more often than b; or as often, and has the smaller number
abbrev pub Ahead : Decided → Decided → Type 0
Ahead a b = (b.count < a.count) ⊎ ((a.count ≡ b.count) × (a.number < b.number))

pub data Falling : List Decided → Type 0 where
  none : Falling []
  one : {a : Decided} → Falling (a ∷ [])
  more : {a b : Decided} {rest : List Decided} → Ahead a b → Falling (b ∷ rest) → Falling (a ∷ b ∷ rest)

-- "by falling count (same count: smaller rule number first)"; each rule that decided stands there, with its count
pub record RanksAll : Type 0 where
  pub falling : (counts : List ℕ) → Falling (ranked counts)
  pub each : (counts : List ℕ) (i : ℕ) → 0 < get_or counts i 0 → record { number = i; count = get_or counts i 0 } ∈ ranked counts
