-- A set of strings, each kept as a span of one text, in one array: the sorted strings in front, at number `room` how many they are, and after
-- that the places. At a place stands the first string that came with it, 0 where none did; strings that found their place taken are sorted.
use Rattle.std.specs.Prelude.{ℕ, ◌+◌, ◌≤◌, ◌<◌, ◌≡◌, Bool, false, List, eqb, length, get_or, set}
use Rattle.text.specs.Test.{◌or◌, whether◌then◌else◌, any}
use Rattle.text.specs.String.{Str, same}
use Rattle.text_sorted.specs.Spans.{span_in, Inside, strings_of, Sorted, Sought, inserted}
use Rattle.text_sorted.specs.declared.Found.{Found}

-- x, whose place is p, is in the set: a place where nothing stands proves that it is not
unfoldable pub among : List ℕ → List ℕ → ℕ → ℕ → Str → Bool
among f keys room p x =
    whether eqb (get_or keys p 0) 0 then false
    else (same x (span_in f (get_or keys p 0)) or any (same x) (strings_of f keys (get_or keys room 0)))

-- every span lies within the text
pub record Ready (f keys : List ℕ) (room : ℕ) : Type 0 where
  pub sorted : Sorted f keys (get_or keys room 0)
  pub within : (p : ℕ) → room < p → Inside f (get_or keys p 0)

-- r says whether x is there, and where it is not and its place is taken, where it belongs among the sorted
pub record Met (f keys : List ℕ) (room p : ℕ) (x : Str) (r : Found) : Type 0 where
  pub told : r.again ≡ among f keys room p x
  pub fits : r.at ≤ get_or keys room 0
  pub placed : (get_or keys p 0 ≡ 0 → ⊥) → r.again ≡ false → Sought f keys (get_or keys room 0) x r

-- the span k comes to place p, or where this is taken to `at` of the sorted
unfoldable pub added : List ℕ → ℕ → ℕ → ℕ → ℕ → List ℕ
added keys room p at k =
    whether eqb (get_or keys p 0) 0 then set keys p k
    else set (inserted keys (get_or keys room 0) at k) room (get_or keys room 0 + 1)

-- The set has the strings xs, where h gives each string's place: each string is found, and none that finds its place empty is among the sorted.
pub record Holds (h : Str → ℕ) (f keys : List ℕ) (room : ℕ) (xs : List Str) : Type 0 where
  pub ready : Ready f keys room
  pub few : get_or keys room 0 ≤ length xs
  pub told : (y : Str) → any (same y) xs ≡ among f keys room (h y) y
  pub free : (y : Str) → get_or keys (h y) 0 ≡ 0 → any (same y) (strings_of f keys (get_or keys room 0)) ≡ false
