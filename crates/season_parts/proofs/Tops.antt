-- The first of the largest counts, count after count.
use Prim.Native.Nat.{ℕ, ◌+◌, ◌≤◌, ◌<◌}
use native.Mathlib.Numerals.{add-one}
use borrow.Author.Tests.{lt-ltb, le-ltb}
use mathlib.Core.Path.{◌≡◌, refl, sym, ◌∙◌}
use mathlib.Core.List.{List, ◌∷◌}
use lib.ListN.{length, drop, get_or, drop_of_length-le}
use lib.Seq.{drop-cons}
use Rattle.text.specs.Test.{whether◌then◌else◌}
use Rattle.season_parts.specs.Ranked.{top_from, top}

-- of the first i counts `best` is the first of the largest, which is `most`
pub record Topping (counts : List ℕ) (best most i : ℕ) : Type 0 where
  pub answer : top counts ≡ top_from best most i (drop i counts)
  pub found : best < length counts

pub topping_start : (counts : List ℕ) → 0 < length counts → Topping counts 0 0 0
unfolding top
topping_start counts h = record { answer = refl; found = h }

module _ (counts : List ℕ) (best most i : ℕ) (g : Topping counts best most i) where
  module _ (h : i < length counts) where
    next_count : drop i counts ≡ get_or counts i 0 ∷ drop (i + 1) counts
    next_count = rw add-one (drop-cons counts i 0 h)

    pub topping_larger : most < get_or counts i 0 → Topping counts i (get_or counts i 0) (i + 1)
    unfolding top_from whether◌then◌else◌
    topping_larger l = record { answer = g.answer ∙ rw (next_count, lt-ltb most (get_or counts i 0) l); found = h }

    pub topping_same : get_or counts i 0 ≤ most → Topping counts best most (i + 1)
    unfolding top_from whether◌then◌else◌
    topping_same l = record { answer = g.answer ∙ rw (next_count, le-ltb most (get_or counts i 0) l); found = g.found }

  pub topping_done : length counts ≤ i → best ≡ top counts
  unfolding top_from
  topping_done h = sym (g.answer ∙ rw (drop_of_length-le counts {i = i} h))
