-- What the scan of a string and the numbers of its parts stand for.
use mathlib.Core.Path.{◌≡◌, refl, sym, ap}
use mathlib.Core.Bool.{Bool, true, false, not, ◌&&◌, ◌||◌}
use Prim.Native.Nat.{ℕ}
use mathlib.Core.List.{[], ◌∷◌}
use native.Mathlib.Omega.{arith}
use lib.Dec.{eqb, leb}
use lib.ListN.{length, get_or}
use Rattle.text.specs.Test.{◌or◌, ◌and◌, all, any}
use Rattle.text.specs.Byte.{is_name, is_print, is_star}
use Rattle.text.specs.String.{Str, bytes, same}
use Rattle.text.proofs.Tests.{by, same→≡}
use Rattle.path.specs.Refusal.{unsized, outside_name, outside_value, half_wild}
use Rattle.path.proofs.Refusals.{plain_seen}
use Rattle.path.specs.Walk.{unsized_by, name_refusal, elem_name_refusal, value_refusal, least_refusal}

pub size : (s : Str) → unsized_by (length s) ≡ unsized s
unfolding unsized ◌or◌
size s = refl

no_print : (s : Str) → any outside_value s ≡ not (all is_print s)
unfolding any all outside_value ◌or◌ ◌and◌
no_print [] = refl
no_print (b ∷ s) = by (is_print b) (λ u. rw u (no_print s)) (λ u. rw u)

-- the numbers of the parts, of what the programs look at: a plain name has no other bytes than those of names
module _ (s : Str) where
  pub name_open : name_refusal s ≡ least_refusal (unsized_by (length s)) (any outside_name s) (any is_star s) false
  unfolding name_refusal unsized ◌or◌
  name_open = refl

  pub name_plain : all is_name s ≡ true → name_refusal s ≡ least_refusal (unsized_by (length s)) false false false
  name_plain e = let p = plain_seen s e in rw (name_open, ← p.0, ← p.1)

  pub elem_name_open : elem_name_refusal s ≡ least_refusal (unsized_by (length s)) (any outside_name s) (any is_star s or same s (bytes "...")) false
  unfolding elem_name_refusal unsized ◌or◌
  elem_name_open = refl

  pub elem_name_plain : all is_name s ≡ true → elem_name_refusal s ≡ least_refusal (unsized_by (length s)) false (same s (bytes "...")) false
  unfolding ◌or◌
  elem_name_plain e = let p = plain_seen s e in rw (elem_name_open, ← p.0, ← p.1)

  pub value_open : value_refusal s ≡ least_refusal (unsized_by (length s)) (not (all is_print s)) (half_wild s) false
  unfolding value_refusal unsized ◌or◌
  value_open = rw (no_print s)

-- ---- is_name

pub small_letter : (b : ℕ) → (leb 97 b && leb b 122) ≡ true → true ≡ is_name b
small_letter b e = rw e (by (leb 65 b && leb b 90) (λ u. rw u) (λ u. rw u))
