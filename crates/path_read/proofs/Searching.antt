-- How far a name goes, by the library's search for a byte.
use Rattle.std.proofs.Common.{◌≡◌, ℕ, suc, ◌+◌, ◌<◌, ◌≤◌, Bool, List, [], ◌∷◌, length, refl, sym, ◌∙◌, arith}
use Rattle.std.specs.Prelude.{position, Some, None}
use Rattle.std.specs.List.{position_or_len}
use Rattle.std.proofs.lemmas.Grind.{common_steps}
use Rattle.std.proofs.lemmas.Option.{cond_some}
use Rattle.text.proofs.Tests.{by}
use Rattle.text.specs.Test.{whether◌then◌else◌}
use Rattle.text.specs.String.{Str}
use Rattle.text_search.specs.Search.{until}
use Rattle.text_search.proofs.Searching.{until_fits}

until_is : (p : ℕ → Bool) (s : Str) → position_or_len p s ≡ until p s
unfolding until whether◌then◌else◌
until_is p [] = refl
until_is p (b ∷ s) = by (p b) (λ u. rw u refl) (λ u. rw (u, until_is p s) (let z : 1 + until p s ≡ suc (until p s) = omega arith in z))

pub first_some : (p : ℕ → Bool) (s : Str) (n : ℕ) → position p s ≡ Some n → n ≡ until p s
first_some p s n e = sym ((cond_some _ _ _ e).1) ∙ until_is p s

pub first_none : (p : ℕ → Bool) (s : Str) → position p s ≡ None → length s ≡ until p s
first_none p s e = grind (arith, common_steps, until_is p s, until_fits p s)
