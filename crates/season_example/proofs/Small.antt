-- That the counts of the example are small, by a test that is computed.
use Prim.Native.Nat.{ℕ, zero, suc, ◌≤◌}
use native.Mathlib.Omega.{arith}
use borrow.Author.Tests.{leb-true}
use mathlib.Core.Path.{◌≡◌}
use mathlib.Core.Bool.{true}
use mathlib.Core.List.{List, [], ◌∷◌}
use lib.Dec.{leb}
use lib.ListN.{get_or}
use Rattle.text.specs.Test.{all}
use Rattle.text.proofs.Tests.{and_l, and_r}
use Rattle.season_count.specs.Counts.{UpTo, cell_of}

module _ (n : ℕ) where
  low : (l : List ℕ) → all (λ k. leb k n) l ≡ true → (i : ℕ) → get_or l i 0 ≤ n
  unfolding all
  low [] e i = omega arith
  low (k ∷ ks) e zero = leb-true k n (and_l _ _ e)
  low (k ∷ ks) e (suc i) = low ks (and_r (leb k n) _ e) i

  low_cells : (g : List (List ℕ)) → all (λ l. all (λ k. leb k n) l) g ≡ true → (r c : ℕ) → cell_of g r c ≤ n
  unfolding all
  low_cells [] e r c = omega arith
  low_cells (l ∷ ls) e zero c = low l (and_l (all (λ k. leb k n) l) _ e) c
  low_cells (l ∷ ls) e (suc r) c = low_cells ls (and_r (all (λ k. leb k n) l) _ e) r c

  pub up_to : (counts : List ℕ) (g : List (List ℕ)) → all (λ k. leb k n) counts ≡ true → all (λ l. all (λ k. leb k n) l) g ≡ true → UpTo n counts g
  up_to counts g a b = record { rules = low counts a; cells = low_cells g b }
