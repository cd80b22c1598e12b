-- What the loop chooses is what the definition says.
use mathlib.Core.Path.{◌≡◌, refl}
use mathlib.Core.Bool.{Bool}
use mathlib.Core.List.Memᴰ
use mathlib.Core.List.{List, [], ◌∷◌}
use Prim.Native.Nat.{ℕ, suc}
use Rattle.text.specs.Test.{◌∈◌}
use Rattle.table.specs.Table.{Rule, Table}
use Rattle.verdict.specs.Order.{better, choose, candidate}
use Rattle.verdict.specs.Verdict.{Request, applies, matches, decider}
use Rattle.verdict_judge.specs.Best.{matching}

-- rules that are tested alike are chosen alike
pub choose_alike : (over : Rule → Rule → Bool) (t u : Rule → Bool) (i : ℕ) (rs : List Rule) → ((r : Rule) → r ∈ rs → t r ≡ u r)
    → choose over t i rs ≡ choose over u i rs
unfolding choose candidate
choose_alike over t u i [] h = refl
choose_alike over t u i (r ∷ rs) h = rw (h r (Memᴰ.head refl), choose_alike over t u (suc i) rs (λ s m. h s (Memᴰ.tail m)))

module _ (t : Table) (q : Request) where
  pub decided : choose better (matching (applies t q) q.path) 0 t.rules ≡ decider t q
  unfolding decider matches
  decided = choose_alike better _ _ 0 t.rules (λ r m. refl)
