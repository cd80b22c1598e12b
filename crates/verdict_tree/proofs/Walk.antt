-- The walk from the heaviest rule on: what was passed does not cover the joined path.
use mathlib.Core.Path.{◌≡◌, sym, ap, ◌∙◌}
use mathlib.Core.Logic.{◌⊎◌, inl, inr}
use mathlib.Core.Bool.{Bool, true, false}
use mathlib.Core.List.{List}
use Prim.Native.Nat.{ℕ, ◌+◌, ◌/◌, ◌%◌, ◌≤◌, ◌<◌}
use native.Mathlib.Decide.{dec_lt}
use native.Mathlib.Omega.{arith}
use lib.ListN.{get_or}
use Rattle.limits.specs.Limits.{max_rules}
use Rattle.text.proofs.Tests.{clash}
use Rattle.path.specs.Path.{Path}
use Rattle.verdict.specs.Pair.{covers_both}
use Rattle.verdict_judge.specs.Placed.{nth}
use Rattle.verdict_judge.specs.declared.rules.PlacedRules.{PlacedRules}
use Rattle.verdict_tree.specs.Tree.{Packed, top_weight, Fits, Below, Heaviest}

-- ---- the greatest below a limit

module _ (weights : List ℕ) (limit : ℕ) where
  pub below_none : Below weights 0 limit 0
  below_none = record { top = λ j l. absurd (omega arith); there = λ z. absurd (omega arith); less = λ z. absurd (omega arith) }

  pub below_turn : (i x r : ℕ) → Below weights i limit x → (get_or weights i 0 < limit → get_or weights i 0 ≤ r) → x ≤ r
      → (r ≡ x) ⊎ ((r ≡ get_or weights i 0) × (get_or weights i 0 < limit)) → Below weights (i + 1) limit r
  below_turn i x r b h k o = record { top = top; there = there o; less = less o }
    where
      top : (j : ℕ) → j < i + 1 → get_or weights j 0 < limit → get_or weights j 0 ≤ r
      top j l z = go (dec_lt j i)
        where
          go : Dec (j < i) → get_or weights j 0 ≤ r
          go (yes m) = let q = b.top j m z in omega arith
          go (no m) = let e : i ≡ j = omega arith in rw e at h z

      there : (r ≡ x) ⊎ ((r ≡ get_or weights i 0) × (get_or weights i 0 < limit)) → 0 < r → (j : ℕ) × (j < i + 1) × (get_or weights j 0 ≡ r)
      there (inl e) z = let q = b.there (omega arith) in (q.0, let m = q.1 in omega arith, q.2 ∙ sym e)
      there (inr e) z = (i, omega arith, sym e.0)

      less : (r ≡ x) ⊎ ((r ≡ get_or weights i 0) × (get_or weights i 0 < limit)) → 0 < r → r < limit
      less (inl e) z = let q = b.less (omega arith) in omega arith
      less (inr e) z = let q = e.0 in let u = e.1 in omega arith

  pub below_less : (n r : ℕ) → Below weights n limit r → 0 < limit → r < limit
  below_less n r b z = go (dec_lt 0 r)
    where
      go : Dec (0 < r) → r < limit
      go (yes h) = b.less h
      go (no h) = omega arith

-- ---- the walk

module _ (R : PlacedRules) (weights : List ℕ) (packed : (i : ℕ) → i < R.count → Packed (get_or weights i 0) i) where
  -- x is the weight of the rule whose number it has
  abbrev pub At : ℕ → Type 0
  At x = 0 < x → (x % max_rules < R.count) × (get_or weights (x % max_rules) 0 ≡ x)

  pub at_below : (limit x : ℕ) → Below weights R.count limit x → At x
  at_below limit x b z =
      let q = b.there z in
      let e : x % max_rules ≡ q.0 = ap (λ (y : ℕ). y % max_rules) (sym q.2) ∙ (packed q.0 q.1).number in
      (rw e q.1, rw e q.2)

  module _ (p : Path) (i : ℕ) where
    abbrev covering : ℕ → Bool
    covering j = covers_both (nth R j).path (nth R i).path p

    -- none that is heavier than x covers
    abbrev pub Past : ℕ → Type 0
    Past x = (j : ℕ) → j < R.count → x < get_or weights j 0 → covering j ≡ false

    pub past_start : (x : ℕ) → Below weights R.count top_weight x → Past x
    past_start x b j l h = let q = b.top j l (packed j l).light in absurd (omega arith)

    pub past_next : (x y : ℕ) → At x → 0 < x → Past x → covering (x % max_rules) ≡ false → Below weights R.count (get_or weights (x % max_rules) 0) y → Past y
    past_next x y a z h e b j l k = go (dec_lt (get_or weights j 0) x) (dec_lt x (get_or weights j 0))
      where
        go : Dec (get_or weights j 0 < x) → Dec (x < get_or weights j 0) → covering j ≡ false
        go (yes m) d = let c = (a z).1 in let q = b.top j l (omega arith) in absurd (omega arith)
        go (no m) (yes d) = h j l d
        go (no m) (no d) =
            let s : get_or weights j 0 ≡ x = omega arith in
            let t : x % max_rules ≡ j = ap (λ (w : ℕ). w % max_rules) (sym s) ∙ (packed j l).number in
            ap covering (sym t) ∙ e

    -- the first that covers, or the last that may
    pub found : (d x : ℕ) → d < R.count → Fits (get_or weights d 0) → covering d ≡ true → x / max_rules ≤ get_or weights d 0 / max_rules → Past x → Heaviest R weights p i d
    found d x l h e k m = record { inside = l; fits = h; covering = e; unbeaten = λ j a c. go j a c (dec_lt (get_or weights d 0 / max_rules) (get_or weights j 0 / max_rules)) }
      where
        go : (j : ℕ) → j < R.count → covering j ≡ true → Dec (get_or weights d 0 / max_rules < get_or weights j 0 / max_rules) → get_or weights j 0 / max_rules ≤ get_or weights d 0 / max_rules
        go j a c (yes q) = clash c (m j a (omega arith))
        go j a c (no q) = omega arith
