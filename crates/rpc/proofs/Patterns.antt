-- Patterns: each way out of is_match.
use Rattle.std.proofs.Common.{◌≡◌, ℕ, ◌-◌, ◌<◌, ◌≤◌, Bool, true, false, not, length, take, drop, get_or, sym, ap, ◌∙◌, arith, length-drop, eq-eqb, ne_eqb}
use Rattle.std.proofs.Math.Seq.{take_all}
use Rattle.std.specs.Prelude.{eqb}
use Rattle.text.specs.Byte.{is_star}
use Rattle.text.specs.Test.{whether◌then◌else◌}
use Rattle.text.specs.String.{Str, same}
use Rattle.text_affix.specs.Affix.{empty, begins, ends, star_first, star_last}
use Rattle.rpc.specs.Pattern.{matches}

module _ (p v : Str) where
  pub match_any : (r : Bool) → get_or p 0 0 ≡ 42 → length p < 2 → 1 ≤ length p → r ≡ eqb (length v) 0 → not r ≡ matches p v
  unfolding matches empty whether◌then◌else◌
  match_any r f h l q = let e : length p ≡ 1 = omega arith in rw (f, e, q)

  pub match_suffix : (r : Bool) → get_or p 0 0 ≡ 42 → 2 ≤ length p → r ≡ ends (take (length p - 1) (drop 1 p)) v → r ≡ matches p v
  unfolding matches whether◌then◌else◌
  match_suffix r f h q = rw (f, ne_eqb (length p) 1 (omega arith)) (q ∙ ap (λ (x : Str). ends x v) (take_all (length p - 1) (drop 1 p) (omega (arith, length-drop 1 p))))

  pub match_prefix : (r : Bool) → (get_or p 0 0 ≡ 42 → ⊥) → get_or p (length p - 1) 0 ≡ 42 → r ≡ begins (take (length p - 1) p) v → r ≡ matches p v
  unfolding matches whether◌then◌else◌
  match_prefix r f l q = rw (ne_eqb (get_or p 0 0) 42 f, l) q

  pub match_exact : (r : Bool) → (get_or p 0 0 ≡ 42 → ⊥) → (get_or p (length p - 1) 0 ≡ 42 → ⊥) → r ≡ same p v → r ≡ matches p v
  unfolding matches whether◌then◌else◌
  match_exact r f l q = rw (ne_eqb (get_or p 0 0) 42 f, ne_eqb (get_or p (length p - 1) 0) 42 l) q

pub ruleset ways = (match_any, match_suffix, match_prefix, match_exact)
