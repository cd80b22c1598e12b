-- Strings that are the same but for the case of letters.
use mathlib.Core.Path.{◌≡◌, refl, sym, ap, ◌∙◌}
use mathlib.Core.Bool.{Bool, true, false}
use mathlib.Core.List.{map}
use Prim.Native.Nat.{ℕ, ◌+◌, ◌≤◌, ◌<◌}
use native.Mathlib.Omega.{arith}
use lib.ListN.{length, drop, get_or, length-map, get_or-map}
use Rattle.text.specs.String.{Str, same}
use Rattle.text.proofs.Tests.{same→≡}
use Rattle.text.proofs.Scans.{same_pass, same_differ, same_end, same_lengths}
use Rattle.cli_names.specs.Names.{small, alike}

-- as small letters
abbrev smalls : Str → Str
smalls s = map small s

smalls_long : (s : Str) → length (smalls s) ≡ length s
smalls_long s = length-map s small

small_at : (s : Str) (i : ℕ) → get_or (smalls s) i 0 ≡ small (get_or s i 0)
small_at s i = get_or-map small s i 0

-- what is still to be compared from i on
abbrev pub rest : Str → Str → ℕ → Bool
rest a b i = same (drop i (smalls a)) (drop i (smalls b))

module _ (a b : Str) where
  pub alike_start : alike a b ≡ rest a b 0
  unfolding alike
  alike_start = refl

  pub alike_lengths : (length a ≡ length b → ⊥) → alike a b ≡ false
  unfolding alike
  alike_lengths n = same_lengths (smalls a) (smalls b) (λ e. n (sym (smalls_long a) ∙ e ∙ smalls_long b))

  pub alike_long : alike a b ≡ true → length b ≡ length a
  unfolding alike
  alike_long e = sym (smalls_long b) ∙ ap length (sym (same→≡ (smalls a) (smalls b) e)) ∙ smalls_long a

  module _ (i : ℕ) where
    pub alike_end : length a ≤ i → length b ≤ i → rest a b i ≡ true
    alike_end p q = same_end (smalls a) (smalls b) i (omega (arith, smalls_long a)) (omega (arith, smalls_long b))

    module _ (p : i < length a) (q : i < length b) (x y : ℕ) (s : x ≡ small (get_or a i 0)) (t : y ≡ small (get_or b i 0)) where
      pub alike_pass : x ≡ y → rest a b i ≡ rest a b (i + 1)
      alike_pass e = same_pass (smalls a) (smalls b) i (omega (arith, smalls_long a)) (omega (arith, smalls_long b)) (small_at a i ∙ sym s ∙ e ∙ t ∙ sym (small_at b i))

      pub alike_differ : (x ≡ y → ⊥) → rest a b i ≡ false
      alike_differ n =
          same_differ (smalls a) (smalls b) i (omega (arith, smalls_long a)) (omega (arith, smalls_long b)) (λ e. n (s ∙ sym (small_at a i) ∙ e ∙ small_at b i ∙ sym t))
