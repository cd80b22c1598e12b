-- One turn of each loop, and its end.
use mathlib.Core.Path.{◌≡◌, sym, ap, ◌∙◌}
use mathlib.Core.Bool.{true, false}
use mathlib.Core.List.{List, [], ◌∷◌}
use Prim.Native.Nat.{ℕ, ◌+◌, ◌-◌, ◌*◌, ◌/◌, ◌%◌, ◌^◌, ◌≤◌, ◌<◌}
use native.Mathlib.Nat.{mod-lt, one-mul}
use native.Mathlib.Omega.{arith}
use lib.ListN.{get_or}
use lib.Pow.{shl_exact}
use Rattle.text.specs.Test.{◌or◌, whether◌then◌else◌}
use Rattle.path.specs.Path.{Key, Elem, Path}
use Rattle.verdict.specs.Cover.{wild, holds}
use Rattle.verdict_filter.specs.declared.Filter.{Filter}
use Rattle.text_hash.specs.declared.Seed.{Seed}
use Rattle.text_hash.specs.Mix.{mix}
use Rattle.verdict_filter.specs.Bloom.{depth_step, none, unite, digits, key_digits, keys_digits, elem_digits, path_digits, beyond}
use Rattle.verdict_filter.proofs.Laws.{unite_assoc, unite_none}

-- ---- digits

digit : (w h : ℕ) → (1 * 2 ^ (h / 2 ^ w % 64)) % 2 ^ 64 ≡ 2 ^ (h / 2 ^ w % 64)
digit w h =
    let z : h / 2 ^ w % 64 < 64 = mod-lt (h / 2 ^ w) (omega arith) in
    shl_exact {a = 1} 1 (h / 2 ^ w % 64) 64 (omega arith) (omega arith) ∙ one-mul (2 ^ (h / 2 ^ w % 64))

abbrev shifted : ℕ → ℕ → ℕ
shifted w h = (1 * 2 ^ (h / 2 ^ w % 64)) % 2 ^ 64

pub digits_are : (h : ℕ) → record { a = shifted 26 h; b = shifted 20 h; c = shifted 14 h; d = shifted 8 h } ≡ digits h
unfolding digits
digits_are h = rw (digit 26 h, digit 20 h, digit 14 h, digit 8 h)

-- ---- keys and elements

module _ (s : Seed) (d : ℕ) (asked : List Key) where
  pub key_is : (k : Key) → wild k ≡ false → holds asked k ≡ false → digits (mix s (mix s d k.name) k.value) ≡ key_digits s d asked k
  unfolding key_digits whether◌then◌else◌ ◌or◌
  key_is k e n = rw (e, n)

  pub key_left : (k : Key) → (wild k or holds asked k) ≡ true → none ≡ key_digits s d asked k
  unfolding key_digits whether◌then◌else◌
  key_left k e = rw e

  pub keys_turn : (k : Key) (ks : List Key) (c x t : Filter) → c ≡ key_digits s d asked k
      → t ≡ unite x (keys_digits s d asked (k ∷ ks)) → t ≡ unite (unite x c) (keys_digits s d asked ks)
  unfolding keys_digits
  keys_turn k ks c x t j e = e ∙ rw j (sym (unite_assoc x (key_digits s d asked k) _))

  pub keys_end_lem : (x t : Filter) → t ≡ unite x (keys_digits s d asked []) → x ≡ t
  unfolding keys_digits
  keys_end_lem x t e = sym (e ∙ unite_none x)

module _ (s : Seed) (d : ℕ) where
  pub elem_is : (e : Elem) (x c : Filter) → x ≡ digits (mix s d e.name) → c ≡ keys_digits s d [] e.keys → unite x c ≡ elem_digits s d e
  unfolding elem_digits
  elem_is e x c h j = rw (j, h)

  pub elems_turn : (e : Elem) (es : Path) (c x t : Filter) → c ≡ elem_digits s d e
      → t ≡ unite x (path_digits s d (e ∷ es)) → t ≡ unite (unite x c) (path_digits s (d + depth_step) es)
  unfolding path_digits
  elems_turn e es c x t j i = i ∙ rw j (sym (unite_assoc x (elem_digits s d e) _))

  pub elems_end_lem : (x t : Filter) → t ≡ unite x (path_digits s d []) → x ≡ t
  unfolding path_digits
  elems_end_lem x t e = sym (e ∙ unite_none x)

  -- ---- a path beside the asked one

  pub beside_turn : (e : Elem) (es : Path) (p : Elem) (ps : Path) (y x t : Filter) → y ≡ keys_digits s d p.keys e.keys
      → t ≡ unite x (beyond s d (e ∷ es) (p ∷ ps)) → t ≡ unite (unite x y) (beyond s (d + depth_step) es ps)
  unfolding beyond
  beside_turn e es p ps y x t j i = i ∙ rw j (sym (unite_assoc x (keys_digits s d p.keys e.keys) _))

  -- the asked path has ended
  pub beside_rest : (e : Elem) (es : Path) (y x t : Filter) → y ≡ path_digits s d (e ∷ es) → t ≡ unite x (beyond s d (e ∷ es) []) → unite x y ≡ t
  unfolding beyond
  beside_rest e es y x t j i = sym (i ∙ ap (unite x) (sym j))

  pub beside_end : (p : Path) (x t : Filter) → t ≡ unite x (beyond s d [] p) → x ≡ t
  unfolding beyond
  beside_end p x t e = sym (e ∙ unite_none x)
