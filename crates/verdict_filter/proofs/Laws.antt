-- A path that covers the joined path of another and the asked one has no digit that the other lacks.
use mathlib.Core.Path.{◌≡◌, refl, sym, ap, ◌∙◌}
use mathlib.Core.Logic.{◌⊎◌, inl, inr}
use mathlib.Core.Bool.{Bool, true, false}
use mathlib.Core.List.{List, [], ◌∷◌}
use Prim.Native.Nat.{ℕ, zero, suc, ◌+◌, ◌/◌, ◌%◌, ◌≤◌, ◌<◌}
use native.Mathlib.Nat.{mod-lt}
use native.Mathlib.Omega.{arith}
use lib.Bits.{bit_or, or_shr, or_mod, or_comm, or_self, or_zero_r}
use Rattle.text.specs.Test.{◌and◌, ◌or◌, whether◌then◌else◌, all, any, only}
use Rattle.text.specs.String.{same}
use Rattle.text.proofs.Tests.{clash, by, and_l, and_r, or_l, or_r, or_cases, same→≡}
use Rattle.path.specs.Path.{Key, Elem, Path}
use Rattle.verdict.specs.Cover.{wild, given, definite, same_key, holds, meets, covers}
use Rattle.verdict.specs.Pair.{meets_both, covers_both}
use Rattle.verdict_filter.specs.declared.Filter.{Filter}
use Rattle.text_hash.specs.declared.Seed.{Seed}
use Rattle.text_hash.specs.Mix.{mix}
use Rattle.verdict_filter.specs.Bloom.{depth_step, none, unite, digits, key_digits, keys_digits, elem_digits, path_digits, beyond}

-- ---- the digits of two numbers together

low_assoc : (a b c : ℕ) → a < 2 → b < 2 → c < 2 → bit_or (bit_or a b) c ≡ bit_or a (bit_or b c)
low_assoc zero b c h i j = refl
low_assoc (suc zero) zero c h i j = refl
low_assoc (suc zero) (suc zero) zero h i j = refl
low_assoc (suc zero) (suc zero) (suc zero) h i j = refl
low_assoc (suc zero) (suc zero) (suc (suc c)) h i j = absurd (omega arith)
low_assoc (suc zero) (suc (suc b)) c h i j = absurd (omega arith)
low_assoc (suc (suc a)) b c h i j = absurd (omega arith)

assoc_to : (n a b c : ℕ) → a ≤ n → bit_or (bit_or a b) c ≡ bit_or a (bit_or b c)
assoc_to zero a b c h = let e : a ≡ 0 = omega arith in rw e
assoc_to (suc n) a b c h =
    let x : ℕ = bit_or (bit_or a b) c in
    let y : ℕ = bit_or a (bit_or b c) in
    let u : x / 2 ≡ bit_or (bit_or (a / 2) (b / 2)) (c / 2) = or_shr (bit_or a b) c 1 ∙ ap (λ (z : ℕ). bit_or z (c / 2)) (or_shr a b 1) in
    let v : y / 2 ≡ bit_or (a / 2) (bit_or (b / 2) (c / 2)) = or_shr a (bit_or b c) 1 ∙ ap (bit_or (a / 2)) (or_shr b c 1) in
    let s : x % 2 ≡ bit_or (bit_or (a % 2) (b % 2)) (c % 2) = or_mod (bit_or a b) c 1 ∙ ap (λ (z : ℕ). bit_or z (c % 2)) (or_mod a b 1) in
    let t : y % 2 ≡ bit_or (a % 2) (bit_or (b % 2) (c % 2)) = or_mod a (bit_or b c) 1 ∙ ap (bit_or (a % 2)) (or_mod b c 1) in
    let i : x / 2 ≡ y / 2 = u ∙ assoc_to n (a / 2) (b / 2) (c / 2) (omega arith) ∙ sym v in
    let j : x % 2 ≡ y % 2 = s ∙ low_assoc (a % 2) (b % 2) (c % 2) (mod-lt a (omega arith)) (mod-lt b (omega arith)) (mod-lt c (omega arith)) ∙ sym t in
    omega (arith, i, j)

or_assoc : (a b c : ℕ) → bit_or (bit_or a b) c ≡ bit_or a (bit_or b c)
or_assoc a b c = assoc_to a a b c (omega arith)

-- ---- the digits of two filters together

pub unite_assoc : (x y z : Filter) → unite (unite x y) z ≡ unite x (unite y z)
unfolding unite
unite_assoc x y z = rw (or_assoc x.a y.a z.a, or_assoc x.b y.b z.b, or_assoc x.c y.c z.c, or_assoc x.d y.d z.d)

unite_comm : (x y : Filter) → unite x y ≡ unite y x
unfolding unite
unite_comm x y = rw (or_comm x.a y.a, or_comm x.b y.b, or_comm x.c y.c, or_comm x.d y.d)

unite_self : (x : Filter) → unite x x ≡ x
unfolding unite
unite_self x = rw (or_self x.a, or_self x.b, or_self x.c, or_self x.d)

pub unite_none : (x : Filter) → unite x none ≡ x
unfolding unite
unite_none x = rw (or_zero_r x.a, or_zero_r x.b, or_zero_r x.c, or_zero_r x.d)

pub fresh : (x t : Filter) → x ≡ none → t ≡ unite x t
fresh x t e = sym (rw e (unite_comm none t ∙ unite_none t))

-- x has no digit that m lacks
pub record Within (x m : Filter) : Type 0 where
  pub same : unite x m ≡ m

nothing : (m : Filter) → Within none m
nothing m = record { same = sym (fresh none m refl) }

module _ {x y m : Filter} where
  either : Within x m → Within y m → Within (unite x y) m
  either h k = record { same = unite_assoc x y m ∙ ap (unite x) k.same ∙ h.same }

  onward : Within x y → Within y m → Within x m
  onward h k = record { same = ap (unite x) (sym k.same) ∙ sym (unite_assoc x y m) ∙ ap (λ (z : Filter). unite z m) h.same ∙ k.same }

module _ (x y : Filter) where
  first : Within x (unite x y)
  first = record { same = sym (unite_assoc x x y) ∙ ap (λ (z : Filter). unite z y) (unite_self x) }

  second : Within y (unite x y)
  second = record { same = ap (unite y) (unite_comm x y) ∙ sym (unite_assoc y y x) ∙ ap (λ (z : Filter). unite z x) (unite_self y) ∙ unite_comm y x }

-- ---- keys

held_given : (ks : List Key) (k : Key) → holds (given ks) k ≡ true → holds ks k ≡ true
unfolding holds any only whether◌then◌else◌
held_given [] k e = e
held_given (j ∷ ks) k e = by (wild j) (λ h. or_r _ _ (held_given ks k (rw h at e))) (λ h. go (held_given ks k) (or_cases _ _ (rw h at e)))
  where
    go : (any (λ (i : Key). same_key i k) (given ks) ≡ true → any (λ (i : Key). same_key i k) ks ≡ true)
        → (same_key j k ≡ true) ⊎ (any (λ (i : Key). same_key i k) (given ks) ≡ true) → (same_key j k or any (λ (i : Key). same_key i k) ks) ≡ true
    go ih (inl h) = or_l _ _ h
    go ih (inr h) = or_r _ _ (ih h)

module _ (s : Seed) (d : ℕ) (asked : List Key) where
  key_alike : (j k : Key) → same_key j k ≡ true → key_digits s d asked k ≡ key_digits s d asked j
  unfolding key_digits wild holds
  key_alike j k e = rw (same→≡ j.name k.name (and_l _ _ e), same→≡ j.value k.value (and_r _ _ e))

  key_held : (ks : List Key) (k : Key) → holds (given ks) k ≡ true → Within (key_digits s d asked k) (keys_digits s d asked ks)
  unfolding holds any only whether◌then◌else◌ keys_digits
  key_held [] k e = clash e refl
  key_held (j ∷ ks) k e =
      by (wild j)
      (λ h. onward (key_held ks k (rw h at e)) (second (key_digits s d asked j) (keys_digits s d asked ks)))
      (λ h. go (key_held ks k) (or_cases _ _ (rw h at e)))
    where
      go : (any (λ (i : Key). same_key i k) (given ks) ≡ true → Within (key_digits s d asked k) (keys_digits s d asked ks))
          → (same_key j k ≡ true) ⊎ (any (λ (i : Key). same_key i k) (given ks) ≡ true)
          → Within (key_digits s d asked k) (unite (key_digits s d asked j) (keys_digits s d asked ks))
      go ih (inl h) = rw (key_alike j k h) (first (key_digits s d asked j) (keys_digits s d asked ks))
      go ih (inr h) = onward (ih h) (second (key_digits s d asked j) (keys_digits s d asked ks))

  -- a key that is left out
  key_out : (m : Filter) (k : Key) → (wild k or holds asked k) ≡ true → Within (key_digits s d asked k) m
  unfolding key_digits whether◌then◌else◌
  key_out m k z = rw z (nothing m)

  -- each definite key is within m
  keys_within : (t : Key → Bool) (m : Filter) → ((k : Key) → t k ≡ true → Within (key_digits s d asked k) m) → (ks : List Key) → all t (given ks) ≡ true
      → Within (keys_digits s d asked ks) m
  unfolding all only whether◌then◌else◌ keys_digits
  keys_within t m h [] e = nothing m
  keys_within t m h (k ∷ ks) e =
      by (wild k)
      (λ z. either (key_out m k (or_l _ _ z)) (keys_within t m h ks (rw z at e)))
      (λ z. either (h k (and_l _ _ (rw z at e))) (keys_within t m h ks (and_r _ _ (rw z at e))))

-- ---- elements

module _ (s : Seed) (d : ℕ) where
  elem_meets : (p e : Elem) → meets p e ≡ true → Within (elem_digits s d p) (elem_digits s d e)
  unfolding meets elem_digits definite
  elem_meets p e h =
      let n : p.name ≡ e.name = same→≡ _ _ (and_l _ _ h) in
      let x : Filter = digits (mix s d e.name) in
      let y : Filter = keys_digits s d [] e.keys in
      either {x = digits (mix s d p.name)} {y = keys_digits s d [] p.keys} {m = unite x y}
      (rw n (first x y))
      (onward {y = y} (keys_within s d [] (holds (given e.keys)) y (key_held s d [] e.keys) p.keys (and_r _ _ h)) (second x y))

  -- an element that the asked one meets
  elem_asked : (e p : Elem) → meets e p ≡ true → (m : Filter) → Within (keys_digits s d p.keys e.keys) m
  unfolding meets definite
  elem_asked e p h m =
      keys_within s d p.keys (holds (given p.keys)) m
      (λ k i. key_out s d p.keys m k (or_r _ _ (held_given p.keys k i)))
      e.keys (and_r _ _ h)

  elem_both : (e r p : Elem) → meets_both e r p ≡ true → Within (keys_digits s d p.keys e.keys) (keys_digits s d p.keys r.keys)
  unfolding meets_both definite
  elem_both e r p h =
      keys_within s d p.keys (λ (k : Key). holds (given r.keys) k or holds (given p.keys) k) (keys_digits s d p.keys r.keys)
      (λ k i. go k (or_cases _ _ i))
      e.keys (and_r _ _ h)
    where
      go : (k : Key) → (holds (given r.keys) k ≡ true) ⊎ (holds (given p.keys) k ≡ true) → Within (key_digits s d p.keys k) (keys_digits s d p.keys r.keys)
      go k (inl i) = key_held s d p.keys r.keys k i
      go k (inr i) = key_out s d p.keys _ k (or_r _ _ (held_given p.keys k i))

-- ---- paths

module _ (s : Seed) where
  path_covers : (d : ℕ) (ps es : Path) → covers ps es ≡ true → Within (path_digits s d ps) (path_digits s d es)
  unfolding covers path_digits
  path_covers d [] es h = nothing _
  path_covers d (p ∷ ps) [] h = clash h refl
  path_covers d (p ∷ ps) (e ∷ es) h =
      either
      (onward (elem_meets s d p e (and_l _ _ h)) (first (elem_digits s d e) (path_digits s (d + depth_step) es)))
      (onward (path_covers (d + depth_step) ps es (and_r _ _ h)) (second (elem_digits s d e) (path_digits s (d + depth_step) es)))

  path_asked : (d : ℕ) (es ps : Path) → covers es ps ≡ true → (m : Filter) → Within (beyond s d es ps) m
  unfolding covers beyond
  path_asked d [] ps h m = nothing m
  path_asked d (e ∷ es) [] h m = clash h refl
  path_asked d (e ∷ es) (p ∷ ps) h m = either (elem_asked s d e p (and_l _ _ h) m) (path_asked (d + depth_step) es ps (and_r _ _ h) m)

  path_both : (d : ℕ) (es rs ps : Path) → covers_both es rs ps ≡ true → Within (beyond s d es ps) (beyond s d rs ps)
  unfolding covers_both beyond
  path_both d [] rs ps h = nothing _
  path_both d (e ∷ es) [] ps h = path_asked d (e ∷ es) ps h _
  path_both d (e ∷ es) (r ∷ rs) [] h = path_covers d (e ∷ es) (r ∷ rs) h
  path_both d (e ∷ es) (r ∷ rs) (p ∷ ps) h =
      let x : Filter = keys_digits s d p.keys r.keys in
      let y : Filter = beyond s (d + depth_step) rs ps in
      either
      (onward (elem_both s d e r p (and_l _ _ h)) (first x y))
      (onward (path_both (d + depth_step) es rs ps (and_r _ _ h)) (second x y))

-- a path with a digit that another lacks does not cover the joined path of that and the asked one
pub not_both : (s : Seed) (es rs ps : Path) → (unite (beyond s 0 es ps) (beyond s 0 rs ps) ≡ beyond s 0 rs ps → ⊥) → covers_both es rs ps ≡ false
not_both s es rs ps n = by (covers_both es rs ps) (λ h. absurd (n (path_both s 0 es rs ps h).same)) (λ h. h)
