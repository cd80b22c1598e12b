-- One law for each way out of a walk over elements.
use mathlib.Core.Path.{◌≡◌, refl, ap, ◌∙◌}
use mathlib.Core.Bool.{Bool, true, false, not}
use mathlib.Core.List.{List, [], ◌∷◌}
use Prim.Native.Nat.{ℕ, ◌+◌, ◌-◌, ◌≤◌, ◌<◌}
use native.Mathlib.Omega.{arith}
use lib.ListN.{get_or}
use Rattle.text.specs.Test.{◌and◌, ◌or◌, all, any, only}
use Rattle.text.specs.String.{same}
use Rattle.text.proofs.Tests.{same_sym, any_or}
use Rattle.path.specs.Path.{Key, Elem, Path}
use Rattle.verdict.specs.Cover.{given, definite, holds, meets, covers}
use Rattle.verdict.specs.Join.{conflict, clashes, agrees, agree}
use Rattle.verdict.specs.Pair.{meets_both, covers_both}
use Rattle.table_place.specs.Place.{str_end, str_in, keys_in, elem_end, elem_in, elems_in}
use Rattle.table_place.proofs.Cursor.{elems_cons, elems_nil}
use Rattle.verdict_compare.specs.Compare.{key_passes, elem_passes, path_passes}

-- ---- that keys of xs and ys are in no conflict, by the members of either

conflict_turned : (j k : Key) → conflict j k ≡ conflict k j
unfolding conflict
conflict_turned j k = rw (same_sym j.name k.name, same_sym j.value k.value)

none_clash : (ys : List Key) → any (clashes []) ys ≡ false
unfolding any clashes ◌or◌
none_clash [] = refl
none_clash (y ∷ ys) = none_clash ys

one_clashes : (x : Key) (ys : List Key) → any (conflict x) ys ≡ clashes ys x
unfolding any clashes
one_clashes x [] = refl
one_clashes x (y ∷ ys) = rw (conflict_turned x y, one_clashes x ys)

neither : (a b : Bool) → not (a or b) ≡ (not a and not b)
unfolding ◌and◌ ◌or◌
neither true b = refl
neither false b = refl

no_clash : (xs ys : List Key) → not (any (clashes xs) ys) ≡ all (λ (k : Key). not (clashes ys k)) xs
unfolding any all clashes
no_clash [] ys = ap not (none_clash ys)
no_clash (x ∷ xs) ys =
    ap not (any_or (conflict x) (clashes xs) ys)
    ∙ neither (any (conflict x) ys) (any (clashes xs) ys)
    ∙ rw (one_clashes x ys, no_clash xs ys)

-- ---- two elements: names first, then keys

module _ (e d : Elem) where
  pub elem_name : (cover : Bool) → same e.name d.name ≡ false → elem_passes cover e d ≡ false
  unfolding meets agrees ◌and◌
  elem_name true n = rw n
  elem_name false n = rw n

  pub elem_keys : (cover : Bool) → same e.name d.name ≡ true → elem_passes cover e d ≡ all (key_passes cover [] d.keys) (given e.keys)
  unfolding meets agrees definite only holds any ◌and◌ ◌or◌
  elem_keys true n = rw n
  elem_keys false n = rw n (no_clash _ _)

  pub elem_keyless : (cover : Bool) → same e.name d.name ≡ true → e.keys ≡ [] → elem_passes cover e d ≡ true
  unfolding all only
  elem_keyless cover n z = elem_keys cover n ∙ rw z

module _ (s r p : Elem) where
  pub both_name : same s.name r.name ≡ false → meets_both s r p ≡ false
  unfolding meets_both ◌and◌
  both_name n = rw n

  pub both_keys : same s.name r.name ≡ true → meets_both s r p ≡ all (key_passes true r.keys p.keys) (given s.keys)
  unfolding meets_both definite ◌and◌
  both_keys n = rw n

-- ---- two paths in step

pub step_end : (cover : Bool) (ds : Path) → path_passes cover [] ds ≡ true
unfolding covers agree
step_end true ds = refl
step_end false ds = refl

module _ (p : Elem) (ps : Path) where
  pub step_out : (cover : Bool) → path_passes cover (p ∷ ps) [] ≡ not cover
  unfolding covers agree
  step_out true = refl
  step_out false = refl

  module _ (d : Elem) (ds : Path) where
    pub step_fail : (cover : Bool) → elem_passes cover p d ≡ false → path_passes cover (p ∷ ps) (d ∷ ds) ≡ false
    unfolding covers agree ◌and◌
    step_fail true e = rw e
    step_fail false e = rw e

    pub step_turn : (cover : Bool) → elem_passes cover p d ≡ true → path_passes cover (p ∷ ps) (d ∷ ds) ≡ path_passes cover ps ds
    unfolding covers agree ◌and◌
    step_turn true e = rw e
    step_turn false e = rw e

-- ---- a path against two in step

pub both_end : (rs ps : Path) → covers_both [] rs ps ≡ true
unfolding covers_both
both_end rs ps = refl

module _ (s : Elem) (ss : Path) where
  pub both_path : (ps : Path) → covers_both (s ∷ ss) [] ps ≡ covers (s ∷ ss) ps
  unfolding covers_both
  both_path ps = refl

  module _ (r : Elem) (rs : Path) where
    pub both_rule : covers_both (s ∷ ss) (r ∷ rs) [] ≡ covers (s ∷ ss) (r ∷ rs)
    unfolding covers_both
    both_rule = refl

    module _ (p : Elem) (ps : Path) where
      pub both_fail : meets_both s r p ≡ false → covers_both (s ∷ ss) (r ∷ rs) (p ∷ ps) ≡ false
      unfolding covers_both ◌and◌
      both_fail e = rw e

      pub both_turn : meets_both s r p ≡ true → covers_both (s ∷ ss) (r ∷ rs) (p ∷ ps) ≡ covers_both ss rs ps
      unfolding covers_both ◌and◌
      both_turn e = rw e
