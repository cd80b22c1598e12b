-- The values of keys, read by position.
use Prim.Native.Nat.{ℕ, ◌+◌, ◌-◌, ◌≤◌, ◌<◌}
use native.Mathlib.Omega.{arith}
use mathlib.Core.Path.{◌≡◌, refl, sym, ap, ◌∙◌, subst}
use mathlib.Core.Bool.{true, false, not}
use mathlib.Core.Logic.{◌⊎◌, inl, inr}
use mathlib.Core.List.Memᴰ
use mathlib.Core.List.{List, ◌∷◌, ◌++◌}
use lib.ListN.{length, get_or}
use Rattle.text.specs.Test.{◌∈◌, only, whether◌then◌else◌}
use Rattle.text.specs.String.{Str, bytes, same}
use Rattle.text.proofs.Tests.{by}
use Rattle.path.specs.Path.{Key, Elem, Path}
use Rattle.verdict.specs.Cover.{wild, given, definite}
use Rattle.table_place.specs.Place.{str_end, str_in, key_end, key_in, keys_in, keys_end, elem_in, elem_end, elems_in, path_in}
use Rattle.table_place.proofs.Cursor.{keys_cons, keys_room, elems_cons}
use Rattle.verdict_compare.proofs.Keys.{wild_in}
use Rattle.rule_index.specs.Clue.{values_of, values_given, values, rule_clues}
use Rattle.rule_index.proofs.Clues.{in_left, in_right}

-- ---- the definite ones of some keys

module _ (k : Key) (ks : List Key) where
  given_wild : wild k ≡ true → given (k ∷ ks) ≡ given ks
  unfolding only whether◌then◌else◌ not
  given_wild e = rw e

  given_definite : wild k ≡ false → given (k ∷ ks) ≡ k ∷ given ks
  unfolding only whether◌then◌else◌ not
  given_definite e = rw e

module _ (f : List ℕ) (left q : ℕ) (some' : 0 < left) where
  pub values_pass : wild (key_in f q) ≡ true → (b : ℕ) → b ≡ key_end f q → values_of (given (keys_in left f q)) ≡ values_of (given (keys_in (left - 1) f b))
  values_pass w b e =
      ap (λ (ks : List Key). values_of (given ks)) (keys_cons f left q some') ∙ ap values_of (given_wild (key_in f q) _ w)
      ∙ ap (λ (a : ℕ). values_of (given (keys_in (left - 1) f a))) (sym e)

  pub values_hit : wild (key_in f q) ≡ false → str_in f (str_end f q) ∈ values_of (given (keys_in left f q))
  unfolding values_of key_in
  values_hit w =
      subst (λ (vs : List Str). str_in f (str_end f q) ∈ vs)
      (sym (ap (λ (ks : List Key). values_of (given ks)) (keys_cons f left q some') ∙ ap values_of (given_definite (key_in f q) _ w))) (Memᴰ.head refl)

  -- those from the next key on are among them
  pub values_rest : (b : ℕ) → b ≡ key_end f q → (s : Str) → s ∈ values_of (given (keys_in (left - 1) f b)) → s ∈ values_of (given (keys_in left f q))
  unfolding values_of
  values_rest b e s m =
      by (wild (key_in f q))
      (λ w. subst (λ (vs : List Str). s ∈ vs) (sym (values_pass w b e)) m)
      (λ w. subst (λ (vs : List Str). s ∈ vs)
      (sym (ap (λ (ks : List Key). values_of (given ks)) (keys_cons f left q some') ∙ ap values_of (given_definite (key_in f q) _ w)))
      (Memᴰ.tail (subst (λ (a : ℕ). s ∈ values_of (given (keys_in (left - 1) f a))) e m)))

  -- all of them
  pub values_key : (b : ℕ) → b ≡ key_end f q → values_of (keys_in left f q) ≡ str_in f (str_end f q) ∷ values_of (keys_in (left - 1) f b)
  unfolding values_of key_in
  values_key b e = ap values_of (keys_cons f left q some') ∙ ap (λ (a : ℕ). str_in f (str_end f q) ∷ values_of (keys_in (left - 1) f a)) (sym e)

-- a position that was chosen: the one before, or that of one of the strings
abbrev pub Chosen : List ℕ → List Str → ℕ → ℕ → Type 0
Chosen f rs before at = (at ≡ before) ⊎ ((str_end f at ≤ length f) × (str_in f at ∈ rs))

pub chosen_next : (f : List ℕ) (left q : ℕ) → 0 < left → keys_end left f q ≤ length f → (rs : List Str)
    → ((s : Str) → s ∈ values_of (given (keys_in left f q)) → s ∈ rs) → (v : ℕ) → v ≡ str_end f q → (before at next : ℕ) → Chosen f rs before at
    → (next ≡ at) ⊎ ((next ≡ v) × (same (str_in f v) (bytes "*") ≡ false)) → Chosen f rs before next
chosen_next f left q l room rs all v e before at next h (inl i) = rw i h
chosen_next f left q l room rs all v e before at next h (inr i) =
    rw (i.0, e)
    (inr ((keys_room f left q l room).1, all _ (values_hit f left q l (wild_in f q v _ e refl ∙ i.1))))

-- ---- the definite ones of some elements

module _ (f : List ℕ) (left q : ℕ) (some' : 0 < left) where
  given_elems : (b : ℕ) → b ≡ elem_end f q
      → values_given (elems_in left f q) ≡ values_of (given (keys_in (get_or f (str_end f q) 0) f (str_end f q + 1))) ++ values_given (elems_in (left - 1) f b)
  unfolding values_given definite elem_in
  given_elems b e =
      ap values_given (elems_cons f left q some')
      ∙ ap (λ (a : ℕ). values_of (given (keys_in (get_or f (str_end f q) 0) f (str_end f q + 1))) ++ values_given (elems_in (left - 1) f a)) (sym e)

  pub values_elem : (a b : ℕ) → a ≡ str_end f q → b ≡ elem_end f q
      → values (elems_in left f q) ≡ values_of (keys_in (get_or f a 0) f (a + 1)) ++ values (elems_in (left - 1) f b)
  unfolding values elem_in
  values_elem a b e h = ap values (elems_cons f left q some') ∙ rw (e, h)

  module _ (rs : List Str) (all : (c : Str) → c ∈ values_given (elems_in left f q) → c ∈ rs) where
    pub clues_left : (b : ℕ) → b ≡ elem_end f q → (c : Str) → c ∈ values_given (elems_in (left - 1) f b) → c ∈ rs
    clues_left b e c m = all c (subst (λ (vs : List Str). c ∈ vs) (sym (given_elems b e)) (in_right (values_of (given (keys_in (get_or f (str_end f q) 0) f (str_end f q + 1)))) m))

    pub clue_next : (clue r a : ℕ) → a ≡ str_end f q → (str_end f clue ≤ length f) × (str_in f clue ∈ rs)
        → Chosen f (values_of (given (keys_in (get_or f a 0) f (a + 1)))) clue r → (str_end f r ≤ length f) × (str_in f r ∈ rs)
    clue_next clue r a e h (inl i) = rw i h
    clue_next clue r a e h (inr i) =
        (i.0, all (str_in f r) (subst (λ (vs : List Str). str_in f r ∈ vs) (sym (given_elems _ refl)) (in_left (values_given (elems_in (left - 1) f (elem_end f q))) (rw e at i.1))))

-- ---- the clues of a path

module _ (f : List ℕ) (at : ℕ) where
  pub clue_root : get_or f at 0 ≡ 0 → (str_end f at ≤ at + 1) × (str_in f at ∈ rule_clues (path_in f at))
  unfolding str_in str_end elems_in rule_clues
  clue_root e = let z : at + 1 + 0 - (at + 1) ≡ 0 = omega arith in rw (e, z) (omega arith, Memᴰ.head refl)

  pub clue_name : 0 < get_or f at 0 → str_in f (at + 1) ∈ rule_clues (path_in f at)
  unfolding rule_clues elem_in
  clue_name l = subst (λ (p : Path). str_in f (at + 1) ∈ rule_clues p) (sym (elems_cons f _ (at + 1) l)) (Memᴰ.head refl)

  given_clue : (c : Str) (e : Elem) (es : Path) → c ∈ values_given (e ∷ es) → c ∈ rule_clues (e ∷ es)
  unfolding rule_clues
  given_clue c e es h = Memᴰ.tail h

  pub clue_given : 0 < get_or f at 0 → (c : Str) → c ∈ values_given (path_in f at) → c ∈ rule_clues (path_in f at)
  clue_given l c m =
      subst (λ (p : Path). c ∈ rule_clues p) (sym (elems_cons f _ (at + 1) l))
      (given_clue c _ _ (subst (λ (p : Path). c ∈ values_given p) (elems_cons f _ (at + 1) l) m))
