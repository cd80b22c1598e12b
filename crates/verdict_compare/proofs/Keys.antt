-- One law for each way out of a walk over keys.
use mathlib.Core.Path.{◌≡◌, refl, sym, ap, ◌∙◌}
use mathlib.Core.Bool.{Bool, true, false, not, ◌||◌}
use mathlib.Core.List.{List, [], ◌∷◌}
use Prim.Native.Nat.{ℕ, ◌+◌, ◌-◌, ◌≤◌, ◌<◌}
use native.Mathlib.Omega.{arith}
use lib.Dec.{eqb}
use lib.ListN.{length, get_or}
use lib.Seq.{drop-cons}
use Rattle.text.specs.Test.{◌and◌, ◌or◌, whether◌then◌else◌, all, any, only}
use Rattle.text.specs.String.{Str, bytes, same}
use Rattle.text.proofs.Tests.{clash, by, and_r, same→≡}
use Rattle.text.proofs.Scans.{same_lengths}
use Rattle.path.specs.Path.{Key}
use Rattle.verdict.specs.Cover.{wild, given, same_key, holds}
use Rattle.verdict.specs.Join.{conflict, clashes}
use Rattle.table_place.specs.Place.{str_end, str_in, key_end, key_in, keys_in}
use Rattle.table_place.proofs.Cursor.{length_str, keys_cons, keys_nil}
use Rattle.verdict_compare.specs.Compare.{answers, key_passes}

-- ---- the value `*`

module _ (f : List ℕ) (p : ℕ) (h : str_end f p ≤ length f) where
  pub star_other : (get_or f p 0 ≡ 1 → ⊥) → same (str_in f p) (bytes "*") ≡ false
  star_other n = same_lengths _ _ (λ e. n (sym (length_str f p h) ∙ e))

  str_one : get_or f p 0 ≡ 1 → str_in f p ≡ get_or f (p + 1) 0 ∷ []
  unfolding str_in str_end
  str_one e =
      let a : p + 1 < length f = omega arith in
      let b : (p + 1 + get_or f p 0) - (p + 1) ≡ 1 = omega arith in
      rw (b, drop-cons f (p + 1) 0 a)

  and_true : (t : Bool) → (t and true) ≡ t
  unfolding ◌and◌
  and_true true = refl
  and_true false = refl

  pub star_one : get_or f p 0 ≡ 1 → same (str_in f p) (bytes "*") ≡ eqb (get_or f (p + 1) 0) 42
  unfolding same
  star_one e = rw (str_one e) (and_true (eqb (get_or f (p + 1) 0) 42))

-- ---- one of the keys

module _ (t : Key → Bool) (k : Key) (ks : List Key) where
  pub any_hit : t k ≡ true → any t (k ∷ ks) ≡ true
  unfolding any ◌or◌
  any_hit e = rw e

  pub any_miss : t k ≡ false → any t (k ∷ ks) ≡ any t ks
  unfolding any ◌or◌
  any_miss e = rw e

-- a definite key is one of the keys, or of the definite ones
not_wild : (j k : Key) → wild k ≡ false → wild j ≡ true → same_key j k ≡ false
unfolding wild
not_wild j k u v =
    by (same_key j k)
    (λ e. let i : j.value ≡ k.value = same→≡ _ _ (and_r _ _ e) in clash (sym (ap (λ (s : Str). same s (bytes "*")) i) ∙ v) u)
    (λ e. e)

pub holds_given : (ks : List Key) (k : Key) → wild k ≡ false → holds (given ks) k ≡ holds ks k
unfolding holds any only whether◌then◌else◌ ◌or◌
holds_given [] k u = refl
holds_given (j ∷ ks) k u =
    by (wild j) (λ e. rw (e, not_wild j k u e) (holds_given ks k u)) (λ e. rw e (ap (λ (b : Bool). same_key j k or b) (holds_given ks k u)))

-- a key that clashes with a definite one is in conflict with one that is definite
clashes_given : (ks : List Key) (k : Key) → clashes (given ks) k ≡ any (λ (j : Key). answers false j k) ks
unfolding clashes any only whether◌then◌else◌ ◌and◌ ◌or◌
clashes_given [] k = refl
clashes_given (j ∷ ks) k = by (wild j) (λ e. rw e (clashes_given ks k)) (λ e. rw e (ap (λ (b : Bool). conflict j k or b) (clashes_given ks k)))

-- ---- each definite one

all_given : (t : Key → Bool) (j : Key) (ks : List Key) → all t (given (j ∷ ks)) ≡ ((wild j or t j) and all t (given ks))
unfolding all only whether◌then◌else◌ ◌and◌ ◌or◌
all_given t j ks = by (wild j) (λ e. rw e) (λ e. rw e)

module _ (t : Key → Bool) (k : Key) (ks : List Key) where
  pub all_pass : (wild k or t k) ≡ true → all t (given (k ∷ ks)) ≡ all t (given ks)
  unfolding ◌and◌
  all_pass e = rw (all_given t k ks, e)

  pub all_fail : (wild k or t k) ≡ false → all t (given (k ∷ ks)) ≡ false
  unfolding ◌and◌
  all_fail e = rw (all_given t k ks, e)

-- ---- one key against the others

pub wild_in : (f : List ℕ) (s a : ℕ) (b : Bool) → a ≡ str_end f s → b ≡ same (str_in f a) (bytes "*") → wild (key_in f s) ≡ b
unfolding wild key_in
wild_in f s a b i e = rw (← i) (sym e)

module _ (rs ps : List Key) (k : Key) (w : wild k ≡ false) where
  pub pass_first : (cover : Bool) → holds rs k ≡ true → (wild k or key_passes cover rs ps k) ≡ true
  unfolding ◌or◌
  pass_first true e = rw (w, holds_given rs k w ∙ e)
  pass_first false e = rw (w, holds_given rs k w ∙ e)

  module _ (cover : Bool) (e : holds rs k ≡ false) where
    pub pass_cover : cover ≡ true → (wild k or key_passes cover rs ps k) ≡ holds ps k
    unfolding ◌or◌
    pass_cover y = rw (w, y, holds_given rs k w ∙ e) (holds_given ps k w)

    pub pass_agree : cover ≡ false → (wild k or key_passes cover rs ps k) ≡ not (any (λ (j : Key). answers false j k) ps)
    unfolding ◌or◌
    pass_agree y = rw (w, y, holds_given rs k w ∙ e) (ap not (clashes_given ps k))

-- ---- two keys: names first, then values

module _ (g : List ℕ) (q : ℕ) (f : List ℕ) (p : ℕ) where
  pub answers_name : (cover : Bool) → same (str_in g q) (str_in f p) ≡ false → answers cover (key_in g q) (key_in f p) ≡ false
  unfolding conflict key_in ◌and◌
  answers_name true e = rw e
  answers_name false e = by (wild (key_in g q)) (λ w. rw w) (λ w. rw (w, e))

  module _ (e : same (str_in g q) (str_in f p) ≡ true) (b a : ℕ) (i : b ≡ str_end g q) (j : a ≡ str_end f p) where
    pub answers_value : (cover : Bool) → same (str_in g b) (str_in f a) ≡ true → answers cover (key_in g q) (key_in f p) ≡ cover
    unfolding conflict key_in ◌and◌
    answers_value true v = rw (e, ← i, ← j, v)
    answers_value false v = by (wild (key_in g q)) (λ w. rw w) (λ w. rw (w, e, ← i, ← j, v))

    pub answers_other : (cover : Bool) → same (str_in g b) (str_in f a) ≡ false → (s : Bool) → s ≡ same (str_in g b) (bytes "*")
        → answers cover (key_in g q) (key_in f p) ≡ not (cover || s)
    unfolding conflict key_in ◌and◌
    answers_other true v s y = rw (e, ← i, ← j, v)
    answers_other false v s y =
        by s
        (λ w. rw (wild_in g q b s i y ∙ w, w))
        (λ w. rw (wild_in g q b s i y ∙ w, w, e, ← i, ← j, v))
