-- A set that is empty, one whose text goes on, and one string more.
use mathlib.Core.Path.{◌≡◌, refl, sym, ap, ap₂, ◌∙◌}
use mathlib.Core.Bool.{Bool, true, false}
use mathlib.Core.List.{List, [], ◌∷◌, ◌++◌}
use Prim.Native.Nat.{ℕ, zero, suc, ◌+◌, ◌≤◌, ◌<◌}
use native.Mathlib.Omega.{arith}
use borrow.Author.Tests.{eqb-true, eqb-false, eq-eqb, ne_eqb}
use lib.Dec.{eqb}
use lib.ListN.{length, get_or, set, replicate, length-append, length-set}
use lib.Seq.{get_or-set_same, get_or-set_other}
use Rattle.text.specs.Test.{◌or◌, whether◌then◌else◌, any}
use Rattle.text.specs.String.{Str, same}
use Rattle.text.proofs.Tests.{by, clash, same→≡, or_l, or_assoc, none_or}
use Rattle.text_sorted.specs.Spans.{span_in, Inside, strings_of, Sought, inserted}
use Rattle.text_sorted.specs.declared.Found.{Found}
use Rattle.text_sorted.proofs.Strings.{span_longer, strings_longer, sorted_longer, sought_longer, strings_alike, sorted_alike}
use Rattle.text_sorted.proofs.Inserting.{gap_beyond, gap_long}
use Rattle.text_sorted.proofs.Growing.{none, none_there, grows_sorted, grows_any}
use Rattle.text_set.specs.Set.{among, Ready, Met, added, Holds}

-- ---- what stands at a place

module _ (f keys : List ℕ) (room p : ℕ) (x : Str) where
  pub among_empty : get_or keys p 0 ≡ 0 → among f keys room p x ≡ false
  unfolding among whether◌then◌else◌
  among_empty e = rw (eq-eqb _ _ e)

  pub among_taken : (get_or keys p 0 ≡ 0 → ⊥) → among f keys room p x ≡ (same x (span_in f (get_or keys p 0)) or any (same x) (strings_of f keys (get_or keys room 0)))
  unfolding among whether◌then◌else◌
  among_taken e = rw (ne_eqb _ _ e)

-- ---- nothing is kept

-- an array of which nothing is stored
pub zeros : (n p : ℕ) → get_or (replicate {A = ℕ} n 0) p 0 ≡ 0
zeros zero p = refl
zeros (suc n) zero = refl
zeros (suc n) (suc p) = zeros n p

pub holds_none : (h : Str → ℕ) (f keys : List ℕ) (room : ℕ) → ((p : ℕ) → get_or keys p 0 ≡ 0) → Holds h f keys room []
unfolding any
holds_none h f keys room z = record {
  ready = record { sorted = rw (z room) (none f keys); within = λ p l. rw (z p) (omega arith, omega arith) };
  few = rw (z room) (omega arith);
  told = λ y. sym (among_empty f keys room (h y) y (z (h y)));
  free = λ y e. rw (z room) (none_there f keys y);
}

-- ---- the text goes on

module _ (f g keys : List ℕ) (room : ℕ) (r : Ready f keys room) where
  ready_longer : Ready (f ++ g) keys room
  ready_longer = record {
    sorted = sorted_longer f g keys (get_or keys room 0) r.sorted;
    within = λ p l. let w = r.within p l in (w.0, omega (arith, w.1, length-append f g));
  }

  others_longer : strings_of (f ++ g) keys (get_or keys room 0) ≡ strings_of f keys (get_or keys room 0)
  others_longer = strings_longer f g keys (get_or keys room 0) r.sorted.within

  among_longer : (p : ℕ) (x : Str) → room < p → among (f ++ g) keys room p x ≡ among f keys room p x
  unfolding among
  among_longer p x l = rw (span_longer f g keys (get_or keys p 0) (r.within p l), others_longer)

  met_longer : (p : ℕ) (x : Str) (m : Found) → room < p → Met f keys room p x m → Met (f ++ g) keys room p x m
  met_longer p x m l t = record {
    told = t.told ∙ sym (among_longer p x l);
    fits = t.fits;
    placed = λ a b. sought_longer f g keys (get_or keys room 0) r.sorted x m (t.placed a b);
  }

module _ {h : Str → ℕ} {f keys : List ℕ} {room : ℕ} {xs : List Str} (g : List ℕ) (far : (y : Str) → room < h y) (H : Holds h f keys room xs) where
  pub holds_longer : Holds h (f ++ g) keys room xs
  holds_longer = record {
    ready = ready_longer f g keys room H.ready;
    few = H.few;
    told = λ y. H.told y ∙ sym (among_longer f g keys room H.ready (h y) y (far y));
    free = λ y e. ap (any (same y)) (others_longer f g keys room H.ready) ∙ H.free y e;
  }

-- ---- tests

-- the order of two
pub or_turn : (a b : Bool) → (a or b) ≡ (b or a)
unfolding ◌or◌
or_turn true true = refl
or_turn true false = refl
or_turn false true = refl
or_turn false false = refl

pub any_snoc : (y : Str) (xs : List Str) (x : Str) → any (same y) (xs ++ (x ∷ [])) ≡ (same y x or any (same y) xs)
unfolding any
any_snoc y [] x = refl
any_snoc y (z ∷ xs) x =
    ap (λ (t : Bool). same y z or t) (any_snoc y xs x)
    ∙ sym (or_assoc (same y z) (same y x) (any (same y) xs))
    ∙ ap (λ (t : Bool). t or any (same y) xs) (or_turn (same y z) (same y x))
    ∙ or_assoc (same y x) (same y z) (any (same y) xs)

pub or_front : (a s m : Bool) → (a or (s or m)) ≡ (s or (a or m))
or_front a s m = sym (or_assoc a s m) ∙ ap (λ (t : Bool). t or m) (or_turn a s) ∙ or_assoc s a m

-- a string with another place is another string
pub other : (h : Str → ℕ) (x y : Str) → (h y ≡ h x → ⊥) → same y x ≡ false
other h x y d = by (same y x) (λ t. absurd (d (ap h (same→≡ y x t)))) (λ t. t)

-- ---- one string more, in a text where it stands already

module _ (h : Str → ℕ) (f keys : List ℕ) (room : ℕ) (xs : List Str) (far : (y : Str) → (room < h y) × (h y < length keys)) (H : Holds h f keys room xs)
    (x : Str) (r : Found) (M : Met f keys room (h x) x r) (new : r.again ≡ false) (k : ℕ) (is : span_in f k ≡ x) (inside : Inside f k) (some : 0 < k)
    (room-left : length xs < room) where
  abbrev n : ℕ
  n = get_or keys room 0

  longer_list : length (xs ++ (x ∷ [])) ≡ length xs + 1
  longer_list = length-append xs (x ∷ [])

  -- its place is empty
  module _ (e : get_or keys (h x) 0 ≡ 0) where
    abbrev one : List ℕ
    one = set keys (h x) k

    one_here : get_or one (h x) 0 ≡ k
    one_here = get_or-set_same keys (h x) k 0 (far x).1

    one_else : (q : ℕ) → (q ≡ h x → ⊥) → get_or one q 0 ≡ get_or keys q 0
    one_else q d = get_or-set_other keys (h x) q k 0 d

    one_count : get_or one room 0 ≡ n
    one_count = one_else room (λ q. omega (arith, (far x).0))

    one_front : (q : ℕ) → q < n → get_or one q 0 ≡ get_or keys q 0
    one_front q l = one_else q (λ d. omega (arith, (far x).0, H.few))

    one_strings : strings_of f one (get_or one room 0) ≡ strings_of f keys n
    one_strings = ap (strings_of f one) one_count ∙ strings_alike f keys one n one_front

    same_place : (y : Str) → get_or one (h y) 0 ≡ get_or keys (h y) 0 → among f one room (h y) y ≡ among f keys room (h y) y
    unfolding among
    same_place y i = rw (i, one_strings)

    one_among : (y : Str) → among f one room (h y) y ≡ (same y x or any (same y) xs)
    one_among y =
        by (eqb (h y) (h x))
        (λ t.
        let i : h y ≡ h x = eqb-true _ _ t in
        let v : get_or one (h y) 0 ≡ k = ap (λ (q : ℕ). get_or one q 0) i ∙ one_here in
        let z : get_or keys (h y) 0 ≡ 0 = ap (λ (q : ℕ). get_or keys q 0) i ∙ e in
        let s : any (same y) (strings_of f one (get_or one room 0)) ≡ false = ap (any (same y)) one_strings ∙ H.free y z in
        let o : any (same y) xs ≡ false = H.told y ∙ among_empty f keys room (h y) y z in
        among_taken f one room (h y) y (λ q. omega arith)
        ∙ ap₂ ◌or◌ (ap (same y) (ap (span_in f) v ∙ is)) s
        ∙ ap (λ (b : Bool). same y x or b) (sym o))
        (λ t.
        let d : h y ≡ h x → ⊥ = eqb-false _ _ t in
        same_place y (one_else (h y) d) ∙ sym (H.told y) ∙ sym (none_or (any (same y) xs)) ∙ ap (λ (b : Bool). b or any (same y) xs) (sym (other h x y d)))

    one_holds : Holds h f one room (xs ++ (x ∷ []))
    one_holds = record {
      ready = record {
        sorted = rw one_count (sorted_alike f keys one n one_front (omega (arith, length-set keys (h x) k, H.ready.sorted.long)) H.ready.sorted);
        within = λ p l.
            by (eqb p (h x))
            (λ t. let i : p ≡ h x = eqb-true _ _ t in rw (i, one_here) inside)
            (λ t. rw (one_else p (eqb-false _ _ t)) (H.ready.within p l));
      };
      few = omega (arith, one_count, longer_list, H.few);
      told = λ y. any_snoc y xs x ∙ sym (one_among y);
      free = λ y z.
          by (eqb (h y) (h x))
          (λ t. let i : h y ≡ h x = eqb-true _ _ t in let v : get_or one (h y) 0 ≡ k = ap (λ (q : ℕ). get_or one q 0) i ∙ one_here in absurd (omega arith))
          (λ t. ap (any (same y)) one_strings ∙ H.free y (sym (one_else (h y) (eqb-false _ _ t)) ∙ z));
    }

  -- its place is taken
  module _ (e : get_or keys (h x) 0 ≡ 0 → ⊥) where
    abbrev gap : List ℕ
    gap = inserted keys n r.at k

    abbrev all : List ℕ
    all = set gap room (n + 1)

    S : Sought f keys n x r
    S = M.placed e new

    wide : n < length keys
    wide = omega (arith, (far x).0, (far x).1, H.few)

    gap_wide : length gap ≡ length keys
    gap_wide = gap_long keys n wide r.at k M.fits

    all_count : get_or all room 0 ≡ n + 1
    all_count = get_or-set_same gap room (n + 1) 0 (omega (arith, gap_wide, (far x).0, (far x).1))

    all_front : (q : ℕ) → q < n + 1 → get_or all q 0 ≡ get_or gap q 0
    all_front q l = get_or-set_other gap room q (n + 1) 0 (λ d. omega (arith, H.few))

    all_places : (p : ℕ) → room < p → get_or all p 0 ≡ get_or keys p 0
    all_places p l = get_or-set_other gap room p (n + 1) 0 (λ d. omega arith) ∙ gap_beyond keys n wide r.at k M.fits p (omega (arith, H.few))

    all_strings : (y : Str) → any (same y) (strings_of f all (get_or all room 0)) ≡ (same y x or any (same y) (strings_of f keys n))
    all_strings y =
        ap (λ (m : ℕ). any (same y) (strings_of f all m)) all_count
        ∙ ap (any (same y)) (strings_alike f gap all (n + 1) all_front)
        ∙ grows_any f keys n x r k H.ready.sorted S new is inside wide y

    -- its place is not that of a string whose place is empty
    apart : (y : Str) → get_or keys (h y) 0 ≡ 0 → same y x ≡ false
    apart y z = other h x y (λ i. e (ap (λ (q : ℕ). get_or keys q 0) (sym i) ∙ z))

    all_among : (y : Str) → among f all room (h y) y ≡ (same y x or any (same y) xs)
    all_among y =
        by (eqb (get_or keys (h y) 0) 0)
        (λ t.
        let z : get_or keys (h y) 0 ≡ 0 = eqb-true _ _ t in
        among_empty f all room (h y) y (all_places (h y) (far y).0 ∙ z)
        ∙ sym (among_empty f keys room (h y) y z) ∙ sym (H.told y) ∙ sym (none_or (any (same y) xs)) ∙ ap (λ (b : Bool). b or any (same y) xs) (sym (apart y z)))
        (λ t.
        let d : get_or keys (h y) 0 ≡ 0 → ⊥ = eqb-false _ _ t in
        let v : get_or all (h y) 0 ≡ get_or keys (h y) 0 = all_places (h y) (far y).0 in
        among_taken f all room (h y) y (λ q. d (sym v ∙ q))
        ∙ ap₂ ◌or◌ (ap (λ (m : ℕ). same y (span_in f m)) v) (all_strings y)
        ∙ or_front (same y (span_in f (get_or keys (h y) 0))) (same y x) (any (same y) (strings_of f keys n))
        ∙ ap (λ (b : Bool). same y x or b) (sym (H.told y ∙ among_taken f keys room (h y) y d)))

    all_holds : Holds h f all room (xs ++ (x ∷ []))
    all_holds = record {
      ready = record {
        sorted = rw all_count (sorted_alike f gap all (n + 1) all_front (omega (arith, length-set gap room (n + 1), gap_wide, wide)) (grows_sorted f keys n x r k H.ready.sorted S new is inside wide));
        within = λ p l. rw (all_places p l) (H.ready.within p l);
      };
      few = omega (arith, all_count, longer_list, H.few);
      told = λ y. any_snoc y xs x ∙ sym (all_among y);
      free = λ y z.
          let o : get_or keys (h y) 0 ≡ 0 = sym (all_places (h y) (far y).0) ∙ z in
          all_strings y ∙ ap₂ ◌or◌ (apart y o) (H.free y o) ∙ none_or false;
    }

  pub holds_added : Holds h f (added keys room (h x) r.at k) room (xs ++ (x ∷ []))
  unfolding added whether◌then◌else◌
  holds_added =
      by (eqb (get_or keys (h x) 0) 0)
      (λ t. rw t (one_holds (eqb-true _ _ t)))
      (λ t. rw t (all_holds (eqb-false _ _ t)))

-- ---- one string more, at the end of a text that goes on

module _ {h : Str → ℕ} {f keys : List ℕ} {room : ℕ} {xs : List Str} (g : List ℕ) (far : (y : Str) → (room < h y) × (h y < length keys)) (H : Holds h f keys room xs)
    (x : Str) (r : Found) (M : Met f keys room (h x) x r) (new : r.again ≡ false) (k : ℕ) (is : span_in (f ++ g) k ≡ x) (inside : Inside (f ++ g) k) (some : 0 < k)
    (room-left : length xs < room) where
  pub holds_grows : Holds h (f ++ g) (added keys room (h x) r.at k) room (xs ++ (x ∷ []))
  holds_grows =
      holds_added h (f ++ g) keys room xs far (holds_longer g (λ y. (far y).0) H) x r (met_longer f g keys room H.ready (h x) x r (far x).0 M) new k is inside some room-left

-- ---- what find has met

module _ (f keys : List ℕ) (room p : ℕ) (x : Str) where
  pub met_empty : get_or keys p 0 ≡ 0 → Met f keys room p x (record { at = 0; again = false })
  met_empty e = record { told = sym (among_empty f keys room p x e); fits = omega arith; placed = λ d n. absurd (d e) }

  module _ (d : get_or keys p 0 ≡ 0 → ⊥) (s : Bool) (is : s ≡ same x (span_in f (get_or keys p 0))) where
    pub met_first : s ≡ true → Met f keys room p x (record { at = 0; again = true })
    met_first t = record { told = sym (among_taken f keys room p x d ∙ or_l _ _ (sym is ∙ t)); fits = omega arith; placed = λ e n. clash refl n }

    pub met_sorted : s ≡ false → (r : Found) → Sought f keys (get_or keys room 0) x r → Met f keys room p x r
    unfolding ◌or◌
    met_sorted t r S = record {
      told = S.told ∙ sym (among_taken f keys room p x d ∙ rw (sym is ∙ t));
      fits = S.placed.fits;
      placed = λ e n. S;
    }

-- ---- what add leaves

module _ (keys : List ℕ) (room p at k : ℕ) where
  pub added_here : get_or keys p 0 ≡ 0 → set keys p k ≡ added keys room p at k
  unfolding added whether◌then◌else◌
  added_here e = rw (eq-eqb _ _ e)

  pub added_among : (get_or keys p 0 ≡ 0 → ⊥) → (keys' : List ℕ) → keys' ≡ inserted keys (get_or keys room 0) at k → set keys' room (get_or keys room 0 + 1) ≡ added keys room p at k
  unfolding added whether◌then◌else◌
  added_among d keys' e = rw (ne_eqb _ _ d, e)

  pub added_long : at ≤ get_or keys room 0 → get_or keys room 0 < length keys → length (added keys room p at k) ≡ length keys
  unfolding added whether◌then◌else◌
  added_long h l =
      by (eqb (get_or keys p 0) 0)
      (λ t. rw t (length-set keys p k))
      (λ t. rw t (length-set (inserted keys (get_or keys room 0) at k) room (get_or keys room 0 + 1) ∙ gap_long keys (get_or keys room 0) l at k h))
