-- Positions of names, one more at a time: the users whom rules name, and the names that are gathered.
use mathlib.Core.Path.{◌≡◌, refl, sym, ap, ◌∙◌}
use mathlib.Core.Bool.{Bool, true, false, not}
use mathlib.Core.List.{List, [], ◌∷◌, ◌++◌, append_assoc, append-nil}
use Prim.Native.Nat.{ℕ, suc, ◌+◌, ◌-◌, ◌≤◌, ◌<◌}
use native.Mathlib.Numerals.{add-one}
use native.Mathlib.Omega.{arith}
use borrow.Author.Tests.{eqb-true, eqb-false, eq-eqb, ne_eqb, lt-ltb, le-ltb, not-true, not-false}
use lib.Dec.{eqb}
use lib.ListN.{length, get_or, set, length-set}
use Rattle.text.specs.Test.{◌and◌, whether◌then◌else◌, any, only}
use Rattle.text.specs.String.{Str, same}
use Rattle.text.specs.Frame.{part}
use Rattle.text.proofs.Tests.{by, and_l, and_r, and_false, and_first}
use Rattle.table.specs.Layout.{rule_subject_kind, rule_subject}
use Rattle.table_place.specs.Place.{str_end, str_in}
use Rattle.table_rows.specs.Strings.{rows_of, strings_in, Laid, place}
use Rattle.table_rows.specs.Rules.{id_at}
use Rattle.table_rows.proofs.Grow.{strings_length, strings_grow, laid_grow, place_any, place_le}
use Rattle.cli_names.specs.Names.{alike, gather}
use Rattle.table_facts.specs.Facts.{Identified}
use Rattle.table_facts.proofs.Names.{id_inside}
use Rattle.cli_names.specs.Positions.{subjects_in, Pushed, Stand, Gathered}

-- ---- one position more

module _ (f places : List ℕ) (m v : ℕ) (laid : Laid f places m) (long : m < length places) where
  pub push_strings : strings_in f (set places m v) (m + 1) 0 ≡ strings_in f places m 0 ++ (str_in f v ∷ [])
  push_strings = rw (append-nil f) at (strings_grow f [] places m v laid long (str_in f v) (ap (λ (g : List ℕ). str_in g v) (append-nil f)))

  pub push_laid : str_end f v ≤ length f → Laid f (set places m v) (m + 1)
  push_laid e = rw (append-nil f) at (laid_grow f [] places m v laid long (rw (append-nil f) e))

module _ (test : Bool) (places : List ℕ) (m at : ℕ) (places' : List ℕ) (r : ℕ) (P : Pushed test places m at places' r) where
  pub pushed : test ≡ true → (r ≡ m + 1) × (places' ≡ set places m at)
  unfolding whether◌then◌else◌
  pushed e = (P.count ∙ rw e, P.same ∙ rw e)

  pub not_pushed : test ≡ false → (r ≡ m) × (places' ≡ places)
  unfolding whether◌then◌else◌
  not_pushed e = (P.count ∙ rw e, P.same ∙ rw e)

pub strings_next : (f starts : List ℕ) (n i : ℕ) → i < n → strings_in f starts (n - i) i ≡ str_in f (get_or starts i 0) ∷ strings_in f starts (n - (i + 1)) (i + 1)
unfolding strings_in rows_of
strings_next f starts n i h = let e : n - i ≡ suc (n - (i + 1)) = omega arith in rw (e, add-one)

-- ---- the users whom rules name

module _ (f starts : List ℕ) (n : ℕ) (I : Identified f starts n) (i : ℕ) (h : i < n) where
  pub subject_laid : str_end f (get_or starts i 0 + rule_subject) ≤ length f
  unfolding id_at
  subject_laid = id_inside f (get_or starts i 0) (I.laid i h)

  pub subject_room : get_or starts i 0 + rule_subject < length f
  unfolding str_end
  subject_room = omega (arith, subject_laid)

-- m of them are found among the first i rules
pub record Finding (f starts : List ℕ) (n : ℕ) (places₀ places : List ℕ) (m i : ℕ) : Type 0 where
  pub within : i ≤ n
  pub few : m ≤ i
  pub laid : Laid f places m
  pub are : strings_in f places m 0 ++ subjects_in f starts (n - i) i ≡ subjects_in f starts n 0
  pub long : length places ≡ length places₀

module _ (f starts : List ℕ) (n : ℕ) (places₀ : List ℕ) where
  pub finding_start : Finding f starts n places₀ places₀ 0 0
  unfolding strings_in rows_of
  finding_start = record {
    within = omega arith;
    few = omega arith;
    laid = λ j h. absurd (omega arith);
    are = let e : n - 0 ≡ n = omega arith in rw e;
    long = refl;
  }

  module _ (places : List ℕ) (m i : ℕ) (F : Finding f starts n places₀ places m i) where
    finding_skip : i < n → get_or f (get_or starts i 0 + rule_subject_kind) 0 ≡ 1 → Finding f starts n places₀ places m (i + 1)
    unfolding subjects_in whether◌then◌else◌
    finding_skip h k = record {
      within = omega arith;
      few = omega (arith, F.few);
      laid = F.laid;
      are =
          let e : n - i ≡ suc (n - (i + 1)) = omega arith in
          let d : subjects_in f starts (n - i) i ≡ subjects_in f starts (n - (i + 1)) (i + 1) = rw (e, eq-eqb _ _ k, add-one) in
          ap (λ (l : List Str). strings_in f places m 0 ++ l) (sym d) ∙ F.are;
      long = F.long;
    }

    finding_take : i < n → (get_or f (get_or starts i 0 + rule_subject_kind) 0 ≡ 1 → ⊥) → n ≤ length places₀ → (v : ℕ) → v ≡ get_or starts i 0 + rule_subject → str_end f v ≤ length f
        → Finding f starts n places₀ (set places m v) (m + 1) (i + 1)
    unfolding subjects_in whether◌then◌else◌
    finding_take h k room v is fits =
        let r : m < length places = omega (arith, F.few, F.long) in
        record {
          within = omega arith;
          few = omega (arith, F.few);
          laid = push_laid f places m v F.laid r fits;
          are =
              let e : n - i ≡ suc (n - (i + 1)) = omega arith in
              let d : subjects_in f starts (n - i) i ≡ str_in f v ∷ subjects_in f starts (n - (i + 1)) (i + 1) = rw (e, ne_eqb _ _ k, add-one, is) in
              ap (λ (l : List Str). l ++ subjects_in f starts (n - (i + 1)) (i + 1)) (push_strings f places m v F.laid r)
              ∙ append_assoc (strings_in f places m 0) (str_in f v ∷ []) (subjects_in f starts (n - (i + 1)) (i + 1))
              ∙ ap (λ (l : List Str). strings_in f places m 0 ++ l) (sym d) ∙ F.are;
          long = length-set places m v ∙ F.long;
        }

    pub finding_turn : i < n → n ≤ length places₀ → (test : Bool) → test ≡ not (eqb (get_or f (get_or starts i 0 + rule_subject_kind) 0) 1) → (v : ℕ) → v ≡ get_or starts i 0 + rule_subject
        → str_end f v ≤ length f → (places' : List ℕ) (m' : ℕ) → Pushed test places m v places' m' → Finding f starts n places₀ places' m' (i + 1)
    finding_turn h room test t v is fits places' m' P =
        by test
        (λ e. let q = pushed test places m v places' m' P e in rw (q.0, q.1) (finding_take h (eqb-false _ _ (not-true _ (sym t ∙ e))) room v is fits))
        (λ e. let q = not_pushed test places m v places' m' P e in rw (q.0, q.1) (finding_skip h (eqb-true _ _ (not-false _ (sym t ∙ e)))))

    pub finding_done : n ≤ i → Stand f places m (subjects_in f starts n 0)
    unfolding subjects_in
    finding_done h = record {
      laid = F.laid;
      are = let e : n - i ≡ 0 = omega arith in sym (append-nil (strings_in f places m 0)) ∙ rw e at F.are;
    }

-- ---- a name that is to be gathered: it stands at `at`, and ends at e

pub name_part : (f : List ℕ) (at e : ℕ) → e ≡ str_end f at → part f (at + 1) e ≡ str_in f at
unfolding str_in
name_part f at e i = rw i

module _ (f : List ℕ) (at e : ℕ) (ends : e ≡ str_end f at) (user : Str) (kept : List ℕ) (m : ℕ) (t : Bool) (is : t ≡ alike user (part f (at + 1) e)) where
  abbrev wanted : Bool
  wanted = alike user (str_in f at) and not (any (same (str_in f at)) (strings_in f kept m 0))

  told_alike : alike user (str_in f at) ≡ t
  told_alike = ap (alike user) (sym (name_part f at e ends)) ∙ sym is

  pub other_name : t ≡ false → false ≡ wanted
  other_name h = sym (and_first _ _ (told_alike ∙ h))

  pub first_name_lem : t ≡ true → (r : ℕ) → r ≡ place (part f (at + 1) e) (strings_in f kept m 0) → eqb r m ≡ wanted
  unfolding ◌and◌
  first_name_lem h r p =
      let l = strings_length f kept m in
      let q : r ≡ place (str_in f at) (strings_in f kept m 0) = p ∙ ap (λ (s : Str). place s (strings_in f kept m 0)) (name_part f at e ends) in
      let b : r ≤ m = omega (arith, place_le (str_in f at) (strings_in f kept m 0), l) in
      rw (told_alike ∙ h, place_any (str_in f at) (strings_in f kept m 0), l, ← q)
      (by (eqb r m)
      (λ u. rw (u, le-ltb r m (omega (arith, eqb-true r m u))))
      (λ u. rw (u, lt-ltb r m (let n : r ≡ m → ⊥ = eqb-false r m u in omega arith))))

-- ---- the names, one after another

module _ (user s : Str) (ss names : List Str) where
  pub gather_other : alike user s ≡ false → gather names (only (alike user) (s ∷ ss)) ≡ gather names (only (alike user) ss)
  unfolding gather only whether◌then◌else◌
  gather_other t = rw t

  gather_step : alike user s ≡ true → gather names (only (alike user) (s ∷ ss)) ≡ gather (whether any (same s) names then names else names ++ (s ∷ [])) (only (alike user) ss)
  unfolding gather only whether◌then◌else◌
  gather_step t = rw t

  pub gather_seen : alike user s ≡ true → any (same s) names ≡ true → gather names (only (alike user) (s ∷ ss)) ≡ gather names (only (alike user) ss)
  unfolding whether◌then◌else◌
  gather_seen t u =
      let e : (whether any (same s) names then names else names ++ (s ∷ [])) ≡ names = rw u in
      gather_step t ∙ ap (λ (l : List Str). gather l (only (alike user) ss)) e

  pub gather_new : alike user s ≡ true → any (same s) names ≡ false → gather names (only (alike user) (s ∷ ss)) ≡ gather (names ++ (s ∷ [])) (only (alike user) ss)
  unfolding whether◌then◌else◌
  gather_new t u =
      let e : (whether any (same s) names then names else names ++ (s ∷ [])) ≡ names ++ (s ∷ []) = rw u in
      gather_step t ∙ ap (λ (l : List Str). gather l (only (alike user) ss)) e

-- `count` names are kept, and the names from i on are left
pub record Gathering (f starts : List ℕ) (n : ℕ) (user : Str) (kept₀ : List ℕ) (m : ℕ) (kept : List ℕ) (count i : ℕ) : Type 0 where
  pub within : i ≤ n
  pub few : count ≤ m + i
  pub laid : Laid f kept count
  pub are : gather (strings_in f kept count 0) (only (alike user) (strings_in f starts (n - i) i))
      ≡ gather (strings_in f kept₀ m 0) (only (alike user) (strings_in f starts n 0))
  pub long : length kept ≡ length kept₀

module _ (f starts : List ℕ) (n : ℕ) (user : Str) (kept₀ : List ℕ) (m : ℕ) where
  pub gathering_start : Laid f kept₀ m → Gathering f starts n user kept₀ m kept₀ m 0
  gathering_start l = record {
    within = omega arith;
    few = omega arith;
    laid = l;
    are = let e : n - 0 ≡ n = omega arith in rw e;
    long = refl;
  }

  module _ (kept : List ℕ) (count i : ℕ) (G : Gathering f starts n user kept₀ m kept count i) where
    abbrev name : Str
    name = str_in f (get_or starts i 0)

    abbrev so_far : List Str
    so_far = strings_in f kept count 0

    abbrev left : List Str
    left = strings_in f starts (n - (i + 1)) (i + 1)

    skipped : i < n → (alike user name and not (any (same name) so_far)) ≡ false
        → gather so_far (only (alike user) (strings_in f starts (n - i) i)) ≡ gather so_far (only (alike user) left)
    skipped h e =
        rw (strings_next f starts n i h)
        (by (alike user name)
        (λ t. gather_seen user name left so_far t (not-false (any (same name) so_far) (and_false (alike user name) _ t e)))
        (λ t. gather_other user name left so_far t))

    taken : i < n → (alike user name and not (any (same name) so_far)) ≡ true
        → gather so_far (only (alike user) (strings_in f starts (n - i) i)) ≡ gather (so_far ++ (name ∷ [])) (only (alike user) left)
    taken h e =
        rw (strings_next f starts n i h)
        (gather_new user name left so_far (and_l (alike user name) _ e) (not-true (any (same name) so_far) (and_r (alike user name) _ e)))

    gathering_skip : i < n → (alike user name and not (any (same name) so_far)) ≡ false → Gathering f starts n user kept₀ m kept count (i + 1)
    gathering_skip h e = record {
      within = omega arith;
      few = omega (arith, G.few);
      laid = G.laid;
      are = sym (skipped h e) ∙ G.are;
      long = G.long;
    }

    gathering_take : i < n → (alike user name and not (any (same name) so_far)) ≡ true → m + n ≤ length kept₀ → str_end f (get_or starts i 0) ≤ length f
        → Gathering f starts n user kept₀ m (set kept count (get_or starts i 0)) (count + 1) (i + 1)
    gathering_take h e room fits =
        let r : count < length kept = omega (arith, G.few, G.long) in
        record {
          within = omega arith;
          few = omega (arith, G.few);
          laid = push_laid f kept count (get_or starts i 0) G.laid r fits;
          are = rw (push_strings f kept count (get_or starts i 0) G.laid r) (sym (taken h e) ∙ G.are);
          long = length-set kept count (get_or starts i 0) ∙ G.long;
        }

    pub gathering_turn : i < n → m + n ≤ length kept₀ → str_end f (get_or starts i 0) ≤ length f → (test : Bool) → test ≡ (alike user name and not (any (same name) so_far))
        → (kept' : List ℕ) (count' : ℕ) → Pushed test kept count (get_or starts i 0) kept' count' → Gathering f starts n user kept₀ m kept' count' (i + 1)
    gathering_turn h room fits test t kept' count' P =
        by test
        (λ e. let q = pushed test kept count (get_or starts i 0) kept' count' P e in rw (q.0, q.1) (gathering_take h (sym t ∙ e) room fits))
        (λ e. let q = not_pushed test kept count (get_or starts i 0) kept' count' P e in rw (q.0, q.1) (gathering_skip h (sym t ∙ e)))

    pub gathering_done : n ≤ i → Gathered f starts n user kept₀ m kept count
    unfolding gather only strings_in rows_of
    gathering_done h = record {
      stand = record { laid = G.laid; are = let e : n - i ≡ 0 = omega arith in rw e at G.are };
      count = omega (arith, G.few);
      long = G.long;
    }
