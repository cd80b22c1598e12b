-- The names, added one after another; and how long the line is.
use mathlib.Core.Path.{◌≡◌, refl, ap, sym, ◌∙◌}
use mathlib.Core.Bool.{Bool, true, false}
use mathlib.Core.List.{List, [], ◌∷◌, ◌++◌, append-nil, append_assoc}
use Prim.Native.Nat.{ℕ, ◌+◌, ◌-◌, ◌*◌, ◌≤◌, ◌<◌}
use native.Mathlib.Omega.{arith}
use borrow.Author.Tests.{ne_eqb}
use lib.Dec.{eqb}
use lib.ListN.{length, get_or, length-append}
use Rattle.limits.specs.Limits.{max_string}
use Rattle.text.specs.Test.{whether◌then◌else◌, any, only}
use Rattle.text.specs.String.{Str, same}
use Rattle.text.proofs.Tests.{by}
use Rattle.table_place.specs.Place.{str_in}
use Rattle.table_rows.specs.Strings.{rows_of, strings_in}
use Rattle.cli_names.specs.Names.{alike, gather, lead_of, led, listed, grouping, sentence, max_users, max_line}
use Rattle.cli_names.proofs.Letters.{alike_long}
use Rattle.cli_names.proofs.Gathering.{strings_next, gather_other, gather_seen, gather_new}

-- ---- the names

-- those before number i were added to d
pub record Listing (f places : List ℕ) (n : ℕ) (d d' : List ℕ) (i : ℕ) : Type 0 where
  pub within : i ≤ n
  pub made : Str
  pub added : d' ≡ d ++ made
  pub same : listed true (strings_in f places n 0) ≡ made ++ listed (eqb i 0) (strings_in f places (n - i) i)

module _ (f places : List ℕ) (n : ℕ) (d : List ℕ) where
  pub listing_start : Listing f places n d d 0
  listing_start = record {
    within = omega arith;
    made = [];
    added = sym (append-nil d);
    same = let e : n - 0 ≡ n = omega arith in rw e;
  }

  module _ (d' : List ℕ) (i : ℕ) (L : Listing f places n d d' i) where
    abbrev name : Str
    name = str_in f (get_or places i 0)

    next : i < n → listed true (strings_in f places n 0) ≡ L.made ++ (led (eqb i 0) name ++ listed false (strings_in f places (n - (i + 1)) (i + 1)))
    unfolding listed
    next h = rw (strings_next f places n i h) at L.same

    pub listing_room : i < n → (m : ℕ) → length d + length (listed true (strings_in f places n 0)) ≤ m → length d' + length (led (eqb i 0) name) ≤ m
    listing_room h m r =
        let rest = listed false (strings_in f places (n - (i + 1)) (i + 1)) in
        omega (
          arith,
          r,
          ap length L.added,
          length-append d L.made,
          ap length (next h),
          length-append L.made (led (eqb i 0) name ++ rest),
          length-append (led (eqb i 0) name) rest,
        )

    pub listing_turn : i < n → (d'' : List ℕ) → d'' ≡ d' ++ led (eqb i 0) name → Listing f places n d d'' (i + 1)
    listing_turn h d'' e = record {
      within = omega arith;
      made = L.made ++ led (eqb i 0) name;
      added = e ∙ rw L.added (append_assoc d L.made (led (eqb i 0) name));
      same =
          let z : eqb (i + 1) 0 ≡ false = ne_eqb (i + 1) 0 (λ e. let x : ⊥ = omega arith in x) in
          rw z (next h ∙ sym (append_assoc L.made (led (eqb i 0) name) _));
    }

    pub listing_done : n ≤ i → d' ≡ d ++ listed true (strings_in f places n 0)
    unfolding listed strings_in rows_of
    listing_done h = let e : n - i ≡ 0 = omega arith in rw ((rw e at L.same) ∙ append-nil L.made) L.added

-- ---- the length

-- what the names take, each after two bytes
weight : List Str → ℕ
weight [] = 0
weight (s ∷ ss) = 2 + length s + weight ss

weight_snoc : (ss : List Str) (s : Str) → weight (ss ++ (s ∷ [])) ≡ weight ss + (2 + length s)
unfolding weight
weight_snoc [] s = omega arith
weight_snoc (x ∷ ss) s = omega (arith, weight_snoc ss s)

rest_long : (ss : List Str) → length (listed false ss) ≡ weight ss
unfolding listed led lead_of whether◌then◌else◌ weight
rest_long [] = refl
rest_long (s ∷ ss) = simp length-append (omega (arith, rest_long ss))

listed_long : (ss : List Str) → length (listed true ss) ≤ 11 + weight ss
unfolding listed led lead_of whether◌then◌else◌ weight
listed_long [] = omega arith
listed_long (s ∷ ss) = simp length-append (omega (arith, rest_long ss))

grouping_long : (b : Bool) → length (grouping b) ≤ 23
unfolding grouping whether◌then◌else◌
grouping_long b = by b (λ t. rw t (omega arith)) (λ t. rw t (omega arith))

sentence_long : (b : Bool) (user : Str) (names : List Str) → length (sentence b user names) ≡ 33 + length user + length (grouping b) + length (listed true names)
unfolding sentence
sentence_long b user names = simp length-append (omega arith)

pub sentence_room : (b : Bool) (user : Str) (names : List Str) (n : ℕ) → length (sentence b user names) ≤ n
    → 33 + length user + length (grouping b) + length (listed true names) ≤ n
sentence_room b user names n h = omega (arith, sentence_long b user names)

module _ (user : Str) (short : length user ≤ max_string) where
  gathered_long : (ss names : List Str) → weight (gather names (only (alike user) ss)) ≤ weight names + length ss * (2 + max_string)
  unfolding gather only
  gathered_long [] names = omega arith
  gathered_long (s ∷ ss) names =
      by (alike user s)
      (λ t.
      let l = alike_long user s t in
      by (any (same s) names)
      (λ u. omega (arith, gathered_long ss names, ap weight (gather_seen user s ss names t u)))
      (λ u. omega (arith, gathered_long ss (names ++ (s ∷ [])), weight_snoc names s, ap weight (gather_new user s ss names t u))))
      (λ t. omega (arith, gathered_long ss names, ap weight (gather_other user s ss names t)))

  pub sentence_fits : (is_group : Bool) (users : List Str) → length users ≤ max_users → length (sentence is_group user (gather [] (only (alike user) users))) ≤ max_line
  unfolding weight
  sentence_fits is_group users few =
      let names = gather [] (only (alike user) users) in
      omega (arith, sentence_long is_group user names, grouping_long is_group, listed_long names, gathered_long users [])
