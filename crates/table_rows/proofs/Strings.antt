-- Lookups among strings, one turn at a time.
use mathlib.Core.Path.{◌≡◌}
use mathlib.Core.Bool.{Bool, true, false}
use mathlib.Core.List.{List, ◌∷◌}
use Prim.Native.Nat.{ℕ, suc, ◌+◌, ◌-◌, ◌≤◌, ◌<◌}
use native.Mathlib.Numerals.{add-one}
use native.Mathlib.Omega.{arith}
use lib.Dec.{ltb}
use lib.ListN.{length, get_or}
use borrow.Author.Tests.{le-ltb, lt-ltb}
use Rattle.text.specs.Test.{◌and◌, whether◌then◌else◌}
use Rattle.text.specs.String.{Str, same}
use Rattle.table_place.specs.Place.{str_end, str_in}
use Rattle.table_rows.specs.Strings.{rows_of, strings_in, place}

-- where a string lies
module _ (f : List ℕ) (at : ℕ) (h : str_end f at ≤ length f) where
  pub room : (at < length f) × (at + 1 + get_or f at 0 ≤ length f)
  unfolding str_end
  room = (omega arith, h)

-- ---- find

module _ (f starts : List ℕ) (n : ℕ) (name : Str) (i : ℕ) where
  strings_cons : i < n → strings_in f starts (n - i) i ≡ str_in f (get_or starts i 0) ∷ strings_in f starts (n - (i + 1)) (i + 1)
  unfolding strings_in rows_of
  strings_cons h = let e : n - i ≡ suc (n - (i + 1)) = omega arith in rw (e, add-one)

  pub find_pass : (w : ℕ) → i < n → same name (str_in f (get_or starts i 0)) ≡ false
      → w ≡ i + place name (strings_in f starts (n - i) i) → w ≡ i + 1 + place name (strings_in f starts (n - (i + 1)) (i + 1))
  unfolding place whether◌then◌else◌
  find_pass w h e g = let k : place name (strings_in f starts (n - i) i) ≡ suc (place name (strings_in f starts (n - (i + 1)) (i + 1))) = rw (strings_cons h, e) in omega arith

  pub find_hit : (w : ℕ) → i < n → same name (str_in f (get_or starts i 0)) ≡ true → w ≡ i + place name (strings_in f starts (n - i) i) → i ≡ w
  unfolding place whether◌then◌else◌
  find_hit w h e g = let k : place name (strings_in f starts (n - i) i) ≡ 0 = rw (strings_cons h, e) in omega arith

  pub find_end : (w : ℕ) → i ≤ n → n ≤ i → w ≡ i + place name (strings_in f starts (n - i) i) → n ≡ w
  unfolding place strings_in rows_of
  find_end w l h g = let e : n - i ≡ 0 = omega arith in let k : place name (strings_in f starts (n - i) i) ≡ 0 = rw e in omega arith

pub find_start : (f starts : List ℕ) (n : ℕ) (name : Str) → place name (strings_in f starts n 0) ≡ 0 + place name (strings_in f starts (n - 0) 0)
find_start f starts n name = let e : n - 0 ≡ n = omega arith in rw e (omega arith)

-- ---- string number i is one of the first n, and passes a test

module _ (n i : ℕ) (t : Bool) where
  pub number_past : n ≤ i → false ≡ (ltb i n and t)
  unfolding ◌and◌
  number_past h = rw (le-ltb i n h)

  pub number_under : (r : Bool) → i < n → r ≡ t → r ≡ (ltb i n and t)
  unfolding ◌and◌
  number_under r h e = rw (lt-ltb i n h, e)
