-- Counting definite keys by position.
use mathlib.Core.Path.{◌≡◌, refl, sym}
use mathlib.Core.List.{List, ◌∷◌}
use Prim.Native.Nat.{ℕ, zero, suc, ◌+◌, ◌-◌, ◌≤◌, ◌<◌}
use native.Mathlib.Omega.{arith}
use lib.ListN.{length, get_or}
use Rattle.text.specs.Test.{whether◌then◌else◌, only}
use Rattle.text.proofs.Tests.{by}
use Rattle.path.specs.Path.{Key}
use Rattle.verdict.specs.Cover.{wild, given, definite}
use Rattle.verdict.specs.Order.{one_unless, definites}
use Rattle.verdict.proofs.Order.{unless_small}
use Rattle.table_place.specs.Place.{str_end, key_end, key_in, keys_end, keys_in, key_count, elem_end, elem_in, elems_end, elems_in}
use Rattle.table_place.proofs.Cursor.{str_grows}
use Rattle.verdict_compare.specs.declared.place.Keys.{Keys}
use Rattle.verdict_compare.specs.declared.place.Elements.{Elements}
use Rattle.verdict_compare.specs.Place.{keys, elements}

pub given_cons : (k : Key) (ks : List Key) → length (given (k ∷ ks)) ≡ one_unless (wild k) + length (given ks)
unfolding only whether◌then◌else◌
given_cons k ks = by (wild k) (λ e. rw e (omega arith)) (λ e. rw e (omega arith))

module _ (f : List ℕ) where
  -- a key takes more room than it counts
  few : (k q : ℕ) → q + length (given (keys_in k f q)) ≤ keys_end k f q
  unfolding keys_in keys_end
  few zero q = unfold only in omega arith
  few (suc k) q =
      let a = few k (key_end f q) in
      let b = given_cons (key_in f q) (keys_in k f (key_end f q)) in
      let d = unless_small (wild (key_in f q)) in
      let x = str_grows f q in
      let y = str_grows f (str_end f q) in
      omega arith

  pub few_in : (q a : ℕ) → a ≡ str_end f q → q + length (given (keys_in (get_or f a 0) f (a + 1))) < elem_end f q
  unfolding elem_end
  few_in q a i = let x = str_grows f q in let y = few (get_or f (str_end f q) 0) (str_end f q + 1) in rw i (omega arith)

  -- definite keys take room
  pub few_keys : (k q : ℕ) → q + definites (elems_in k f q) ≤ elems_end k f q
  unfolding elems_in elems_end definites definite elem_in
  few_keys zero q = omega arith
  few_keys (suc k) q =
      let a = few_keys k (elem_end f q) in
      let b = few_in q (str_end f q) refl in
      omega arith

pub given_few : (own : Keys) → length (given (keys own)) ≤ length own.bytes.now
given_few own = let e = few own.bytes.now own.count own.at in let i = own.inside in omega arith

pub definites_few : (own : Elements) → definites (elements own) ≤ length own.bytes.now
definites_few own = let e = few_keys own.bytes.now own.count own.at in let i = own.inside in omega arith
