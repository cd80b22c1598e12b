-- Sorted names of groups; and a string of a new frame as a span of all bytes.
use mathlib.Core.Path.{◌≡◌, refl, sym, ap, ◌∙◌}
use mathlib.Core.Bool.{Bool, true, false, not, ◌||◌}
use mathlib.Core.List.{List, [], ◌∷◌, ◌++◌}
use Prim.Native.Nat.{ℕ, ◌+◌, ◌-◌, ◌≤◌, ◌<◌}
use native.Mathlib.Omega.{arith}
use borrow.Author.Tests.{ltb-false, leb-true, leb-false}
use lib.Dec.{leb}
use lib.ListN.{length, length-append}
use lib.Seq.{drop-append-add}
use Rattle.text.specs.Test.{◌or◌, any}
use Rattle.text.specs.String.{Str, same}
use Rattle.text.specs.Frame.{part}
use Rattle.text.proofs.Tests.{by, clash}
use Rattle.text_sorted.specs.Spans.{span_of, span_in, Inside, strings_of, Sought, inserted}
use Rattle.text_sorted.specs.declared.Found.{Found}
use Rattle.text_sorted.proofs.Strings.{span_in_lem, span_inside, strings_longer, sorted_longer, sought_longer}
use Rattle.text_sorted.proofs.Places.{not_there}
use Rattle.text_sorted.proofs.Growing.{grows_sorted, grows_any}
use Rattle.text_set.proofs.Sets.{any_snoc}
use Rattle.table_rows.specs.Strings.{strings_in, place}
use Rattle.table_rows.proofs.Grow.{strings_length, place_any, place_le}
use Rattle.table_keep.specs.Held.{Named}

-- ---- a part of the frame, among all bytes

module _ (old f : List ℕ) (a e : ℕ) (order : a ≤ e) (fits : e ≤ length f) (small : length old + length f < 65536) where
  pub new_span : span_in (old ++ f) (span_of (length old + a) (length old + e)) ≡ part f a e
  new_span =
      let d : (length old + e) - (length old + a) ≡ e - a = omega arith in
      span_in_lem (length old + a) (length old + e) (omega arith) (old ++ f) ∙ rw (d, drop-append-add old f a)

  pub new_inside : Inside (old ++ f) (span_of (length old + a) (length old + e))
  new_inside = span_inside (length old + a) (length old + e) (omega arith) (old ++ f) (omega arith) (omega (arith, length-append old f))

-- ---- names

module _ {f names : List ℕ} {n : ℕ} {groups : List Str} (N : Named f names n groups) where
  pub named_longer : (g : List ℕ) → Named (f ++ g) names n groups
  named_longer g = record {
    sorted = sorted_longer f g names n N.sorted;
    told = λ y. N.told y ∙ ap (any (same y)) (sym (strings_longer f g names n N.sorted.within));
  }

  pub named_grows : (g : List ℕ) (x : Str) (r : Found) (k : ℕ) → Sought f names n x r → r.again ≡ false → span_in (f ++ g) k ≡ x → Inside (f ++ g) k → n < length names
      → Named (f ++ g) (inserted names n r.at k) (n + 1) (groups ++ (x ∷ []))
  named_grows g x r k t new is inside room =
      let s = sorted_longer f g names n N.sorted in
      let t' = sought_longer f g names n N.sorted x r t in
      record {
        sorted = grows_sorted (f ++ g) names n x r k s t' new is inside room;
        told = λ y.
            any_snoc y groups x ∙ ap (λ (b : Bool). same y x or b) ((named_longer g).told y)
            ∙ sym (grows_any (f ++ g) names n x r k s t' new is inside room y);
      }

-- ---- a name that is none of them

pub place_none : (name : Str) (xs : List Str) → any (same name) xs ≡ false → length xs ≡ place name xs
place_none name xs e = let h : length xs ≤ place name xs = ltb-false _ _ (sym (place_any name xs) ∙ e) in omega (arith, place_le name xs)

module _ (name : Str) (old groups names : List ℕ) (count : ℕ) (N : Named old names count (strings_in old groups count 0)) (r : Found) (s : Sought old names count name r) where
  pub name_absent : (not r.again || leb count r.at) ≡ true → count ≡ place name (strings_in old groups count 0)
  name_absent t = sym (strings_length old groups count) ∙ place_none name (strings_in old groups count 0) (N.told name ∙ none)
    where
      none : any (same name) (strings_of old names count) ≡ false
      none =
          by r.again
          (λ u. let h : leb count r.at ≡ true = rw u at t in sym (not_there old names count name N.sorted r.at s.placed (leb-true _ _ h)))
          (λ u. sym s.told ∙ u)

  pub name_present : (not r.again || leb count r.at) ≡ false → r.at < length names
  name_present t =
      by r.again
      (λ u. let h : leb count r.at ≡ false = rw u at t in let k : r.at < count = leb-false _ _ h in omega (arith, N.sorted.long))
      (λ u. let h : true ≡ false = rw u at t in clash refl h)
