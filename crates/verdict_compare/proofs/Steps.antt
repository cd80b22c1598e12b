-- What a step of a walk tells.
use mathlib.Core.Path.{◌≡◌, sym, ap, ◌∙◌}
use mathlib.Core.List.{List, ◌∷◌, []}
use Prim.Native.Nat.{ℕ, ◌-◌, ◌<◌}
use native.Mathlib.Omega.{arith}
use lib.ListN.{length}
use Rattle.std.specs.Prelude.{Some, None}
use Rattle.std.specs.Iterator.{MakesProgress, item_count}
use Rattle.path.specs.Path.{Path}
use Rattle.table_place.specs.Place.{key_end, key_in, keys_in, elem_end, elems_in}
use Rattle.table_place.proofs.Cursor.{keys_cons, elems_cons}
use Rattle.verdict_compare.specs.declared.place.Keys.{Keys}
use Rattle.verdict_compare.specs.declared.place.Element.{Element}
use Rattle.verdict_compare.specs.declared.place.Elements.{Elements}
use Rattle.verdict_compare.specs.Place.{keys, element, elements, First, Rest}

-- an iterator that gave the first of what it had left
pub goes_on : {S A B : Type 0} (can : S → Type 0) (rest : S → List B) (s : S) (x : A) (b : B) (t : S)
    → rest s ≡ b ∷ rest t → can t → MakesProgress can (item_count rest) s (Some x) t
goes_on can rest s x b t e c = record {
  on = λ _. let l : length (rest s) ≡ length (b ∷ rest t) = ap length e in (c, tt, omega arith);
  keeps = c;
  rests = λ _. tt;
}

pub keys_split : (s : Keys) (b : ℕ) → 0 < s.count → b ≡ key_end s.bytes.now s.at
    → keys s ≡ key_in s.bytes.now s.at ∷ keys_in (s.count - 1) s.bytes.now b
keys_split s b z e = rw e (keys_cons s.bytes.now s.count s.at z)

module _ (p : Elements) where
  pub ended : First p None → elements p ≡ []
  unfolding First
  ended h = h

  module _ (e : Element) (h : First p (Some e)) where
    pub starts : 0 < p.count
    unfolding First
    starts = h.0

    pub there : (rest : Path) × (elements p ≡ element e ∷ rest)
    unfolding First
    there = (elems_in (p.count - 1) p.bytes.now (elem_end p.bytes.now p.at), rw h.1 (elems_cons p.bytes.now p.count p.at h.0))

    pub split : (r : Elements) → Rest p r → elements p ≡ element e ∷ elements r
    unfolding First Rest
    split r k = rw h.1 k.1

  pub fewer : (r : Elements) → Rest p r → r.count < p.count
  unfolding Rest
  fewer r k = k.0
