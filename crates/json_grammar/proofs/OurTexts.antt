-- Our bytes and our depth. The parser reads by a grammar that has both built in, `OurText`: a text belongs to it exactly where it belongs to the RFC's,
-- has our bytes alone, and stands for a tree of our depth.
use mathlib.Core.Path.{◌≡◌, refl, ap}
use mathlib.Core.Bool.{true}
use mathlib.Core.List.{List, [], ◌∷◌}
use Prim.Native.Nat.{ℕ, zero, suc, max, ◌≤◌}
use native.Mathlib.Omega.{arith}
use Rattle.limits.specs.Limits.{max_depth}
use Rattle.text.specs.Test.{◌and◌, all}
use Rattle.text.specs.Byte.{is_print}
use Rattle.text.specs.String.{bytes}
use Rattle.json_grammar.specs.Abnf.{Rule}
use Rattle.json_grammar.specs.Json.{Json, Member, values, members}
use Rattle.json_grammar.specs.Grammar.{Items, last, next, Between, empty, filled, Scalar, false_text, null_text, true_text, number, string, MemberOf, member, scalar, array, object, Value, TextOver, json}
use Rattle.json_grammar.specs.JsonText.{our_byte, depth_of, items_depth, members_depth, JsonText}
use Rattle.json_grammar.specs.Parser.{last_plain}
use Rattle.json_grammar.proofs.OurBytes.{Own, own_all, all_own, own_both, own_left, own_right, number_own, ws_own, mark_own, rfc_last, quoted_out, quoted_in}

-- ---- items

-- the largest of a list
unfoldable most : {A : Type 0} → (A → ℕ) → List A → ℕ
most size [] = 0
most size (a ∷ l) = max (size a) (most size l)

values_most : (l : List Json) → items_depth (values l) ≡ most depth_of l
unfolding items_depth values most
values_most [] = refl
values_most (j ∷ l) = ap (max (depth_of j)) (values_most l)

member_depth : Member → ℕ
member_depth m = depth_of m.1

members_most : (l : List Member) → members_depth (members l) ≡ most member_depth l
unfolding members_depth members most member_depth
members_most [] = refl
members_most (m ∷ l) = ap (max (depth_of m.1)) (members_most l)

module _ {A : Type 0} (size : A → ℕ) (d : ℕ) (R Q : Rule A) where
  module _ (out : (v : List ℕ) (a : A) → R v a → Q v a × Own v × (size a ≤ d)) where
    items_out : {v : List ℕ} {l : List A} → Items R v l → Items Q v l × Own v × (most size l ≤ d)
    unfolding most
    items_out (last {s} {a} x) = let y = out s a x in (last y.0, y.1, omega arith)
    items_out (next {s} {a} x z r) =
        let y = out s a x in let w = items_out r in
        (next y.0 z w.0, own_both y.1 (own_both (mark_own 0x2C refl z) w.1), omega arith)

    between_out : (begin end : ℕ) → is_print begin ≡ true → is_print end ≡ true → {v : List ℕ} {l : List A}
        → Between begin end R v l → Between begin end Q v l × Own v × (most size l ≤ d)
    unfolding most
    between_out begin end p q (empty x z) = (empty x z, own_both (mark_own begin p x) (mark_own end q z), omega arith)
    between_out begin end p q (filled x i z) =
        let w = items_out i in (filled x w.0 z, own_both (mark_own begin p x) (own_both w.1 (mark_own end q z)), w.2)

  module _ (into : (v : List ℕ) (a : A) → R v a → Own v → size a ≤ d → Q v a) where
    items_in : {v : List ℕ} {l : List A} → Items R v l → Own v → most size l ≤ d → Items Q v l
    unfolding most
    items_in (last {s} {a} x) p h = last (into s a x p (omega arith))
    items_in (next {s} {t} {u} {a} x z r) p h =
        next (into s a x (own_left s _ p) (omega arith)) z (items_in r (own_right t u (own_right s _ p)) (omega arith))

    between_in : {begin end : ℕ} {v : List ℕ} {l : List A} → Between begin end R v l → Own v → most size l ≤ d → Between begin end Q v l
    between_in (empty x z) p h = empty x z
    between_in (filled {s} {t} {u} x i z) p h = filled x (items_in i (own_left t u (own_right s _ p)) h) z

-- ---- values

false_own : all our_byte (bytes "false") ≡ true
unfolding all our_byte ◌and◌
false_own = refl

null_own : all our_byte (bytes "null") ≡ true
unfolding all our_byte ◌and◌
null_own = refl

true_own : all our_byte (bytes "true") ≡ true
unfolding all our_byte ◌and◌
true_own = refl

scalar_out : {v : List ℕ} {j : Json} → Scalar last_plain v j → Scalar rfc_last v j × Own v × (depth_of j ≤ 0)
unfolding depth_of
scalar_out false_text = (false_text, all_own _ false_own, omega arith)
scalar_out null_text = (null_text, all_own _ null_own, omega arith)
scalar_out true_text = (true_text, all_own _ true_own, omega arith)
scalar_out (number n) = (number n, number_own n, omega arith)
scalar_out (string q) = let x = quoted_out q in (string x.0, x.1, omega arith)

scalar_in : {v : List ℕ} {j : Json} → Scalar rfc_last v j → Own v → Scalar last_plain v j
scalar_in false_text p = false_text
scalar_in null_text p = null_text
scalar_in true_text p = true_text
scalar_in (number n) p = number n
scalar_in (string q) p = string (quoted_in q p)

member_out : (d : ℕ) (R Q : Rule Json) → ((v : List ℕ) (j : Json) → R v j → Q v j × Own v × (depth_of j ≤ d)) → (v : List ℕ) (m : Member)
    → MemberOf last_plain R v m → MemberOf rfc_last Q v m × Own v × (member_depth m ≤ d)
unfolding member_depth
member_out d R Q out v m (member {u} {j} q c x) =
    let y = quoted_out q in let z = out u j x in (member y.0 c z.0, own_both y.1 (own_both (mark_own 0x3A refl c) z.1), z.2)

member_in_lem : (d : ℕ) (R Q : Rule Json) → ((v : List ℕ) (j : Json) → R v j → Own v → depth_of j ≤ d → Q v j) → (v : List ℕ) (m : Member)
    → MemberOf rfc_last R v m → Own v → member_depth m ≤ d → MemberOf last_plain Q v m
unfolding member_depth
member_in_lem d R Q into v m (member {s} {t} {u} {j} q c x) p h =
    member (quoted_in q (own_left s _ p)) c (into u j x (own_right t u (own_right s _ p)) h)

value_out : (d : ℕ) (v : List ℕ) (j : Json) → Value last_plain d v j → Value rfc_last d v j × Own v × (depth_of j ≤ d)
unfolding depth_of
value_out zero v j x = scalar_out x
value_out (suc d) v j (scalar x) = let y = scalar_out x in (scalar y.0, y.1, omega arith)
value_out (suc d) v j (array {l} x) =
    let y = between_out depth_of d (Value last_plain d) (Value rfc_last d) (value_out d) 0x5B 0x5D refl refl x in (array y.0, y.1, omega (arith, values_most l))
value_out (suc d) v j (object {l} x) =
    let y = between_out member_depth d _ _ (member_out d (Value last_plain d) (Value rfc_last d) (value_out d)) 0x7B 0x7D refl refl x in
    (object y.0, y.1, omega (arith, members_most l))

of_scalar : (d : ℕ) {v : List ℕ} {j : Json} → Scalar last_plain v j → Value last_plain d v j
of_scalar zero x = x
of_scalar (suc d) x = scalar x

value_in : (d e : ℕ) (v : List ℕ) (j : Json) → Value rfc_last d v j → Own v → depth_of j ≤ e → Value last_plain e v j
unfolding depth_of
value_in zero e v j x p h = of_scalar e (scalar_in x p)
value_in (suc d) e v j (scalar x) p h = of_scalar e (scalar_in x p)
value_in (suc d) zero v j (array x) p h = absurd (omega arith)
value_in (suc d) zero v j (object x) p h = absurd (omega arith)
value_in (suc d) (suc e) v j (array {l} x) p h =
    array (between_in depth_of e (Value rfc_last d) (Value last_plain e) (value_in d e) x p (omega (arith, values_most l)))
value_in (suc d) (suc e) v j (object {l} x) p h =
    object (between_in member_depth e _ _ (member_in_lem e (Value rfc_last d) (Value last_plain e) (value_in d e)) x p (omega (arith, members_most l)))

-- ---- texts

abbrev pub OurText : Rule Json
OurText = TextOver (Value last_plain max_depth)

pub text_out : {s : List ℕ} {j : Json} → OurText s j → JsonText s j
text_out (json {s} {j} a x b) =
    let y = value_out max_depth s j x in
    record { grammar = (max_depth, json a y.0 b); bytes = own_all (own_both (ws_own a) (own_both y.1 (ws_own b))); depth = omega (arith, y.2) }

narrow : (d : ℕ) {s : List ℕ} {j : Json} → TextOver (Value rfc_last d) s j → Own s → depth_of j ≤ max_depth → OurText s j
narrow d (json {u} {s} {v} {j} a x b) p h = json a (value_in d max_depth s j x (own_left s v (own_right u _ p)) h) b

pub text_in : {s : List ℕ} {j : Json} → JsonText s j → OurText s j
text_in {s} t = narrow t.grammar.0 t.grammar.1 (all_own s t.bytes) t.depth
