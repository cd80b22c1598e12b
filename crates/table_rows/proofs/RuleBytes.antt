-- A rule that reads is the one that stands at its position.
use mathlib.Core.Path.{◌≡◌, refl, sym, ap, ◌∙◌}
use mathlib.Core.List.{List}
use Prim.Native.Nat.{ℕ, ◌+◌}
use native.Mathlib.Omega.{arith}
use borrow.Author.Tests.{ltb-true, ltb-false}
use lib.Dec.{eqb, ltb}
use lib.ListN.{length, get_or}
use Rattle.text.specs.Test.{◌or◌, whether◌then◌else◌}
use Rattle.text.specs.String.{Str}
use Rattle.text.specs.Frame.{Parsed, got, unread, and_then, ◌>>=◌, ret, byte, string}
use Rattle.text.proofs.Tests.{by}
use Rattle.text.proofs.Frames.{byte_got, byte_unread}
use Rattle.path.specs.Path.{Path}
use Rattle.path.specs.Bytes.{path}
use Rattle.table.specs.Table.{Rule}
use Rattle.table.specs.Frame.{unknown, code, rule_body}
use Rattle.table_place.specs.Place.{str_end, str_in, path_in}
use Rattle.table_place.proofs.Reading.{str_read, path_read}
use Rattle.table_rows.specs.Rules.{id_at, origin_at, path_at, rule_in, rule_end, RuleStands}

-- what was read in two steps was read in each
then_got : {A B : Type 0} (x : Parsed A) (k : A → ℕ → Parsed B) (b : B) (t : ℕ) → and_then x k ≡ got b t → (a : A) × (q : ℕ) × (x ≡ got a q) × (k a q ≡ got b t)
then_got (got a q) k b t e = (a, q, refl, e)
then_got unread k b t e = let z : ◌≡◌ {A = ℕ} 0 1 = cc in absurd (omega arith)

-- a code byte is the byte that stands there
code_told : (f : List ℕ) (p a b m t : ℕ) (u v : ℕ) → (whether eqb u a or eqb u b then ret u else unknown) f v ≡ got m t → (m ≡ u) × (t ≡ v)
unfolding whether◌then◌else◌ ret unknown
code_told f p a b m t u v e =
    by (eqb u a or eqb u b)
    (λ h. let g = rw h at e in (cc, cc))
    (λ h. let g = rw h at e in let z : ◌≡◌ {A = ℕ} 0 1 = cc in absurd (omega arith))

byte_told : (f : List ℕ) (p u v : ℕ) → byte f p ≡ got u v → (u ≡ get_or f p 0) × (v ≡ p + 1)
byte_told f p u v e =
    by (ltb p (length f))
    (λ h. let g : got (get_or f p 0) (p + 1) ≡ got u v = sym (byte_got f p (ltb-true _ _ h)) ∙ e in (cc, cc))
    (λ h. let g : unread ≡ got u v = sym (byte_unread f p (ltb-false _ _ h)) ∙ e in let z : ◌≡◌ {A = ℕ} 0 1 = cc in absurd (omega arith))

code_read : (f : List ℕ) (p a b m t : ℕ) → code a b f p ≡ got m t → (m ≡ get_or f p 0) × (t ≡ p + 1)
unfolding code ◌>>=◌
code_read f p a b m t e =
    let x = then_got (byte f p) _ m t e in
    let y = byte_told f p x.0 x.1 x.2 in
    let z = code_told f p a b m t x.0 x.1 x.3 in
    (z.0 ∙ y.0, z.1 ∙ y.1)

pub rule_read : (f : List ℕ) (p : ℕ) (r : Rule) (t : ℕ) → rule_body f p ≡ got r t → RuleStands f p r
unfolding rule_body ◌>>=◌ ret id_at origin_at path_at rule_in rule_end
rule_read f p r t e =
    let a = then_got (code 0 1 f p) _ r t e in
    let a' = code_read f p 0 1 a.0 a.1 a.2 in
    let m = then_got (code 1 2 f a.1) _ r t a.3 in
    let m' = code_read f a.1 1 2 m.0 m.1 m.2 in
    let k = then_got (code 0 1 f m.1) _ r t m.3 in
    let k' = code_read f m.1 0 1 k.0 k.1 k.2 in
    let s = then_got (string f k.1) _ r t k.3 in
    let s' = str_read f k.1 s.0 s.1 s.2 in
    let i = then_got (string f s.1) _ r t s.3 in
    let i' = str_read f s.1 i.0 i.1 i.2 in
    let o = then_got (string f i.1) _ r t i.3 in
    let o' = str_read f i.1 o.0 o.1 o.2 in
    let q = then_got (path f o.1) _ r t o.3 in
    let q' = path_read f o.1 q.0 q.1 q.2 in
    let p1 : a.1 ≡ p + 1 = a'.1 in
    let p2 : m.1 ≡ p + 2 = omega arith in
    let p3 : k.1 ≡ p + 3 = omega arith in
    let p4 : s.1 ≡ str_end f (p + 3) = s'.2 ∙ ap (str_end f) p3 in
    let p5 : i.1 ≡ str_end f (str_end f (p + 3)) = i'.2 ∙ ap (str_end f) p4 in
    let p6 : o.1 ≡ str_end f (str_end f (str_end f (p + 3))) = o'.2 ∙ ap (str_end f) p5 in
    let z = made r a.0 m.0 k.0 s.0 i.0 o.0 q.0 t q.1 q.3 in
    let permit : r.permit ≡ eqb (get_or f p 0) 1 = ap (λ (x : Rule). x.permit) z ∙ ap (λ (x : ℕ). eqb x 1) a'.0 in
    let mode : r.mode ≡ get_or f (p + 1) 0 = ap (λ (x : Rule). x.mode) z ∙ m'.0 ∙ ap (λ (x : ℕ). get_or f x 0) p1 in
    let by_group_lem : r.by_group ≡ eqb (get_or f (p + 2) 0) 1 = ap (λ (x : Rule). x.by_group) z ∙ ap (λ (x : ℕ). eqb x 1) (k'.0 ∙ ap (λ (x : ℕ). get_or f x 0) p2) in
    let subject : r.subject ≡ str_in f (p + 3) = ap (λ (x : Rule). x.subject) z ∙ s'.1 ∙ ap (str_in f) p3 in
    let id : r.id ≡ str_in f (id_at f p) = ap (λ (x : Rule). x.id) z ∙ i'.1 ∙ ap (str_in f) p4 in
    let origin : r.origin ≡ str_in f (origin_at f p) = ap (λ (x : Rule). x.origin) z ∙ o'.1 ∙ ap (str_in f) p5 in
    let its-path : r.path ≡ path_in f (path_at f p) = ap (λ (x : Rule). x.path) z ∙ q'.1 ∙ ap (path_in f) p6 in
    record {
      is = λ x. record { permit = permit x; mode = mode x; by_group = by_group_lem x; subject = subject x; id = id x; origin = origin x; path = its-path x };
      id_fits = rw (sym p4) i'.0;
      fits = rw (sym p6) q'.0;
    }
  where
    made : (r : Rule) (a m k : ℕ) (s i o : Str) (q : Path) (t v : ℕ)
        → got (record { permit = eqb a 1; mode = m; by_group = eqb k 1; subject = s; id = i; origin = o; path = q }) v ≡ got r t
        → r ≡ record { permit = eqb a 1; mode = m; by_group = eqb k 1; subject = s; id = i; origin = o; path = q }
    made r a m k s i o q t v e = cc
