-- The smallest number, as the programs find it.
use mathlib.Core.Path.{◌≡◌, refl, sym, ap, ◌∙◌}
use mathlib.Core.Bool.{Bool, true, false, not, ◌||◌}
use Prim.Native.Nat.{ℕ, ◌<◌}
use native.Mathlib.Omega.{arith}
use borrow.Author.Tests.{eq-eqb, ne_eqb}
use lib.Dec.{eqb, ltb}
use lib.ListN.{length}
use Rattle.text.specs.Test.{◌or◌, whether◌then◌else◌, all}
use Rattle.text.specs.Byte.{is_print}
use Rattle.text.specs.String.{Str}
use Rattle.text.specs.Refusal.{◌when◌else◌, clear}
use Rattle.text.proofs.Tests.{or_false_l, or_is}
use Rattle.limits.specs.Limits.{max_short_string, max_string}
use Rattle.path.specs.Refusal.{unsized, over_limit, stray_byte, misplaced, key_twice}
use Rattle.path.specs.Walk.{least_refusal, path_refusal}
use Rattle.path.specs.Path.{Path}
use Rattle.std.specs.Prelude.{min}
use Rattle.table.specs.Table.{Rule}
use Rattle.table.specs.Frame.{Entry, rule}
use Rattle.table.specs.Refusal.{Earlier, reads, out_of_order, kind_of, past_limit, strays, misplaces, repeats, unlisted, refusal, stray, unsized_short}
use Rattle.table.specs.Walk.{merged, unsized_by}

-- ---- order of kinds

pub order_first : (last kind : ℕ) → last ≡ 0 → not (eqb kind 1) ≡ out_of_order last kind
unfolding out_of_order whether◌then◌else◌
order_first last kind e = rw (eq-eqb last 0 e)

pub order_later : (last kind : ℕ) → (last ≡ 0 → ⊥) → (eqb kind 1 || ltb kind last) ≡ out_of_order last kind
unfolding out_of_order whether◌then◌else◌
order_later last kind e = rw (ne_eqb last 0 e) (or_is (eqb kind 1) (ltb kind last))

-- ---- strings

pub long_is : (s : Str) (n : ℕ) → n ≡ length s → unsized_by max_string n ≡ unsized s
unfolding unsized
long_is s n e = rw e (or_is (eqb (length s) 0) (ltb max_string (length s)))

pub short_is : (s : Str) (n : ℕ) → n ≡ length s → unsized_by max_short_string n ≡ unsized_short s
unfolding unsized_short
short_is s n e = rw e (or_is (eqb (length s) 0) (ltb max_short_string (length s)))

pub stray_is : (s : Str) (t : Bool) → t ≡ all is_print s → not t ≡ stray s
unfolding stray
stray_is s t e = rw e

-- ---- out of order

pub number_four : (b : Earlier) (e : Entry) → out_of_order b.kind (kind_of e) ≡ true → 4 ≡ refusal b (reads e)
unfolding refusal whether◌then◌else◌
number_four b e h = rw h

-- ---- a frame without a path

merged_plain : (five six eight nine : Bool) → merged clear five six eight nine ≡ (5 when five else 6 when six else 7 when false else 8 when eight else 9 when nine else clear)
unfolding merged whether◌then◌else◌
merged_plain true six eight nine = refl
merged_plain false true eight nine = refl
merged_plain false false true nine = refl
merged_plain false false false nine = refl

-- ---- a rule

-- the number of the path joins those of the rest
merged_path : (a b d n over str mis two : Bool) → merged (least_refusal over str mis two) a b d n
    ≡ (5 when (a or over) else 6 when (b or str) else 7 when mis else 8 when (d or two) else 9 when n else clear)
unfolding merged least_refusal whether◌then◌else◌ ◌or◌
merged_path true b d n over str mis two = refl
merged_path false b d n true str mis two = refl
merged_path false true d n false true mis two = refl
merged_path false true d n false false true two = refl
merged_path false true d n false false false true = refl
merged_path false true d n false false false false = refl
merged_path false false d n false true mis two = refl
merged_path false false d n false false true two = refl
merged_path false false true n false false false true = refl
merged_path false false true n false false false false = refl
merged_path false false false n false false false true = refl
merged_path false false false n false false false false = refl

-- the number of the path and that of the rest: the smaller one
min_merged : (five six eight nine over str mis two : Bool)
    → min (least_refusal over str mis two) (merged clear five six eight nine) ≡ merged (least_refusal over str mis two) five six eight nine
unfolding merged least_refusal whether◌then◌else◌
min_merged true six eight nine true str mis two = refl
min_merged true six eight nine false true mis two = refl
min_merged true six eight nine false false true two = refl
min_merged true six eight nine false false false true = refl
min_merged true six eight nine false false false false = refl
min_merged false true eight nine true str mis two = refl
min_merged false true eight nine false true mis two = refl
min_merged false true eight nine false false true two = refl
min_merged false true eight nine false false false true = refl
min_merged false true eight nine false false false false = refl
min_merged false false true nine true str mis two = refl
min_merged false false true nine false true mis two = refl
min_merged false false true nine false false true two = refl
min_merged false false true nine false false false true = refl
min_merged false false true nine false false false false = refl
min_merged false false false true true str mis two = refl
min_merged false false false true false true mis two = refl
min_merged false false false true false false true two = refl
min_merged false false false true false false false true = refl
min_merged false false false true false false false false = refl
min_merged false false false false true str mis two = refl
min_merged false false false false false true mis two = refl
min_merged false false false false false false true two = refl
min_merged false false false false false false false true = refl
min_merged false false false false false false false false = refl

pub least_merged : (five six eight nine : Bool) (p m n : ℕ) (x : Path) → p ≡ path_refusal x → m ≡ merged clear five six eight nine → n ≡ min p m → n ≡ merged p five six eight nine
unfolding path_refusal
least_merged five six eight nine p m n x e i k =
    rw (k, i, e) (min_merged five six eight nine (over_limit x) (stray_byte x) (misplaced x) (key_twice x))

module _ (b : Earlier) where
  -- from 5 on
  tail : Entry → ℕ
  tail e = 5 when past_limit b e else 6 when strays e else 7 when misplaces e else 8 when repeats b e else 9 when unlisted b e else clear

  tail_is : (e : Entry) → out_of_order b.kind (kind_of e) ≡ false → refusal b (reads e) ≡ tail e
  unfolding refusal whether◌then◌else◌ tail
  tail_is e h = rw h

  pub number_plain : (e : Entry) → out_of_order b.kind (kind_of e) ≡ false → (r : ℕ) (five six eight nine : Bool) → r ≡ merged clear five six eight nine
      → five ≡ past_limit b e → six ≡ strays e → false ≡ misplaces e → eight ≡ repeats b e → nine ≡ unlisted b e → r ≡ refusal b (reads e)
  unfolding tail
  number_plain e h r five six eight nine g p q m x y = g ∙ merged_plain five six eight nine ∙ rw (p, q, m, x, y) (sym (tail_is e h))

  pub number_rule : (x : Rule) → out_of_order b.kind 4 ≡ false → (r p : ℕ) (five six eight nine : Bool) → r ≡ merged p five six eight nine → p ≡ path_refusal x.path
      → (five or over_limit x.path) ≡ past_limit b (rule x) → (six or stray_byte x.path) ≡ strays (rule x) → (eight or key_twice x.path) ≡ repeats b (rule x)
      → nine ≡ unlisted b (rule x) → r ≡ refusal b (reads (rule x))
  unfolding tail kind_of misplaces path_refusal
  number_rule x h r p five six eight nine g k c d e n =
      g
      ∙ ap (λ (q : ℕ). merged q five six eight nine) k
      ∙ merged_path five six eight nine (over_limit x.path) (stray_byte x.path) (misplaced x.path) (key_twice x.path)
      ∙ rw (c, d, e, n) (sym (tail_is (rule x) h))

-- ---- no number

when_clear : (n m : ℕ) (t : Bool) → n < clear → (n when t else m) ≡ clear → (t ≡ false) × (m ≡ clear)
unfolding whether◌then◌else◌
when_clear n m true h e = absurd (omega arith)
when_clear n m false h e = (refl, e)

pub merged_clear : (p : ℕ) (five six eight nine : Bool) → merged p five six eight nine ≡ clear → (five ≡ false) × (nine ≡ false) × (eight ≡ false)
unfolding merged
merged_clear p five six eight nine e =
    let a = when_clear 5 _ (five || eqb p 5) (omega arith) e in
    let b = when_clear 6 _ (six || eqb p 6) (omega arith) a.1 in
    let c = when_clear 7 _ (eqb p 7) (omega arith) b.1 in
    let d = when_clear 8 _ (eight || eqb p 8) (omega arith) c.1 in
    let n = when_clear 9 _ nine (omega arith) d.1 in
    (or_false_l five (eqb p 5) (sym (or_is five (eqb p 5)) ∙ a.0), n.0, or_false_l eight (eqb p 8) (sym (or_is eight (eqb p 8)) ∙ d.0))

-- a line that nothing refuses
pub refusal_clear : (b : Earlier) (e : Entry) → refusal b (reads e) ≡ clear
    → (out_of_order b.kind (kind_of e) ≡ false) × (past_limit b e ≡ false) × (strays e ≡ false) × (misplaces e ≡ false) × (repeats b e ≡ false) × (unlisted b e ≡ false)
unfolding refusal
refusal_clear b e h =
    let a4 = when_clear 4 _ (out_of_order b.kind (kind_of e)) (omega arith) h in
    let a5 = when_clear 5 _ (past_limit b e) (omega arith) a4.1 in
    let a6 = when_clear 6 _ (strays e) (omega arith) a5.1 in
    let a7 = when_clear 7 _ (misplaces e) (omega arith) a6.1 in
    let a8 = when_clear 8 _ (repeats b e) (omega arith) a7.1 in
    let a9 = when_clear 9 _ (unlisted b e) (omega arith) a8.1 in
    (a4.0, a5.0, a6.0, a7.0, a8.0, a9.0)
