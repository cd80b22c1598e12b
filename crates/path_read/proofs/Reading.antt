-- One step of each program that reads path text.
use mathlib.Core.Path.{◌≡◌, refl, sym, ap, ◌∙◌}
use mathlib.Core.Bool.{true, false, ◌&&◌}
use mathlib.Core.List.{List, [], ◌∷◌}
use Prim.Native.Nat.{ℕ, zero, suc, ◌+◌, ◌-◌, ◌≤◌, ◌<◌}
use native.Mathlib.Omega.{arith}
use borrow.Author.Tests.{eqb-true, ltb-true, lt-ltb, le-ltb, eq-eqb, ne_eqb}
use lib.Dec.{eqb, ltb}
use lib.ListN.{length, drop, get_or, set, length-drop, get_or-eq_default}
use lib.Seq.{length-take-le}
use Rattle.limits.specs.Limits.{max_string}
use Rattle.limits.specs.Sizes.{max_string_bytes}
use Rattle.text.specs.Test.{whether◌then◌else◌}
use Rattle.text.specs.String.{Str, joined}
use Rattle.text.specs.Frame.{Parsed, got, unread, and_then, Reader, ◌>>=◌, ret, part, string_bytes}
use Rattle.text.specs.Fill.{put}
use Rattle.text.specs.Steps.{Wrote}
use Rattle.text.proofs.Tests.{by, and_left, and_right}
use Rattle.text.proofs.Filling.{wrote_more, wrote_byte, wrote_before}
use Rattle.text_search.proofs.Searching.{found_high}
use Rattle.path.specs.Bytes.{counted}
use Rattle.path_read.specs.Text.{is_mark}
use Rattle.path_read.specs.TextReader.{literal, is_either, up_to, name, item, value, each, key}
use Rattle.path_read.specs.Steps.{item_in, item_of, Within, Room}
use Rattle.path_read.specs.declared.reader.Item.{Item}
use Rattle.path_read.specs.declared.reader.Item.TheVariants as items
use Rattle.std.specs.Prelude.{Some, None}
use Rattle.std.specs.Prelude as program
use Rattle.path_read.proofs.Sound.{inside, item_inside}
use Rattle.path_read.proofs.Complete.{value_closed, value_open, each_open, each_end, each_none}
use Rattle.path_read.proofs.Storing.{room_end}

-- ---- read_item

module _ (s : Str) (at : ℕ) where
  pub item_past : length s ≤ at → item_of s at ≡ None
  unfolding item_of item_in item whether◌then◌else◌
  item_past h = rw (get_or-eq_default s 0 h, le-ltb at (length s) h)

  pub item_end : get_or s at 0 ≡ 93 → item_of s at ≡ Some items.End
  unfolding item_of whether◌then◌else◌
  item_end e = rw e

  module _ (h : at < length s) (n : get_or s at 0 ≡ 93 → ⊥) where
    pub item_plain : (get_or s at 0 ≡ 92 → ⊥) → item_of s at ≡ Some (items.Byte (get_or s at 0) (at + 1))
    unfolding item_of item_in item whether◌then◌else◌
    item_plain m = rw (ne_eqb _ 93 n, lt-ltb at (length s) h, ne_eqb _ 92 m)

    pub item_mark : get_or s at 0 ≡ 92 → is_mark (get_or s (at + 1) 0) ≡ true → item_of s at ≡ Some (items.Byte (get_or s (at + 1) 0) (at + 2))
    unfolding item_of item_in item whether◌then◌else◌
    item_mark e m = rw (ne_eqb _ 93 n, lt-ltb at (length s) h, eq-eqb _ 92 e, m)

    pub item_bad : get_or s at 0 ≡ 92 → is_mark (get_or s (at + 1) 0) ≡ false → item_of s at ≡ None
    unfolding item_of item_in item whether◌then◌else◌
    item_bad e m = rw (ne_eqb _ 93 n, lt-ltb at (length s) h, eq-eqb _ 92 e, m)

-- ---- read_plain

item_in_lem : (x : Parsed ℕ) (b t : ℕ) → item_in x ≡ Some (items.Byte b t) → x ≡ got b t
unfolding item_in
item_in_lem (got c u) b t e = let i : c ≡ b = cc in let j : u ≡ t = cc in rw (i, j)
item_in_lem unread b t e = let z : ◌≡◌ {A = ℕ} 0 1 = cc in absurd (omega arith)

item_out : (x : Parsed ℕ) → item_in x ≡ None → x ≡ unread
unfolding item_in
item_out (got c u) e = let z : ◌≡◌ {A = ℕ} 0 1 = cc in absurd (omega arith)
item_out unread e = refl

item_never : (x : Parsed ℕ) → item_in x ≡ Some items.End → ⊥
unfolding item_in
item_never (got c u) e = let z : ◌≡◌ {A = ℕ} 0 1 = cc in omega arith
item_never unread e = let z : ◌≡◌ {A = ℕ} 0 1 = cc in omega arith

value_none : (n : ℕ) (s : Str) (at : ℕ) → eqb (get_or s at 0) 93 ≡ false → item s at ≡ unread → value n s at ≡ unread
unfolding value whether◌then◌else◌ ◌>>=◌
value_none zero s at e i = rw e
value_none (suc n) s at e i = rw (e, i)

-- r is the item at `at`
module _ (s : Str) (at : ℕ) (r : program.Option Item) (i : r ≡ item_of s at) where
  ended : r ≡ Some items.End → eqb (get_or s at 0) 93 ≡ true
  unfolding item_of whether◌then◌else◌
  ended e = by (eqb (get_or s at 0) 93) (λ u. u) (λ u. let j : Some items.End ≡ item_in (item s at) = sym e ∙ i ∙ rw u in absurd (item_never (item s at) (sym j)))

  went_on : (b t : ℕ) → r ≡ Some (items.Byte b t) → (eqb (get_or s at 0) 93 ≡ false) × (item s at ≡ got b t)
  unfolding item_of whether◌then◌else◌
  went_on b t e =
      by (eqb (get_or s at 0) 93)
      (λ u. let j : Some (items.Byte b t) ≡ Some items.End = sym e ∙ i ∙ rw u in let z : ◌≡◌ {A = ℕ} 0 1 = cc in absurd (omega arith))
      (λ u. let j : Some (items.Byte b t) ≡ item_in (item s at) = sym e ∙ i ∙ rw u in (u, item_in_lem (item s at) b t (sym j)))

  stopped : r ≡ None → (eqb (get_or s at 0) 93 ≡ false) × (item s at ≡ unread)
  unfolding item_of whether◌then◌else◌
  stopped e =
      by (eqb (get_or s at 0) 93)
      (λ u. let j : ◌≡◌ {A = program.Option Item} None (Some items.End) = sym e ∙ i ∙ rw u in let z : ◌≡◌ {A = ℕ} 0 1 = cc in absurd (omega arith))
      (λ u. let j : None ≡ item_in (item s at) = sym e ∙ i ∙ rw u in (u, item_out (item s at) (sym j)))

  pub end_inside : r ≡ Some items.End → get_or s at 0 ≡ 93
  end_inside e = eqb-true _ _ (ended e)

  -- the next byte stands further on in the text
  pub byte_inside : (b t : ℕ) → r ≡ Some (items.Byte b t) → (at < t) × (t ≤ length s)
  byte_inside b t e = item_inside s at b t (went_on b t e).1

  pub value_end : (n : ℕ) → r ≡ Some items.End → value n s at ≡ got [] (at + 1)
  value_end n e = value_closed n s at (ended e)

  pub value_stop : (n : ℕ) → r ≡ None → value n s at ≡ unread
  value_stop n e = let h = stopped e in value_none n s at h.0 h.1

  pub value_full : (n b t : ℕ) → n ≡ 0 → r ≡ Some (items.Byte b t) → value n s at ≡ unread
  unfolding value whether◌then◌else◌
  value_full n b t z e = rw (z, (went_on b t e).0)

  pub value_turn : (n b t : ℕ) → (n ≡ 0 → ⊥) → r ≡ Some (items.Byte b t) → value n s at ≡ and_then (value (n - 1) s t) (λ v u. got (b ∷ v) u)
  value_turn zero b t z e = absurd (z refl)
  value_turn (suc n) b t z e =
      let h = went_on b t e in
      let k : suc n - 1 ≡ n = omega arith in
      value_open n s at h.0 ∙ rw (h.1, k)

-- the bytes of a value so far, where at most `left` more are read: what was read ends at p, and what was stored at q
module _ (s : Str) (at left p to q : ℕ) (b : Within (max_string - left) 0 s at p to q) (l : left ≤ max_string) where
  module _ (t : ℕ) (i : (p < t) × (t ≤ length s)) (z : left ≡ 0 → ⊥) where
    pub plain_turn : Within (max_string - (left - 1)) 0 s at t to (q + 1)
    plain_turn = record { few = omega (arith, b.few); near = omega (arith, b.near, i.0); inside = i.1 }

    pub plain_room : (d : List ℕ) → Room max_string 0 s at d to → to ≤ q → q < length d
    plain_room d r h = omega (arith, room_end max_string 0 s at d to r _ 0 t (q + 1) plain_turn (omega arith) (omega arith) (omega arith))

  pub plain_end : p < length s → Within max_string 0 s at (p + 1) to q
  plain_end h = record { few = omega (arith, b.few); near = omega (arith, b.near); inside = omega arith }

abbrev pub single : ℕ → Str
single b = b ∷ []

pub joined_single : (v : Str) → joined single v ≡ v
unfolding joined
joined_single [] = refl
joined_single (b ∷ v) = ap (λ (s : Str). b ∷ s) (joined_single v)

pub wrote_plain : (d : List ℕ) (to : ℕ) (v d' : List ℕ) (end : ℕ) → Wrote d to (joined single v) d' end → Wrote d to v d' end
wrote_plain d to v d' end w = rw (joined_single v) at w

-- ---- read_name

module _ (a b : ℕ) (s : Str) (at n : ℕ) (h : at ≤ length s) (e : n ≡ at + up_to a b (drop at s)) where
  pub name_low : at ≤ n
  name_low = omega arith

  pub name_high : n ≤ length s
  name_high = found_high (is_either a b) s at n h e

  pub name_got : n - at ≤ max_string → name a b s at ≡ got (part s at n) n
  unfolding name whether◌then◌else◌
  name_got k = rw (le-ltb max_string (up_to a b (drop at s)) (omega arith)) (let i : at + up_to a b (drop at s) ≡ n = omega arith in rw i)

  module _ (to : ℕ) (k : n - at ≤ max_string) where
    pub name_within : Within max_string_bytes 1 s at n to (to + 1 + (n - at))
    name_within = record { few = omega arith; near = omega (arith, name_low); inside = name_high }

    pub name_room : (d : List ℕ) → Room max_string_bytes 1 s at d to → to + 1 + (n - at) ≤ length d
    name_room d r = room_end max_string_bytes 1 s at d to r max_string_bytes 1 n _ name_within (omega arith) (omega arith) (omega arith)

-- the length byte, and then the bytes
pub wrote_string : (d : List ℕ) (to n : ℕ) (s d' : List ℕ) → n ≡ length s → to + 1 + n ≤ length d → d' ≡ put (set d to n) (to + 1) s → Wrote d to (string_bytes s) d' (to + 1 + n)
unfolding string_bytes
wrote_string d to n s d' l h e =
    rw l
    (wrote_more d to (length s ∷ []) (set d to (length s)) (to + 1) (wrote_byte d to (length s) (omega arith)) (omega arith) s d' (to + 1 + length s)
    (record { ends = refl; same = rw l at e }))

pub string_fits : (d : List ℕ) (to n : ℕ) (s : Str) → n ≡ length s → to + 1 + n ≤ length d → to + length (string_bytes s) ≤ length d
unfolding string_bytes
string_fits d to n s l h = omega arith

pub part_length : (s : Str) (at n : ℕ) → at ≤ n → n ≤ length s → n - at ≡ length (part s at n)
part_length s at n h k = sym (length-take-le (n - at) (drop at s) (omega (arith, length-drop at s)))

-- ---- read_value

module _ (s : Str) (at : ℕ) (d : List ℕ) (to : ℕ) (r : Room max_string_bytes 1 s at d to) where
  pub value_room : Room max_string 0 s at d (to + 1)
  value_room = record { starts = r.starts; fits = λ n f g. omega (arith, r.fits (1 + n) (omega arith) (omega arith)) }

  module _ (t end : ℕ) (b : Within max_string 0 s at t (to + 1) end) where
    pub value_within : Within max_string_bytes 1 s at t to end
    value_within = record { few = omega (arith, b.few); near = omega (arith, b.near); inside = b.inside }

    pub value_fits : to ≤ end → end ≤ length d
    value_fits h = room_end max_string_bytes 1 s at d to r max_string_bytes 1 t end value_within h (omega arith) (omega arith)

-- the length byte, after the bytes
pub wrote_value : (d : List ℕ) (to : ℕ) (v d' : List ℕ) (end : ℕ) → end ≤ length d → Wrote d (to + 1) v d' end
    → Wrote d to (string_bytes v) (set d' to (end - (to + 1))) end
unfolding string_bytes
wrote_value d to v d' end h w =
    let l : end - (to + 1) ≡ length v = omega (arith, w.ends) in
    rw l (wrote_before d to (length v) v d' end (omega (arith, w.ends)) w)

-- ---- read_key

pub key_unequal : (s : Str) (at : ℕ) (n : Str) (m : ℕ) → name 61 61 s at ≡ got n m → (get_or s m 0 ≡ 61 → ⊥) → key s at ≡ unread
unfolding key ◌>>=◌ literal whether◌then◌else◌
key_unequal s at n m e h = rw (e, ne_eqb _ 61 h)

pub key_open : (s : Str) (at : ℕ) (n : Str) (m : ℕ) → name 61 61 s at ≡ got n m → get_or s m 0 ≡ 61 → key s at ≡ and_then (value max_string s (m + 1)) (λ v t. got (record { name = n; value = v }) t)
unfolding key ◌>>=◌ literal ret whether◌then◌else◌
key_open s at n m e h = rw (e, eq-eqb _ 61 h)

-- ---- read_keys, read_elements

each_next : {A : Type 0} (b n : ℕ) (r : Reader A) (s : Str) (at : ℕ) → 0 < n → eqb (get_or s at 0) b ≡ true
    → each b n r s at ≡ and_then (r s (at + 1)) (λ x p. and_then (each b (n - 1) r s p) (λ xs t. got (x ∷ xs) t))
each_next b zero r s at z h = absurd (omega arith)
each_next b (suc n) r s at z h = let k : suc n - 1 ≡ n = omega arith in each_open b n r s at h ∙ rw k

each_last : {A : Type 0} (b n : ℕ) (r : Reader A) (s : Str) (at : ℕ) → (ltb 0 n && eqb (get_or s at 0) b) ≡ false → each b n r s at ≡ got [] at
each_last b zero r s at h = each_none b r s at
each_last b (suc n) r s at h = each_end b (suc n) r s at (rw (lt-ltb 0 (suc n) (omega arith)) at h)

-- c is the byte at `at`, and the loop's test is that some are left, and c is b
module _ (b left : ℕ) (s : Str) (at c : ℕ) (i : c ≡ get_or s at 0) (h : (ltb 0 left && eqb c b) ≡ true) where
  pub some_left : 0 < left
  some_left = ltb-true 0 left (and_left (ltb 0 left) _ h)

  is_next : eqb (get_or s at 0) b ≡ true
  is_next = rw (← i) (and_right (ltb 0 left) _ h)

  pub next_inside : 0 < b → at < length s
  next_inside z = inside s at b z (eqb-true _ _ is_next)

  pub each_turn : {A : Type 0} (r : Reader A) (a : A) (t : ℕ) → r s (at + 1) ≡ got a t → each b left r s at ≡ and_then (each b (left - 1) r s t) (λ l u. got (a ∷ l) u)
  each_turn r a t e = each_next b left r s at some_left is_next ∙ rw e

  pub each_unread : {A : Type 0} (r : Reader A) → r s (at + 1) ≡ unread → each b left r s at ≡ unread
  each_unread r e = each_next b left r s at some_left is_next ∙ rw e

pub each_done : (b left : ℕ) (s : Str) (at c : ℕ) → c ≡ get_or s at 0 → (ltb 0 left && eqb c b) ≡ false → {A : Type 0} (r : Reader A) → each b left r s at ≡ got [] at
each_done b left s at c i h r = each_last b left r s at (rw (← i) h)

-- the count, after the things
pub wrote_counted : {A : Type 0} (w : A → Str) (d : List ℕ) (to : ℕ) (xs : List A) (n : ℕ) (d' : List ℕ) (end : ℕ) → length xs ≡ n → to + 1 + length (joined w xs) ≤ length d
    → Wrote d (to + 1) (joined w xs) d' end → Wrote d to (counted w xs) (set d' to n) end
unfolding counted
wrote_counted w d to xs n d' end l h v = rw (← l) (wrote_before d to (length xs) (joined w xs) d' end h v)
