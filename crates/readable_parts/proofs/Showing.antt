-- One step of each program that shows a part of a frame.
use mathlib.Core.Path.{◌≡◌, refl}
use mathlib.Core.List.{List, [], ◌∷◌, ◌++◌}
use Prim.Native.Nat.{ℕ, ◌+◌, ◌-◌, ◌≤◌, ◌<◌}
use native.Mathlib.Omega.{arith}
use borrow.Author.Tests.{eq-eqb, ne_eqb, le-leb, lt-leb}
use lib.ListN.{length, drop, get_or, set, length-append, length-drop}
use Rattle.limits.specs.Limits.{max_string}
use Rattle.limits.specs.Sizes.{max_path_text, max_quoted}
use Rattle.text.specs.Test.{whether◌then◌else◌}
use Rattle.text.specs.String.{Str, joined}
use Rattle.text.specs.Frame.{got, unread, Reader, ◌>>=◌, ret, part, string}
use Rattle.text.specs.Steps.{Wrote, end_of}
use Rattle.std.specs.Prelude.{Option, Some, None}
use Rattle.text.proofs.Frames.{byte_got, byte_unread, string_ends, string_misses}
use Rattle.text.proofs.Filling.{Pending, fill_start, fill_room, fill_put, fill_set, fill_byte, wrote, wrote_byte}
use Rattle.path_read.specs.Text.{escaped}
use Rattle.path_read.specs.Steps.{MaybeStored, reached}
use Rattle.path_read.proofs.Longest.{value_length}
use Rattle.table.specs.Frame.{unknown}
use Rattle.readable_parts.specs.Parts.{Parts, part_of, quoted, hex_text, shown_string, shown_time, shown_code, shown_plain}
use Rattle.readable_parts.specs.Steps.{longest, Puts, puts}
use Rattle.readable_parts.proofs.Digits.{hex_length}

-- ---- which part it is

module _ (p : Parts) (c : ℕ) where
  pub is_string : c ≡ 83 → (part_of p c ≡ p.string) × (longest c ≡ max_quoted)
  unfolding part_of longest whether◌then◌else◌
  is_string e = (rw e, rw e)

  pub is_time : c ≡ 84 → (part_of p c ≡ p.time) × (longest c ≡ 16)
  unfolding part_of longest whether◌then◌else◌
  is_time e = (rw e, rw e)

  pub is_path_lem : c ≡ 80 → (part_of p c ≡ p.path) × (longest c ≡ max_path_text)
  unfolding part_of longest whether◌then◌else◌
  is_path_lem e = (rw e, rw e)

  pub is_action : c ≡ 65 → (part_of p c ≡ p.code 0 (100 ∷ 101 ∷ 110 ∷ 121 ∷ []) (112 ∷ 101 ∷ 114 ∷ 109 ∷ 105 ∷ 116 ∷ [])) × (longest c ≡ 6)
  unfolding part_of longest whether◌then◌else◌
  is_action e = (rw e, rw e)

  pub is_mode : c ≡ 77 → (part_of p c ≡ p.code 1 (114 ∷ 101 ∷ 97 ∷ 100 ∷ []) (119 ∷ 114 ∷ 105 ∷ 116 ∷ 101 ∷ [])) × (longest c ≡ 6)
  unfolding part_of longest whether◌then◌else◌
  is_mode e = (rw e, rw e)

  pub is_subject : c ≡ 75 → (part_of p c ≡ p.code 0 (117 ∷ 115 ∷ 101 ∷ 114 ∷ []) (103 ∷ 114 ∷ 111 ∷ 117 ∷ 112 ∷ [])) × (longest c ≡ 6)
  unfolding part_of longest whether◌then◌else◌
  is_subject e = (rw e, rw e)

  pub is_plain_lem : (c ≡ 83 → ⊥) → (c ≡ 84 → ⊥) → (c ≡ 80 → ⊥) → (c ≡ 65 → ⊥) → (c ≡ 77 → ⊥) → (c ≡ 75 → ⊥) → (part_of p c ≡ p.plain c) × (longest c ≡ 1)
  unfolding part_of longest whether◌then◌else◌
  is_plain_lem s t q a m k =
      (rw (ne_eqb c 83 s, ne_eqb c 84 t, ne_eqb c 80 q, ne_eqb c 65 a, ne_eqb c 77 m, ne_eqb c 75 k), rw (ne_eqb c 83 s, ne_eqb c 84 t, ne_eqb c 80 q, ne_eqb c 65 a, ne_eqb c 77 m, ne_eqb c 75 k))

  pub put_as : {r : Reader Str} {m : ℕ} {s : Str} {at : ℕ} {d : List ℕ} {to : ℕ} {d' : List ℕ} {q : MaybeStored} → (part_of p c ≡ r) × (longest c ≡ m)
      → Puts m r s at d to d' q → Puts (longest c) (part_of p c) s at d to d' q
  put_as e h = rw (e.0, e.1) h

-- ---- strings

module _ (f : Str) (at : ℕ) (r : Option ℕ) (e : r ≡ end_of (string f at)) where
  pub string_unshown : r ≡ None → shown_string f at ≡ unread
  unfolding shown_string ◌>>=◌
  string_unshown g = rw (string_misses f at r e g)

  module _ (t : ℕ) (g : r ≡ Some t) where
    pub long_unshown : max_string < length (part f (at + 1) t) → shown_string f at ≡ unread
    unfolding shown_string ◌>>=◌ whether◌then◌else◌ unknown
    long_unshown h = rw ((string_ends f at r e t g).0, lt-leb _ _ h)

    pub string_shown : length (part f (at + 1) t) ≤ max_string → shown_string f at ≡ got (quoted (part f (at + 1) t)) t
    unfolding shown_string ◌>>=◌ whether◌then◌else◌ ret
    string_shown h = rw ((string_ends f at r e t g).0, le-leb _ _ h)

module _ (d : List ℕ) (to : ℕ) (s : Str) (h : to + max_quoted ≤ length d) (l : length s ≤ max_string) where
  pub quoted_length : length (quoted s) ≤ max_quoted
  unfolding quoted
  quoted_length = omega (arith, length-append (joined escaped s) (93 ∷ []), value_length s)

  quoted_start : Pending d to (quoted s) d to (91 ∷ (joined escaped s ++ (93 ∷ [])))
  unfolding quoted
  quoted_start = fill_start d to (91 ∷ (joined escaped s ++ (93 ∷ []))) (omega (arith, length-append (joined escaped s) (93 ∷ []), value_length s))

  opened : Pending d to (quoted s) (set d to 91) (to + 1) (joined escaped s ++ (93 ∷ []))
  opened = fill_set d to (quoted s) d to 91 _ quoted_start

  pub value_fits : to + 1 + length (joined escaped s) ≤ length (set d to 91)
  value_fits = fill_room d to (quoted s) (set d to 91) (to + 1) (joined escaped s) (93 ∷ []) opened

  module _ (d' : List ℕ) (close : ℕ) (w : Wrote (set d to 91) (to + 1) (joined escaped s) d' close) where
    closing : Pending d to (quoted s) d' close (93 ∷ [])
    closing = fill_put d to (quoted s) (set d to 91) (to + 1) (joined escaped s) (93 ∷ []) d' close opened w.ends w.same

    pub close_room : (close < length d') × (close < length d)
    close_room = let b = fill_byte d to (quoted s) d' close 93 [] closing in (b, omega (arith, b, closing.long))

    closed : Pending d to (quoted s) (set d' close 93) (close + 1) []
    closed = fill_set d to (quoted s) d' close 93 [] closing

    pub closed_long : length (set d' close 93) ≡ length d
    closed_long = closed.long

    pub string_puts : (f : Str) (at t : ℕ) → shown_string f at ≡ got (quoted s) t → t ≤ length f → Puts max_quoted shown_string f at d to (set d' close 93) (reached t (close + 1))
    string_puts f at t e i = puts e (wrote d to (quoted s) _ _ closed) quoted_length i

-- ---- the time

module _ (f : Str) (at : ℕ) where
  pub time_unshown : (length f - at ≡ 8 → ⊥) → shown_time f at ≡ unread
  unfolding shown_time whether◌then◌else◌
  time_unshown h = rw (ne_eqb _ _ h)

  pub time_fits : (d : List ℕ) (to : ℕ) → to + 16 ≤ length d → length f - at ≡ 8 → to + length (hex_text (drop at f)) ≤ length d
  time_fits d to r h = omega (arith, hex_length (drop at f), length-drop at f)

  pub time_puts : (d : List ℕ) (to : ℕ) (d' : List ℕ) (end : ℕ) → length f - at ≡ 8 → Wrote d to (hex_text (drop at f)) d' end → Puts 16 shown_time f at d to d' (reached (length f) end)
  unfolding shown_time whether◌then◌else◌
  time_puts d to d' end h w =
      let e : shown_time f at ≡ got (hex_text (drop at f)) (length f) = rw (eq-eqb _ _ h) in
      puts e w (omega (arith, hex_length (drop at f), length-drop at f)) (omega arith)

-- ---- codes

module _ (n : ℕ) (a b f : Str) (at : ℕ) where
  pub code_past : length f ≤ at → shown_code n a b f at ≡ unread
  unfolding shown_code ◌>>=◌
  code_past h = rw (byte_unread f at h)

  module _ (h : at < length f) where
    pub code_first : get_or f at 0 ≡ n → shown_code n a b f at ≡ got a (at + 1)
    unfolding shown_code ◌>>=◌ whether◌then◌else◌ ret
    code_first e = rw (byte_got f at h, eq-eqb _ _ e)

    pub code_second : (get_or f at 0 ≡ n → ⊥) → get_or f at 0 ≡ n + 1 → shown_code n a b f at ≡ got b (at + 1)
    unfolding shown_code ◌>>=◌ whether◌then◌else◌ ret
    code_second x e = rw (byte_got f at h, ne_eqb _ _ x, eq-eqb _ _ e)

    pub code_other : (get_or f at 0 ≡ n → ⊥) → (get_or f at 0 ≡ n + 1 → ⊥) → shown_code n a b f at ≡ unread
    unfolding shown_code ◌>>=◌ whether◌then◌else◌ unknown
    code_other x y = rw (byte_got f at h, ne_eqb _ _ x, ne_eqb _ _ y)

-- ---- a byte that stands for itself

pub plain_puts : (c : ℕ) (f : Str) (at : ℕ) (d : List ℕ) (to : ℕ) → to + 1 ≤ length d → at ≤ length f → Puts 1 (shown_plain c) f at d to (set d to c) (reached at (to + 1))
unfolding shown_plain ret
plain_puts c f at d to h i = puts refl (wrote_byte d to c (omega arith)) (omega arith) i
