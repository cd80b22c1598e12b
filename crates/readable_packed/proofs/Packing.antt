-- One step of each program that packs a part of a readable line.
use mathlib.Core.Path.{◌≡◌, refl, sym, ap, ◌∙◌}
use mathlib.Core.Bool.{true, false}
use mathlib.Core.List.{List, [], ◌∷◌, ◌++◌}
use mathlib.Core.Option.{Option, none, some}
use Prim.Native.Nat.{ℕ, ◌+◌, ◌-◌, ◌≤◌, ◌<◌}
use native.Mathlib.Omega.{arith}
use borrow.Author.Tests.{eq-eqb, ne_eqb, lt-ltb, le-ltb, le-leb, lt-leb, leb-true}
use lib.ListN.{length, take, drop, get_or, set, length-append, length-drop, drop_of_length-le}
use Rattle.limits.specs.Limits.{max_string}
use Rattle.limits.specs.Sizes.{max_string_bytes, max_quoted}
use Rattle.text.specs.Test.{◌and◌, whether◌then◌else◌}
use Rattle.text.specs.String.{Str, same}
use Rattle.text.specs.Frame.{got, unread, ◌>>=◌, ret, part, string_bytes}
use Rattle.text.specs.Fill.{put}
use Rattle.text.proofs.Tests.{and_l}
use Rattle.text.proofs.Filling.{wrote_byte, wrote_nothing}
use Rattle.table_line.specs.Lines.{lines, frame}
use Rattle.table_line.specs.Decoding.{digits, first_line}
use Rattle.table_line.specs.declared.Line.{Line}
use Rattle.std.specs.Prelude as prelude
use Rattle.std.specs.Prelude.{None, Some}
use Rattle.table_line.proofs.FirstLine.{Read, line_read, line_unhex, lines_cons}
use Rattle.path_read.specs.TextReader.{literal, value}
use Rattle.path_read.specs.Steps.{Room, Stores, stores, nothing}
use Rattle.path_read.specs.Steps.{MaybeStored, reached}
use Rattle.path_read.proofs.Sound.{inside}
use Rattle.readable_parts.specs.Parts.{rest, alone, packed_string, packed_time, stands_at, packed_code, packed_plain}
use Rattle.readable_parts.specs.Steps.{Puts, puts, stops}
use Rattle.readable_parts.proofs.Rest.{tail}

-- ---- strings

module _ (s : Str) (at : ℕ) where
  pub string_unpacked : (get_or s at 0 ≡ 91 → ⊥) → packed_string s at ≡ unread
  unfolding packed_string ◌>>=◌ literal whether◌then◌else◌
  string_unpacked h = rw (ne_eqb _ _ h)

  pub string_past : length s ≤ at → packed_string s at ≡ unread
  string_past h = string_unpacked (λ e. let i = inside s at 91 (omega arith) e in absurd (omega arith))

  pub string_packs : {d : List ℕ} {to : ℕ} {d' : List ℕ} {r : MaybeStored} → get_or s at 0 ≡ 91 → Stores max_string_bytes 1 string_bytes (value max_string) s (at + 1) d to d' r → Puts max_quoted packed_string s at d to d' r
  unfolding packed_string ◌>>=◌ literal whether◌then◌else◌ ret
  string_packs h (stores {a = v} {t = t} i w b) =
      let j : packed_string s at ≡ got (string_bytes v) t = rw (eq-eqb _ _ h, i) in
      puts j w (omega (arith, b.few, w.ends)) b.inside
  string_packs h (nothing i) = stops (rw (eq-eqb _ _ h, i))

pub value_fits : (s : Str) (at : ℕ) (d : List ℕ) (to : ℕ) → to + max_quoted ≤ length d → at < length s → Room max_string_bytes 1 s (at + 1) d to
value_fits s at d to h i = record { starts = omega arith; fits = λ n f g. omega arith }

-- ---- the time

alone_none : (l : Str) (ls : List Str) → frame l ≡ none → alone (l ∷ ls) ≡ none
unfolding alone
alone_none l [] e = e
alone_none l (m ∷ ls) e = refl

alone_more : (l : Str) (ls : List Str) (m : Str) (ms : List Str) → ls ≡ m ∷ ms → alone (l ∷ ls) ≡ none
unfolding alone
alone_more l ls m ms e = rw e

alone_one : (l : Str) (ls : List Str) → ls ≡ [] → alone (l ∷ ls) ≡ frame l
unfolding alone
alone_one l ls e = rw e

with_end : (z x : List ℕ) → length x ≡ 16 → drop 16 z ≡ 10 ∷ [] → put z 0 x ≡ x ++ (10 ∷ [])
unfolding put
with_end z x e h = let l : 0 + length x ≡ 16 = omega arith in rw (l, h)

pub digits_are : (s : Str) (at : ℕ) → at ≤ length s → length s - at ≡ 16 → (z t : List ℕ) → drop 16 z ≡ 10 ∷ [] → t ≡ put z 0 (take (length s - at) (drop at s)) → t ≡ drop at s ++ (10 ∷ [])
digits_are s at i h z t k e = e ∙ ap (put z 0) (tail s at i) ∙ with_end z (drop at s) (length-drop at s ∙ h) k

module _ (s : Str) (at : ℕ) where
  pub time_unpacked : (length s - at ≡ 16 → ⊥) → packed_time s at ≡ unread
  unfolding packed_time whether◌then◌else◌
  time_unpacked h = rw (ne_eqb _ _ h)

  module _ (t : Str) (e : t ≡ drop at s ++ (10 ∷ [])) (h : length s - at ≡ 16) (r : prelude.Option Line) (i : r ≡ first_line 0 (lines t)) where
    long : length t ≡ 17
    long = ap length e ∙ (let a = length-append (drop at s) (10 ∷ []) in let b = length-drop at s in let c : length (drop at s ++ (10 ∷ [])) ≡ 17 = omega arith in c)

    time_is : (x : Option Str) → alone (lines t) ≡ x → packed_time s at ≡ rest x (length s)
    unfolding packed_time whether◌then◌else◌
    time_is x a = rw (eq-eqb _ _ h, sym e, a)

    pub time_bad : r ≡ None → packed_time s at ≡ unread
    unfolding rest
    time_bad g =
        let u = line_unhex t 0 r i (omega (arith, long)) g in
        time_is none (ap alone u.first ∙ alone_none u.line u.others u.is)

    module _ (l : Line) (g : r ≡ Some l) where
      abbrev len : ℕ
      len = l.len

      abbrev next : ℕ
      next = l.next

      told : Read t 0 len next
      told = line_read t 0 r i (omega arith) l g

      pub time_short : (next ≡ 17 → ⊥) → packed_time s at ≡ unread
      unfolding rest
      time_short n =
          let u = told in
          let m = lines_cons (drop next t) (omega (arith, length-drop next t, long, u.ends)) in
          time_is none (ap alone u.first ∙ alone_more u.line (lines (drop next t)) m.0 m.1 m.2)

      no_lines : lines [] ≡ []
      unfolding lines
      no_lines = refl

      pub time_got : next ≡ 17 → packed_time s at ≡ got (digits t) (length s)
      unfolding rest
      time_got n =
          let u = told in
          let k : length t ≤ next = omega (arith, long) in
          let d : drop next t ≡ [] = drop_of_length-le t k in
          time_is (some (digits t)) (ap alone u.first ∙ alone_one u.line (lines (drop next t)) (ap lines d ∙ no_lines) ∙ u.is)

      pub time_eight : next ≡ 17 → len ≡ 8
      time_eight n = let u = told in omega (arith, u.goes)

      pub time_puts : next ≡ 17 → (d : List ℕ) (to : ℕ) (d' : List ℕ) → d' ≡ put d to (digits t) → Puts 16 packed_time s at d to d' (reached (length s) (to + len))
      time_puts n d to d' y =
          let k : len ≡ length (digits t) = told.size in
          puts {to = to} {end = to + len} (time_got n) (record { ends = omega (arith, k); same = y }) (omega (arith, time_eight n, k)) (omega arith)

-- ---- codes

module _ (w s : Str) (at : ℕ) (i : at ≤ length s) where
  pub too_short : length s - at < length w → false ≡ stands_at w s at
  unfolding stands_at ◌and◌
  too_short h = rw (lt-leb (at + length w) (length s) (omega arith))

  pub long_enough : length w ≤ length s - at → stands_at w s at ≡ same (part s at (at + length w)) w
  unfolding stands_at ◌and◌
  long_enough h = rw (le-leb (at + length w) (length s) (omega arith))

pub stands_inside : (w s : Str) (at : ℕ) → stands_at w s at ≡ true → at + length w ≤ length s
unfolding stands_at
stands_inside w s at e = leb-true _ _ (and_l _ _ e)

module _ (n : ℕ) (a b s : Str) (at : ℕ) (d : List ℕ) (to : ℕ) (h : to + 6 ≤ length d) where
  pub code_first : stands_at a s at ≡ true → Puts 6 (packed_code n a b) s at d to (set d to n) (reached (at + length a) (to + 1))
  unfolding packed_code whether◌then◌else◌
  code_first e =
      let i : packed_code n a b s at ≡ got (n ∷ []) (at + length a) = rw e in
      puts i (wrote_byte d to n (omega arith)) (omega arith) (stands_inside a s at e)

  pub code_second : stands_at a s at ≡ false → stands_at b s at ≡ true → Puts 6 (packed_code n a b) s at d to (set d to (n + 1)) (reached (at + length b) (to + 1))
  unfolding packed_code whether◌then◌else◌
  code_second x e =
      let i : packed_code n a b s at ≡ got ((n + 1) ∷ []) (at + length b) = rw (x, e) in
      puts i (wrote_byte d to (n + 1) (omega arith)) (omega arith) (stands_inside b s at e)

  pub code_other : stands_at a s at ≡ false → stands_at b s at ≡ false → packed_code n a b s at ≡ unread
  unfolding packed_code whether◌then◌else◌
  code_other x y = rw (x, y)

-- ---- a byte that stands for itself

module _ (c : ℕ) (s : Str) (at : ℕ) where
  pub plain_past : length s ≤ at → packed_plain c s at ≡ unread
  unfolding packed_plain ◌and◌ whether◌then◌else◌
  plain_past h = rw (le-ltb _ _ h)

  pub plain_other : at < length s → (get_or s at 0 ≡ c → ⊥) → packed_plain c s at ≡ unread
  unfolding packed_plain ◌and◌ whether◌then◌else◌
  plain_other i h = rw (lt-ltb _ _ i, ne_eqb _ _ h)

  pub plain_puts : at < length s → get_or s at 0 ≡ c → (d : List ℕ) (to : ℕ) → Puts 1 (packed_plain c) s at d to d (reached (at + 1) to)
  unfolding packed_plain ◌and◌ whether◌then◌else◌
  plain_puts i e d to =
      let j : packed_plain c s at ≡ got [] (at + 1) = rw (lt-ltb _ _ i, eq-eqb _ _ e) in
      puts j (wrote_nothing d to) (omega arith) (omega arith)
