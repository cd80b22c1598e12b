-- No readable line of a log is longer than its parts can be.
use mathlib.Core.Path.{◌≡◌, refl, ap}
use mathlib.Core.List.{[], ◌∷◌}
use mathlib.Core.Option.{Option, none, some, bind}
use Prim.Native.Nat.{ℕ, ◌+◌, ◌-◌, ◌≤◌}
use native.Mathlib.Omega.{arith}
use borrow.Author.Tests.{eqb-true, eqb-false, leb-true}
use lib.Dec.{eqb, leb, ltb}
use lib.ListN.{length, drop, length-append, length-drop}
use Rattle.limits.specs.Limits.{max_string}
use Rattle.limits.specs.Sizes.{max_path_text, max_quoted, max_readable_line}
use Rattle.text.specs.Test.{whether◌then◌else◌}
use Rattle.text.specs.String.{Str, joined}
use Rattle.text.specs.Frame.{got, unread, Reader, ◌>>=◌, ret, byte, string}
use Rattle.text.proofs.Tests.{by}
use Rattle.text.proofs.Codec.{never_got, then_got, got_move}
use Rattle.path_read.specs.Text.{escaped}
use Rattle.path_read.specs.Calls.{text_for}
use Rattle.path_read.proofs.Longest.{value_length, text_bound}
use Rattle.table_line.specs.Lines.{frame}
use Rattle.table.specs.Frame.{unknown}
use Rattle.readable_parts.specs.Parts.{part_of, rest, of_rest, quoted, shown_string, shown_time, shown_path, shown_code, shown_plain, shown}
use Rattle.readable_parts.specs.Steps.{longest}
use Rattle.readable_parts.proofs.Digits.{hex_length}
use Rattle.readable_parts.proofs.Showing.{is_string, is_time, is_path_lem, is_action, is_mode, is_subject, is_plain_lem}
use Rattle.readable_lines.specs.Form.{parts, request_form, shown_by}
use Rattle.readable_lines.specs.Request.{good, shown_request}
use Rattle.readable_lines.specs.Lines.{shown_line_by, shown_log_line, packed_log_line}
use Rattle.readable_lines.specs.Steps.{room_for}
use Rattle.readable_lines.proofs.Converting.{room_request}
use Rattle.readable_laws.proofs.Frames.{whole_some, printed_some}
use Rattle.readable_laws.proofs.Texts.{lined_some, then_some}
use Rattle.readable_laws.proofs.LogLines.{readable_line_returns}

-- ---- parts

-- what r reads is not longer
abbrev Short : ℕ → Reader Str → Type 0
Short n r = (f : Str) (at : ℕ) (w : Str) (t : ℕ) → r f at ≡ got w t → length w ≤ n

string_short : Short max_quoted shown_string
unfolding shown_string ◌>>=◌ ret whether◌then◌else◌ unknown quoted
string_short f at w t e =
    let a = then_got (string f at) _ e in
    by (leb (length a.0) max_string)
    (λ u. got_move (λ z q. length z ≤ max_quoted) (rw u at a.3) (omega (arith, leb-true (length a.0) max_string u, length-append (joined escaped a.0) (93 ∷ []), value_length a.0)))
    (λ u. never_got refl (rw u at a.3))

time_short : Short 16 shown_time
unfolding shown_time whether◌then◌else◌
time_short f at w t e =
    by (eqb (length f - at) 8)
    (λ u. got_move (λ z q. length z ≤ 16) (rw u at e) (omega (arith, eqb-true (length f - at) 8 u, hex_length (drop at f), length-drop at f)))
    (λ u. never_got refl (rw u at e))

path_short : Short max_path_text shown_path
unfolding shown_path of_rest whether◌then◌else◌
path_short f at w t e = by (ltb at (length f)) (λ u. go (text_for (drop at f)) refl (rw u at e)) (λ u. never_got refl (rw u at e))
  where
    go : (o : Option Str) → text_for (drop at f) ≡ o → rest o (length f) ≡ got w t → length w ≤ max_path_text
    go none i k = let k' : unread ≡ got w t = (unfold rest in k) in never_got refl k'
    go (some s) i k = let k' : got s (length f) ≡ got w t = (unfold rest in k) in got_move (λ z q. length z ≤ max_path_text) k' (text_bound (drop at f) s i)

code_short : (n : ℕ) (a b : Str) → length a ≤ 6 → length b ≤ 6 → Short 6 (shown_code n a b)
unfolding shown_code ◌>>=◌ ret whether◌then◌else◌ unknown
code_short n a b x y f at w t e =
    let c = then_got (byte f at) _ e in
    by (eqb c.0 n) (λ u. got_move (λ z q. length z ≤ 6) (rw u at c.3) x)
    (λ u. by (eqb c.0 (n + 1)) (λ v. got_move (λ z q. length z ≤ 6) (rw (u, v) at c.3) y) (λ v. never_got refl (rw (u, v) at c.3)))

plain_short : (c : ℕ) → Short 1 (shown_plain c)
unfolding shown_plain ret
plain_short c f at w t e = got_move (λ z q. length z ≤ 1) e (omega arith)

-- by what the letter names
named : {r : Reader Str} {n : ℕ} (c : ℕ) → (part_of shown c ≡ r) × (longest c ≡ n) → Short n r → Short (longest c) (part_of shown c)
named c i s = rw (i.0, i.1) s

part_short : (c : ℕ) → Short (longest c) (part_of shown c)
unfolding shown
part_short c =
    by (eqb c 83) (λ u. named c (is_string shown c (eqb-true _ _ u)) string_short)
    (λ s. by (eqb c 84) (λ u. named c (is_time shown c (eqb-true _ _ u)) time_short)
    (λ t. by (eqb c 80) (λ u. named c (is_path_lem shown c (eqb-true _ _ u)) path_short)
    (λ p. by (eqb c 65) (λ u. named c (is_action shown c (eqb-true _ _ u)) (code_short 0 _ _ (omega arith) (omega arith)))
    (λ a. by (eqb c 77) (λ u. named c (is_mode shown c (eqb-true _ _ u)) (code_short 1 _ _ (omega arith) (omega arith)))
    (λ m. by (eqb c 75) (λ u. named c (is_subject shown c (eqb-true _ _ u)) (code_short 0 _ _ (omega arith) (omega arith)))
    (λ k. named c (is_plain_lem shown c (eqb-false _ _ s) (eqb-false _ _ t) (eqb-false _ _ p) (eqb-false _ _ a) (eqb-false _ _ m) (eqb-false _ _ k)) (plain_short c)))))))

parts_short : (form : Str) → Short (room_for form) (parts shown form)
unfolding parts room_for ◌>>=◌ ret
parts_short [] f at w t e = got_move (λ z q. length z ≤ 0) e (omega arith)
parts_short (c ∷ cs) f at w t e =
    let a = then_got (part_of shown c f at) _ e in
    let n = then_got (parts shown cs f a.1) _ a.3 in
    got_move (λ z q. length z ≤ longest c + room_for cs) n.3
    (omega (arith, part_short c f at a.0 a.1 a.2, parts_short cs f a.1 n.0 n.1 n.2, length-append a.0 n.0))

-- ---- lines

shown_short : (l r : Str) → shown_log_line l ≡ some r → length r ≤ max_readable_line + 1
unfolding shown_log_line shown_line_by shown_request shown_by
shown_short l r e =
    let a = lined_some (bind (frame l) shown_request) r e in
    let b = then_some (frame l) shown_request a.0 a.1 in
    let c = then_some (good b.0) (shown_by (parts shown request_form) 0) a.0 b.2 in
    let p = printed_some _ a.0 c.2 in
    let w = whole_some c.0 (parts shown request_form c.0 0) a.0 p.0 in
    omega (arith, ap length a.2, length-append a.0 (10 ∷ []), parts_short request_form c.0 0 a.0 (length c.0) w, room_request)

-- a readable line that packs, with its LF
pub readable_line_short : (r l : Str) → packed_log_line r ≡ some l → length r ≤ max_readable_line + 1
readable_line_short r l e = let q = readable_line_returns r l e in shown_short l r q.2
