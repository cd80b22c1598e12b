-- How long the readable text of an accepted table can be: at most `max_readable_text` bytes. A byte of a frame is two digits of the table's text, so each line is compared with the
-- readable line that it is shown as, and the limits on groups, members and rules bound by how much all readable lines together are longer.
use mathlib.Core.Path.{◌≡◌, refl, sym, ap, ◌∙◌}
use mathlib.Core.Bool.{true, false}
use mathlib.Core.List.{List, [], ◌∷◌}
use mathlib.Core.Option.{Option, none, some, bind}
use Prim.Native.Nat.{ℕ, ◌+◌, ◌*◌, ◌-◌, ◌≤◌, ◌<◌}
use native.Mathlib.Omega.{arith}
use borrow.Author.Tests.{eqb-true, ltb-true, ltb-false, le-leb, leb-false}
use lib.Dec.{eqb, leb, ltb}
use lib.ListN.{length, drop, get_or, length-append, length-drop}
use Rattle.limits.specs.Limits.{max_table_text, max_groups, max_members, max_rules, max_short_string, max_string}
use Rattle.limits.specs.Sizes.{max_readable_text}
use Rattle.text.specs.Test.{◌or◌, whether◌then◌else◌}
use Rattle.text.specs.String.{Str, bytes, joined}
use Rattle.text.specs.Frame.{got, unread, ◌>>=◌, ret, byte, run, string, string_bytes}
use Rattle.text.specs.Refusal.{clear}
use Rattle.text.proofs.Tests.{by, clash, or_false_l, or_false_r}
use Rattle.path.specs.Refusal.{unsized, over_limit}
use Rattle.text.proofs.Codec.{never_got, then_got, got_move, byte_took, string_took}
use Rattle.path_read.specs.Text.{escaped}
use Rattle.path_read.specs.Calls.{text_for}
use Rattle.path_read.proofs.Longest.{value_length, text_twice}
use Rattle.table_line.specs.Lines.{lines, frame}
use Rattle.table.specs.Frame.{Entry, version, group, member, rule, unknown, version_body, group_body, member_body, rule_body, rule_entry, body, entry_of}
use Rattle.table.specs.Refusal.{reads, framed, decoded, line_of, Earlier, kind_of, out_of_order, unsized_short, past_limit, refusal, first, with, after}
use Rattle.table.specs.Text.{unless, judge, check}
use Rattle.table.specs.Checked.{Accepted, Refused}
use Rattle.table.proofs.Numbers.{refusal_clear}
use Rattle.readable_parts.specs.Parts.{part_of, rest, of_rest, quoted, hex_text, shown_string, shown_time, shown_path, shown_code, shown_plain, shown}
use Rattle.readable_lines.specs.Form.{parts, form_by, shown_by, shown_frame}
use Rattle.readable_lines.specs.Lines.{shown_line_by, shown_line}
use Rattle.readable.specs.Texts.{onward, ending}
use Rattle.readable.specs.Ended as ended
use Rattle.readable_parts.proofs.Digits.{hex_length}
use Rattle.readable_laws.proofs.HexLines.{frame_text}
use Rattle.readable_laws.proofs.Frames.{whole_some, printed_some}
use Rattle.readable_laws.proofs.Times.{lines_text}
use Rattle.readable_laws.proofs.Texts.{lined_some, then_some, joint, joint_cons}
use Rattle.readable_laws.proofs.Accepted.{frame_told, entry_told, kind_told, line_shows}

-- ---- parts

-- by how much a part can be longer than two digits for each of its bytes: the words for the code bytes, and what stands for itself
unfoldable extra : ℕ → ℕ
extra c =
    whether eqb c 83 then 0
    else whether eqb c 84 then 0
    else whether eqb c 80 then 0
    else whether eqb c 65 then 4
    else whether eqb c 77 then 3
    else whether eqb c 75 then 3
    else 1

unfoldable extras : Str → ℕ
extras [] = 0
extras (c ∷ cs) = extra c + extras cs

-- w, read from `at` to t, is longer than two digits for each byte by n at most
abbrev Longer : ℕ → Str → ℕ → ℕ → Type 0
Longer n w at t = length w + 2 * at ≤ 2 * t + n

string_longer : (f : Str) (at : ℕ) (w : Str) (t : ℕ) → shown_string f at ≡ got w t → Longer 0 w at t
unfolding shown_string ◌>>=◌ ret whether◌then◌else◌ unknown quoted string_bytes
string_longer f at w t e =
    let a = then_got (string f at) _ e in
    let k = string_took f at a.0 a.1 a.2 in
    let l : length f - at ≡ length a.0 + 1 + (length f - a.1) = sym (length-drop at f) ∙ ap length k.same ∙ length-append (string_bytes a.0) (drop a.1 f) ∙ omega (arith, length-drop a.1 f) in
    by (leb (length a.0) max_string)
    (λ u. got_move (λ z q. Longer 0 z at q) (rw u at a.3) (omega (arith, l, k.fits, length-append (joined escaped a.0) (93 ∷ []), value_length a.0)))
    (λ u. never_got refl (rw u at a.3))

time_longer : (f : Str) (at : ℕ) (w : Str) (t : ℕ) → shown_time f at ≡ got w t → Longer 0 w at t
unfolding shown_time whether◌then◌else◌
time_longer f at w t e =
    by (eqb (length f - at) 8)
    (λ u. let h : length f - at ≡ 8 = eqb-true _ _ u in
    got_move (λ z q. Longer 0 z at q) (rw u at e) (omega (arith, hex_length (drop at f), length-drop at f)))
    (λ u. never_got refl (rw u at e))

path_longer : (f : Str) (at : ℕ) (w : Str) (t : ℕ) → shown_path f at ≡ got w t → Longer 0 w at t
unfolding shown_path of_rest whether◌then◌else◌
path_longer f at w t e =
    by (ltb at (length f)) (λ u. go (text_for (drop at f)) refl (rw u at e) (ltb-true _ _ u)) (λ u. never_got refl (rw u at e))
  where
    go : (o : Option Str) → text_for (drop at f) ≡ o → rest o (length f) ≡ got w t → at < length f → Longer 0 w at t
    go none i k h = let k' : unread ≡ got w t = (unfold rest in k) in never_got refl k'
    go (some s) i k h = let k' : got s (length f) ≡ got w t = (unfold rest in k) in got_move (λ z q. Longer 0 z at q) k' (omega (arith, text_twice (drop at f) s i, length-drop at f))

code_longer : (n m : ℕ) (a b f : Str) (at : ℕ) (w : Str) (t : ℕ) → length a ≤ m + 2 → length b ≤ m + 2 → shown_code n a b f at ≡ got w t → Longer m w at t
unfolding shown_code ◌>>=◌ ret whether◌then◌else◌ unknown
code_longer n m a b f at w t x y e =
    let c = then_got (byte f at) _ e in
    let k = byte_took f at c.0 c.1 c.2 in
    let l : length f - at ≡ 1 + (length f - c.1) = sym (length-drop at f) ∙ ap length k.same ∙ length-append (c.0 ∷ []) (drop c.1 f) ∙ omega (arith, length-drop c.1 f) in
    by (eqb c.0 n)
    (λ u. got_move (λ z q. Longer m z at q) (rw u at c.3) (omega (arith, l, k.fits)))
    (λ u. by (eqb c.0 (n + 1))
    (λ v. got_move (λ z q. Longer m z at q) (rw (u, v) at c.3) (omega (arith, l, k.fits)))
    (λ v. never_got refl (rw (u, v) at c.3)))

part_longer : (c : ℕ) (f : Str) (at : ℕ) (w : Str) (t : ℕ) → part_of shown c f at ≡ got w t → Longer (extra c) w at t
unfolding part_of extra shown whether◌then◌else◌
part_longer c f at w t e =
    by (eqb c 83) (λ u. rw u (string_longer f at w t (rw u at e)))
    (λ u₁. by (eqb c 84) (λ u. rw (u₁, u) (time_longer f at w t (rw (u₁, u) at e)))
    (λ u₂. by (eqb c 80) (λ u. rw (u₁, u₂, u) (path_longer f at w t (rw (u₁, u₂, u) at e)))
    (λ u₃. by (eqb c 65) (λ u. rw (u₁, u₂, u₃, u) (code_longer 0 4 (bytes "deny") (bytes "permit") f at w t (omega arith) (omega arith) (rw (u₁, u₂, u₃, u) at e)))
    (λ u₄. by (eqb c 77) (λ u. rw (u₁, u₂, u₃, u₄, u) (code_longer 1 3 (bytes "read") (bytes "write") f at w t (omega arith) (omega arith) (rw (u₁, u₂, u₃, u₄, u) at e)))
    (λ u₅. by (eqb c 75) (λ u. rw (u₁, u₂, u₃, u₄, u₅, u) (code_longer 0 3 (bytes "user") (bytes "group") f at w t (omega arith) (omega arith) (rw (u₁, u₂, u₃, u₄, u₅, u) at e)))
    (λ u₆. rw (u₁, u₂, u₃, u₄, u₅, u₆) (plain_longer (rw (u₁, u₂, u₃, u₄, u₅, u₆) at e))))))))
  where
    plain_longer : shown_plain c f at ≡ got w t → Longer 1 w at t
    plain_longer h = let h' : got (c ∷ []) at ≡ got w t = (unfold shown_plain ret in h) in got_move (λ z q. Longer 1 z at q) h' (omega arith)

parts_longer : (cs f : Str) (at : ℕ) (w : Str) (t : ℕ) → parts shown cs f at ≡ got w t → Longer (extras cs) w at t
unfolding parts extras ◌>>=◌ ret
parts_longer [] f at w t e = got_move (λ z q. Longer 0 z at q) e (omega arith)
parts_longer (c ∷ cs) f at w t e =
    let a = then_got (part_of shown c f at) _ e in
    let b = then_got (parts shown cs f a.1) _ a.3 in
    let x = part_longer c f at a.0 a.1 a.2 in
    let y = parts_longer cs f a.1 b.0 b.1 b.2 in
    got_move (λ z q. Longer (extra c + extras cs) z at q) b.3 (omega (arith, x, y, length-append a.0 b.0))

-- ---- lines

-- by how much a readable line can be longer than the hex line of that kind
unfoldable slack : Entry → ℕ
slack (version v t) = 12
slack (group n) = 4
slack (member m) = 6
slack (rule r) = 29

module _ (f : Str) (e : Entry) (w : Str) where
  abbrev Close : Entry → Type 0
  Close x = length w ≤ 2 * length f + slack x

  -- a form is as much longer as its parts, less the two digits of the kind byte
  form_longer : (cs : Str) (n : ℕ) → extras cs ≡ n + 2 → parts shown cs f 1 ≡ got w (length f) → length w ≤ 2 * length f + n
  form_longer cs n i g = omega (arith, parts_longer cs f 1 w (length f) g)

  version_longer : version_body f 1 ≡ got e (length f) → parts shown (bytes "version S time T") f 1 ≡ got w (length f) → Close e
  unfolding version_body ◌>>=◌ ret slack extras extra whether◌then◌else◌
  version_longer h g =
      let a = then_got (string f 1) _ h in
      let b = then_got (run 8 f a.1) _ a.3 in
      got_move (λ x q. Close x) b.3 (form_longer (bytes "version S time T") 12 refl g)

  group_longer : group_body f 1 ≡ got e (length f) → parts shown (bytes "group S") f 1 ≡ got w (length f) → Close e
  unfolding group_body ◌>>=◌ ret slack extras extra whether◌then◌else◌
  group_longer h g = let a = then_got (string f 1) _ h in got_move (λ x q. Close x) a.3 (form_longer (bytes "group S") 4 refl g)

  member_longer : member_body f 1 ≡ got e (length f) → parts shown (bytes "member S S") f 1 ≡ got w (length f) → Close e
  unfolding member_body ◌>>=◌ ret slack extras extra whether◌then◌else◌
  member_longer h g =
      let a = then_got (string f 1) _ h in
      let b = then_got (string f a.1) _ a.3 in
      got_move (λ x q. Close x) b.3 (form_longer (bytes "member S S") 6 refl g)

  rule_longer : rule_entry f 1 ≡ got e (length f) → parts shown (bytes "rule A M K S id S origin S P") f 1 ≡ got w (length f) → Close e
  unfolding rule_entry ◌>>=◌ ret slack extras extra whether◌then◌else◌
  rule_longer h g = let a = then_got (rule_body f 1) _ h in got_move (λ x q. Close x) a.3 (form_longer (bytes "rule A M K S id S origin S P") 29 refl g)

  kind_longer : (k : ℕ) → body k f 1 ≡ got e (length f) → form_by shown k f 1 ≡ got w (length f) → Close e
  unfolding body form_by whether◌then◌else◌ unknown
  kind_longer k h g =
      by (eqb k 1) (λ u. version_longer (rw u at h) (rw u at g))
      (λ u₁. by (eqb k 2) (λ u. group_longer (rw (u₁, u) at h) (rw (u₁, u) at g))
      (λ u₂. by (eqb k 3) (λ u. member_longer (rw (u₁, u₂, u) at h) (rw (u₁, u₂, u) at g))
      (λ u₃. by (eqb k 4) (λ u. rule_longer (rw (u₁, u₂, u₃, u) at h) (rw (u₁, u₂, u₃, u) at g))
      (λ u₄. never_got refl (rw (u₁, u₂, u₃, u₄) at h)))))

line_longer : (l f r : Str) (e : Entry) → frame l ≡ some f → entry_of f ≡ some e → shown_line l ≡ some r → length r ≤ length l + slack e
unfolding shown_line shown_line_by shown_frame shown_by
line_longer l f r e i j k =
    let t = frame_text l f i in
    let a = lined_some (bind (frame l) shown_frame) r k in
    let b = then_some (frame l) shown_frame a.0 a.1 in
    let q : b.0 ≡ f = (let z : some b.0 ≡ some f = sym b.1 ∙ i in cc) in
    let c : shown_frame f ≡ some a.0 = ap shown_frame (sym q) ∙ b.2 in
    let p = printed_some _ a.0 c in
    let w = whole_some f (form_by shown (get_or f 0 0) f 1) a.0 p.0 in
    let x = kind_longer f e a.0 (get_or f 0 0) (kind_told f t.1 e j) w in
    let y : length l ≡ 2 * length f + 1 = ap length t.0 ∙ length-append (hex_text f) (10 ∷ []) ∙ omega (arith, hex_length f) in
    let z : length r ≡ length a.0 + 1 = ap length a.2 ∙ length-append a.0 (10 ∷ []) in
    omega arith

-- ---- all lines

-- by how much the readable lines that can still follow are longer
unfoldable spare : Earlier → ℕ
spare b = (whether eqb b.kind 0 then 12 else 0) + 4 * (max_groups - length b.groups) + 6 * (max_members - length b.members) + 29 * (max_rules - length b.rules)

spends : (b : Earlier) (e : Entry) → refusal b (reads e) ≡ clear → slack e + spare (with b e) ≤ spare b
unfolding slack spare with past_limit kind_of out_of_order whether◌then◌else◌ ◌or◌
spends b (version v t) h =
    let c = refusal_clear b (version v t) h in
    by (eqb b.kind 0) (λ u. rw u (omega arith)) (λ u. let z : (true or ltb 1 b.kind) ≡ false = rw u at c.0 in clash refl z)
spends b (group n) h =
    let c = refusal_clear b (group n) h in
    let l : length b.groups < max_groups = leb-false max_groups _ (or_false_r (unsized n) _ c.1) in
    omega (arith, length-append b.groups (n ∷ []))
spends b (member m) h =
    let c = refusal_clear b (member m) h in
    let l : length b.members < max_members = leb-false max_members _ (or_false_r (unsized m.group or unsized m.user) _ c.1) in
    omega (arith, length-append b.members (m ∷ []))
spends b (rule r) h =
    let c = refusal_clear b (rule r) h in
    let o = or_false_r (unsized r.subject or unsized_short r.id) _ (or_false_l _ (over_limit r.path) c.1) in
    let l : length b.rules < max_rules = leb-false max_rules _ (or_false_r (ltb max_short_string (length r.origin)) _ o) in
    omega (arith, length-append b.rules (r ∷ []))

after_with : (b : Earlier) (l f : Str) (e : Entry) → frame l ≡ some f → entry_of f ≡ some e → after b (line_of l) ≡ with b e
unfolding after line_of decoded framed
after_with b l f e i j = rw (i, j)

line_spends : (b : Earlier) (l : Str) → refusal b (line_of l) ≡ clear → (r : Str) × (shown_line l ≡ some r) × (length r + spare (after b (line_of l)) ≤ length l + spare b)
line_spends b l h =
    let a = frame_told b (frame l) (unfold line_of in h) in
    let c = entry_told b (entry_of a.0) a.2 in
    let r = line_shows b l h in
    let k = line_longer l a.0 r.0 c.0 a.1 c.1 r.1 in
    let s = spends b c.0 c.2 in
    (r.0, r.1, rw (after_with b l a.0 c.0 a.1 c.1) (omega arith))

fits_all : (ls : List Str) (n : ℕ) (b : Earlier) → judge n b ls ≡ Accepted → (room m at : ℕ) → at + length (joint ls) + spare b ≤ room → ending shown_line room m at ls ≡ ended.Full → ⊥
unfolding judge unless ending onward whether◌then◌else◌
fits_all [] n b j room m at h e = let z : ◌≡◌ {A = ℕ} 0 1 = cc in absurd (omega arith)
fits_all (l ∷ ls) n b j room m at h e =
    by (eqb (refusal b (line_of l)) clear)
    (λ u. let r = line_spends b l (eqb-true _ _ u) in
    let j' : judge (n + 1) (after b (line_of l)) ls ≡ Accepted = rw u at j in
    let y : length (joint (l ∷ ls)) ≡ length l + length (joint ls) = ap length (joint_cons l ls) ∙ length-append l (joint ls) in
    let v : length r.0 ≤ room - at = omega (arith, r.2) in
    fits_all ls (n + 1) (after b (line_of l)) j' room (m + 1) (at + length r.0) (omega (arith, r.2)) (rw (r.1, le-leb _ _ v) at e))
    (λ u. let z : Refused (refusal b (line_of l)) n ≡ Accepted = rw u at j in let y : ◌≡◌ {A = ℕ} 0 1 = cc in absurd (omega arith))

-- `show` of an accepted table never lacks this room
pub accepted_fits : (t : Str) → check t ≡ Accepted → (room : ℕ) → max_readable_text ≤ room → ending shown_line room 1 0 (lines t) ≡ ended.Full → ⊥
unfolding check whether◌then◌else◌
accepted_fits t e room h =
    by (ltb max_table_text (length t))
    (λ u. let z : Refused 1 0 ≡ Accepted = rw u at e in let y : ◌≡◌ {A = ℕ} 0 1 = cc in absurd (omega arith))
    (λ u. by (eqb (length t) 0)
    (λ v. let z : Refused 4 1 ≡ Accepted = rw (u, v) at e in let y : ◌≡◌ {A = ℕ} 0 1 = cc in absurd (omega arith))
    (λ v. let l : length t ≤ max_table_text = ltb-false _ _ u in
    let k : length (joint (lines t)) ≡ length t = ap length (lines_text t) in
    let s : spare first ≡ max_readable_text - max_table_text = (unfold spare first whether◌then◌else◌ in refl) in
    fits_all (lines t) 1 first (rw (u, v) at e) room 1 0 (omega arith)))
