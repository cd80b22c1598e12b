-- Every line of an accepted table is shown.
use mathlib.Core.Path.{◌≡◌, refl, ap, ◌∙◌}
use mathlib.Core.Bool.{Bool, true, false, not}
use mathlib.Core.List.{List, [], ◌∷◌, ◌++◌}
use mathlib.Core.Option.{Option, none, some, bind}
use Prim.Native.Nat.{ℕ, ◌+◌, ◌-◌, ◌≤◌}
use native.Mathlib.Omega.{arith}
use borrow.Author.Tests.{eq-eqb, eqb-true, ltb-true, ltb-false, leb-true, not-false}
use lib.Dec.{eqb, leb, ltb}
use lib.ListN.{length, drop, get_or}
use Rattle.limits.specs.Limits.{max_table_text, max_rules, max_short_string, max_string}
use Rattle.text.specs.Test.{◌and◌, ◌or◌, whether◌then◌else◌, all, any}
use Rattle.text.specs.Byte.{is_print}
use Rattle.text.specs.String.{Str, bytes}
use Rattle.text.specs.Frame.{got, ◌>>=◌, ret, run, string}
use Rattle.text.specs.Refusal.{clear}
use Rattle.text.proofs.Tests.{by, or_false_l, or_false_r}
use Rattle.text.proofs.Frames.{byte_got, byte_unread}
use Rattle.text.proofs.Codec.{never_got, then_got, got_move}
use Rattle.path.specs.Bytes.{path}
use Rattle.path.specs.Refusal.{unsized, over_limit, stray_byte, misplaced, key_twice, good_path}
use Rattle.path_read.proofs.Complete.{sized}
use Rattle.table_line.specs.Lines.{lines, frame}
use Rattle.table.specs.Table.{Rule}
use Rattle.table.specs.Frame.{Entry, version, group, member, rule, unknown, code, version_body, group_body, member_body, rule_body, rule_entry, body, entry, whole, entry_of}
use Rattle.table.specs.Refusal.{reads, framed, decoded, line_of, Earlier, unsized_short, past_limit, stray, strays, misplaces, same_id, repeats, refusal, first, after}
use Rattle.table.specs.Text.{unless, judge, check}
use Rattle.table.specs.Checked.{Accepted, Refused}
use Rattle.table.proofs.Numbers.{refusal_clear}
use Rattle.readable_parts.specs.Parts.{part_of, hex_text, shown}
use Rattle.readable_lines.specs.Form.{form_by, printed, shown_by, shown_frame}
use Rattle.readable_lines.specs.Lines.{lined, shown_line_by, shown_line}
use Rattle.readable.specs.Texts.{onward, ending}
use Rattle.readable.specs.Ended as ended
use Rattle.readable_lines.proofs.Converting.{kind_version_lem, kind_group_lem, kind_member_lem, kind_rule_lem}
use Rattle.readable_laws.proofs.HexLines.{Small, frame_text}
use Rattle.readable_laws.proofs.Times.{small_drop}
use Rattle.readable_laws.proofs.Frames.{whole_some}
use Rattle.readable_laws.proofs.Printing.{hex_print}
use Rattle.readable_laws.proofs.Forward.{Reads, part_then, parts_end, plain, plain_then, time_part, Well, a_string, a_code, a_path}

-- ---- what a line that nothing refuses holds

unfoldable Fine : Entry → Type 0
Fine (version v t) = Well v
Fine (group n) = Well n
Fine (member m) = Well m.group × Well m.user
Fine (rule r) = Well r.subject × Well r.id × Well r.origin × (good_path r.path ≡ true)

short : (s : Str) → unsized_short s ≡ false → length s ≤ max_string
unfolding unsized_short
short s h = let l : length s ≤ max_short_string = ltb-false max_short_string (length s) (or_false_r (eqb (length s) 0) _ h) in omega arith

prints : (s : Str) → stray s ≡ false → all is_print s ≡ true
unfolding stray
prints s h = not-false _ h

faultless : (a b c d : Bool) → a ≡ false → b ≡ false → c ≡ false → d ≡ false → not (a or b or c or d) ≡ true
unfolding ◌or◌
faultless a b c d x y z w = rw (x, y, z, w)

fine : (b : Earlier) (e : Entry) → refusal b (reads e) ≡ clear → Fine e
unfolding Fine past_limit strays misplaces repeats good_path
fine b (version v t) h = let c = refusal_clear b (version v t) h in (short v c.1, prints v c.2)
fine b (group n) h = let c = refusal_clear b (group n) h in (sized n (or_false_l _ _ c.1), prints n c.2)
fine b (member m) h =
    let c = refusal_clear b (member m) h in
    let l = or_false_l _ _ c.1 in
    ((sized m.group (or_false_l _ _ l), prints m.group (or_false_l _ _ c.2)), (sized m.user (or_false_r (unsized m.group) _ l), prints m.user (or_false_r (stray m.group) _ c.2)))
fine b (rule r) h =
    let c = refusal_clear b (rule r) h in
    let l = or_false_l _ _ c.1 in
    let si = or_false_l _ _ l in
    let o = or_false_l _ _ (or_false_r (unsized r.subject or unsized_short r.id) _ l) in
    let s = or_false_l _ _ c.2 in
    let t = or_false_r (stray r.subject) _ s in
    let ov = or_false_r ((unsized r.subject or unsized_short r.id) or (ltb max_short_string (length r.origin) or leb max_rules (length b.rules))) _ c.1 in
    let sb = or_false_r (stray r.subject or (stray r.id or stray r.origin)) _ c.2 in
    let kt = or_false_r (any (same_id r) b.rules) _ c.4 in
    let g : not (over_limit r.path or stray_byte r.path or misplaced r.path or key_twice r.path) ≡ true = faultless (over_limit r.path) (stray_byte r.path) (misplaced r.path) (key_twice r.path) ov sb c.3 kt in (
      (sized r.subject (or_false_l _ _ si), prints r.subject (or_false_l _ _ s)),
      (short r.id (or_false_r (unsized r.subject) _ si), prints r.id (or_false_l _ _ t)),
      ((let q : length r.origin ≤ max_short_string = ltb-false max_short_string (length r.origin) o in omega arith), prints r.origin (or_false_r (stray r.id) _ t)),
      g,
    )

-- ---- each kind

run_told : (f : Str) (p : ℕ) (t : Str) (q : ℕ) → run 8 f p ≡ got t q → (q ≡ p + 8) × (8 ≤ length f - p)
unfolding run whether◌then◌else◌
run_told f p t q e =
    by (leb 8 (length f - p))
    (λ u. got_move (λ d z. (z ≡ p + 8) × (8 ≤ length f - p)) (rw u at e) (refl, leb-true _ _ u))
    (λ u. never_got refl (rw u at e))

module _ (f : Str) (m : Small f) where
  version_reads : (e : Entry) (t : ℕ) → version_body f 1 ≡ got e t → Fine e → t ≡ length f → Reads (bytes "version S time T") f 1
  unfolding version_body ◌>>=◌ ret Fine
  version_reads e t h =
      let a = then_got (string f 1) _ h in
      let c = then_got (run 8 f a.1) _ a.3 in
      got_move (λ x z. Fine x → z ≡ length f → Reads (bytes "version S time T") f 1) c.3
      (λ w l. let r = run_told f a.1 c.0 c.1 c.2 in
      plain_then (bytes "version ") _ f 1 (unfold plain ◌and◌ in refl)
      (a_string f _ 1 a.0 a.1 a.2 w
      (plain_then (bytes " time ") _ f a.1 (unfold plain ◌and◌ in refl)
      (part_then 84 [] f a.1 (hex_text (drop a.1 f)) (length f) (time_part f a.1 (omega (arith, r.0, r.1))) (hex_print (drop a.1 f) (small_drop a.1 f m)) (parts_end f)))))

  group_reads : (e : Entry) (t : ℕ) → group_body f 1 ≡ got e t → Fine e → t ≡ length f → Reads (bytes "group S") f 1
  unfolding group_body ◌>>=◌ ret Fine
  group_reads e t h =
      let a = then_got (string f 1) _ h in
      got_move (λ x z. Fine x → z ≡ length f → Reads (bytes "group S") f 1) a.3
      (λ w l. plain_then (bytes "group ") _ f 1 (unfold plain ◌and◌ in refl) (a_string f [] 1 a.0 a.1 a.2 w (rw l (parts_end f))))

  member_reads : (e : Entry) (t : ℕ) → member_body f 1 ≡ got e t → Fine e → t ≡ length f → Reads (bytes "member S S") f 1
  unfolding member_body ◌>>=◌ ret Fine
  member_reads e t h =
      let a = then_got (string f 1) _ h in
      let c = then_got (string f a.1) _ a.3 in
      got_move (λ x z. Fine x → z ≡ length f → Reads (bytes "member S S") f 1) c.3
      (λ w l. plain_then (bytes "member ") _ f 1 (unfold plain ◌and◌ in refl) (a_string f _ 1 a.0 a.1 a.2 w.0
      (plain_then (bytes " ") _ f a.1 (unfold plain ◌and◌ in refl) (a_string f [] a.1 c.0 c.1 c.2 w.1 (rw l (parts_end f))))))

  body_reads : (x : Rule) (t : ℕ) → rule_body f 1 ≡ got x t → Fine (rule x) → t ≡ length f → Reads (bytes "rule A M K S id S origin S P") f 1
  unfolding rule_body ◌>>=◌ ret Fine
  body_reads x t h =
      let a = then_got (code 0 1 f 1) _ h in
      let b = then_got (code 1 2 f a.1) _ a.3 in
      let c = then_got (code 0 1 f b.1) _ b.3 in
      let s = then_got (string f c.1) _ c.3 in
      let i = then_got (string f s.1) _ s.3 in
      let o = then_got (string f i.1) _ i.3 in
      let p = then_got (path f o.1) _ o.3 in
      got_move (λ y z. Fine (rule y) → z ≡ length f → Reads (bytes "rule A M K S id S origin S P") f 1) p.3
      (λ w l. plain_then (bytes "rule ") _ f 1 (unfold plain ◌and◌ in refl)
      (a_code f 65 0 1 (bytes "deny") (bytes "permit") _ 1 a.0 a.1 (unfold part_of shown whether◌then◌else◌ in refl) refl a.2 (unfold all ◌and◌ in refl) (unfold all ◌and◌ in refl)
      (plain_then (bytes " ") _ f a.1 (unfold plain ◌and◌ in refl)
      (a_code f 77 1 2 (bytes "read") (bytes "write") _ a.1 b.0 b.1 (unfold part_of shown whether◌then◌else◌ in refl) refl b.2 (unfold all ◌and◌ in refl) (unfold all ◌and◌ in refl)
      (plain_then (bytes " ") _ f b.1 (unfold plain ◌and◌ in refl)
      (a_code f 75 0 1 (bytes "user") (bytes "group") _ b.1 c.0 c.1 (unfold part_of shown whether◌then◌else◌ in refl) refl c.2 (unfold all ◌and◌ in refl) (unfold all ◌and◌ in refl)
      (plain_then (bytes " ") _ f c.1 (unfold plain ◌and◌ in refl)
      (a_string f _ c.1 s.0 s.1 s.2 w.0
      (plain_then (bytes " id ") _ f s.1 (unfold plain ◌and◌ in refl)
      (a_string f _ s.1 i.0 i.1 i.2 w.1
      (plain_then (bytes " origin ") _ f i.1 (unfold plain ◌and◌ in refl)
      (a_string f _ i.1 o.0 o.1 o.2 w.2
      (plain_then (bytes " ") _ f o.1 (unfold plain ◌and◌ in refl)
      (a_path f o.1 p.0 (p.2 ∙ ap (got p.0) l) w.3))))))))))))))

  rule_reads : (e : Entry) (t : ℕ) → rule_entry f 1 ≡ got e t → Fine e → t ≡ length f → Reads (bytes "rule A M K S id S origin S P") f 1
  unfolding rule_entry ◌>>=◌ ret
  rule_reads e t h =
      let z = then_got (rule_body f 1) _ h in
      got_move (λ x q. Fine x → q ≡ length f → Reads (bytes "rule A M K S id S origin S P") f 1) z.3 (body_reads z.0 z.1 z.2)

  kind_reads : (k : ℕ) (e : Entry) → body k f 1 ≡ got e (length f) → Fine e → (w : Str) × (form_by shown k f 1 ≡ got w (length f)) × (all is_print w ≡ true)
  unfolding body whether◌then◌else◌ unknown
  kind_reads k e h g =
      by (eqb k 1) (λ u. let r = version_reads e (length f) (rw u at h) g refl in (r.text, kind_version_lem shown k f 1 (eqb-true _ _ u) ∙ r.is, r.prints))
      (λ u₁. by (eqb k 2) (λ u. let r = group_reads e (length f) (rw (u₁, u) at h) g refl in (r.text, kind_group_lem shown k f 1 (eqb-true _ _ u) ∙ r.is, r.prints))
      (λ u₂. by (eqb k 3) (λ u. let r = member_reads e (length f) (rw (u₁, u₂, u) at h) g refl in (r.text, kind_member_lem shown k f 1 (eqb-true _ _ u) ∙ r.is, r.prints))
      (λ u₃. by (eqb k 4) (λ u. let r = rule_reads e (length f) (rw (u₁, u₂, u₃, u) at h) g refl in (r.text, kind_rule_lem shown k f 1 (eqb-true _ _ u) ∙ r.is, r.prints))
      (λ u₄. never_got refl (rw (u₁, u₂, u₃, u₄) at h)))))

  -- after the kind byte
  pub kind_told : (e : Entry) → entry_of f ≡ some e → body (get_or f 0 0) f 1 ≡ got e (length f)
  unfolding entry_of entry ◌>>=◌
  kind_told e h =
      let w = whole_some f _ e h in
      by (ltb 0 (length f))
      (λ u. rw (byte_got f 0 (ltb-true _ _ u)) at w)
      (λ u. never_got refl (rw (byte_unread f 0 (ltb-false _ _ u)) at w))

  frame_shows : (e : Entry) → entry_of f ≡ some e → Fine e → (s : Str) × (shown_frame f ≡ some s)
  unfolding shown_frame shown_by whole printed whether◌then◌else◌
  frame_shows e h g = let r = kind_reads (get_or f 0 0) e (kind_told e h) g in (r.0, rw (r.1, eq-eqb (length f) (length f) refl, r.2))

-- ---- each line

pub entry_told : (b : Earlier) (o : Option Entry) → refusal b (framed o) ≡ clear → (e : Entry) × (o ≡ some e) × (refusal b (reads e) ≡ clear)
unfolding framed refusal
entry_told b none h = let z : ◌≡◌ {A = ℕ} 3 clear = h in absurd (omega arith)
entry_told b (some e) h = (e, refl, h)

pub frame_told : (b : Earlier) (o : Option Str) → refusal b (decoded o) ≡ clear → (f : Str) × (o ≡ some f) × (refusal b (framed (entry_of f)) ≡ clear)
unfolding decoded refusal
frame_told b none h = let z : ◌≡◌ {A = ℕ} 2 clear = h in absurd (omega arith)
frame_told b (some f) h = (f, refl, h)

shown_line_lem : (l f s : Str) → frame l ≡ some f → shown_frame f ≡ some s → shown_line l ≡ some (s ++ (10 ∷ []))
unfolding shown_line shown_line_by bind lined
shown_line_lem l f s e i = rw (e, i)

pub line_shows : (b : Earlier) (l : Str) → refusal b (line_of l) ≡ clear → (r : Str) × (shown_line l ≡ some r)
unfolding line_of
line_shows b l h =
    let a = frame_told b (frame l) h in
    let e = entry_told b (entry_of a.0) a.2 in
    let s = frame_shows a.0 (frame_text l a.0 a.1).1 e.0 e.1 (fine b e.0 e.2) in
    (s.0 ++ (10 ∷ []), shown_line_lem l a.0 s.0 a.1 s.1)

-- ---- all lines

shows_all : (ls : List Str) (n : ℕ) (b : Earlier) → judge n b ls ≡ Accepted → (room m at l : ℕ) → ending shown_line room m at ls ≡ ended.Unread l → ⊥
unfolding judge unless ending onward whether◌then◌else◌
shows_all [] n b j room m at l e = let z : ◌≡◌ {A = ℕ} 0 1 = cc in absurd (omega arith)
shows_all (x ∷ ls) n b j room m at l e =
    by (eqb (refusal b (line_of x)) clear)
    (λ u. let r = line_shows b x (eqb-true _ _ u) in
    let j' : judge (n + 1) (after b (line_of x)) ls ≡ Accepted = rw u at j in
    by (leb (length r.0) (room - at))
    (λ v. shows_all ls (n + 1) (after b (line_of x)) j' room (m + 1) (at + length r.0) l (rw (r.1, v) at e))
    (λ v. let z : ended.Full ≡ ended.Unread l = rw (r.1, v) at e in let y : ◌≡◌ {A = ℕ} 0 1 = cc in absurd (omega arith)))
    (λ u. let z : Refused (refusal b (line_of x)) n ≡ Accepted = rw u at j in let y : ◌≡◌ {A = ℕ} 0 1 = cc in absurd (omega arith))

-- `show` of an accepted table has no line that it cannot show: there is room, or there is not
pub accepted_shows : (t : Str) → check t ≡ Accepted → (room l : ℕ) → ending shown_line room 1 0 (lines t) ≡ ended.Unread l → ⊥
unfolding check whether◌then◌else◌
accepted_shows t e room l =
    by (ltb max_table_text (length t))
    (λ u. let z : Refused 1 0 ≡ Accepted = rw u at e in let y : ◌≡◌ {A = ℕ} 0 1 = cc in absurd (omega arith))
    (λ u. by (eqb (length t) 0)
    (λ v. let z : Refused 4 1 ≡ Accepted = rw (u, v) at e in let y : ◌≡◌ {A = ℕ} 0 1 = cc in absurd (omega arith))
    (λ v. shows_all (lines t) 1 first (rw (u, v) at e) room 1 0 l))
