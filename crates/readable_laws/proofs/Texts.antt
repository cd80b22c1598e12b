-- `show` and `pack` are each other's inverse: line by line, and for whole texts.
use mathlib.Core.Path.{◌≡◌, refl, sym, ap, ◌∙◌}
use mathlib.Core.Bool.{true, false}
use mathlib.Core.List.{List, [], ◌∷◌, ◌++◌, append_assoc}
use mathlib.Core.Option.{Option, none, some, bind, map}
use Prim.Native.Nat.{ℕ, suc, ◌+◌, ◌-◌, ◌/◌, ◌%◌, ◌≤◌, ◌<◌}
use native.Mathlib.Omega.{arith}
use borrow.Author.Tests.{ne_eqb, eqb-true, ltb-true, ltb-false, leb-true, le-leb}
use lib.Dec.{eqb, leb, ltb}
use lib.ListN.{length, take, drop, get_or, length-append, take-append-drop}
use lib.Seq.{drop-cons, drop-length}
use Rattle.limits.specs.Limits.{max_table_text}
use Rattle.text.specs.Test.{whether◌then◌else◌, all}
use Rattle.text.specs.Byte.{is_print}
use Rattle.text.specs.String.{Str, joined}
use Rattle.text.specs.Refusal.{clear}
use Rattle.text.proofs.Tests.{by, and_l, and_r, and_left}
use Rattle.table_line.specs.Lines.{lines, onto, frame}
use Rattle.table.specs.Refusal.{decoded, line_of, Earlier, refusal, first, after}
use Rattle.table.specs.Text.{unless, judge, check}
use Rattle.table.specs.Checked.{Accepted, Refused}
use Rattle.readable_parts.specs.Parts.{hex_digit, hex_pair, hex_text}
use Rattle.readable_lines.specs.Form.{shown_by, shown_frame, packed_frame}
use Rattle.readable_lines.specs.Lines.{lined, unlined, shown_line_by, packed_line_by, shown_line, packed_line}
use Rattle.readable.specs.Texts.{onward, ending, storing, stored, packed_end, packed_table}
use Rattle.readable.specs.Ended as ended
use Rattle.readable_lines.proofs.Lining.{unlined_line}
use Rattle.readable_laws.proofs.HexLines.{Small, frame_text}
use Rattle.readable_laws.proofs.Times.{lines_text, snoc_same, hex_line_lem}
use Rattle.readable_laws.proofs.Frames.{pack_show, show_pack, printed_some}

-- ---- options

pub lined_some : (o : Option Str) (r : Str) → lined o ≡ some r → (s : Str) × (o ≡ some s) × (r ≡ s ++ (10 ∷ []))
unfolding lined
lined_some none r e = let z : ◌≡◌ {A = ℕ} 0 1 = cc in absurd (omega arith)
lined_some (some s) r e = let i : r ≡ s ++ (10 ∷ []) = cc in (s, refl, i)

pub then_some : (o : Option Str) (k : Str → Option Str) (r : Str) → bind o k ≡ some r → (a : Str) × (o ≡ some a) × (k a ≡ some r)
unfolding bind
then_some none k r e = let z : ◌≡◌ {A = ℕ} 0 1 = cc in absurd (omega arith)
then_some (some a) k r e = (a, refl, e)

hexed_some : (o : Option Str) (r : Str) → map hex_text o ≡ some r → (f : Str) × (o ≡ some f) × (r ≡ hex_text f)
hexed_some none r e = let z : ◌≡◌ {A = ℕ} 0 1 = cc in absurd (omega arith)
hexed_some (some f) r e = let i : r ≡ hex_text f = cc in (f, refl, i)

-- ---- a hex line, shown and packed again

pub line_back : (show pack : Str → Option Str) → ((f s : Str) → Small f → show f ≡ some s → pack s ≡ some f) → (l r : Str) → shown_line_by show l ≡ some r → packed_line_by pack r ≡ some l
unfolding shown_line_by packed_line_by
line_back show pack back l r e =
    let a = lined_some (bind (frame l) show) r e in
    let b = then_some (frame l) show a.0 a.1 in
    let t = frame_text l b.0 b.1 in
    let p = back b.0 a.0 t.1 b.2 in
    rw a.2 (forth a.0 b.0 p ∙ ap some (sym t.0))
  where
    forth : (s f : Str) → pack s ≡ some f → lined (map hex_text (bind (unlined (s ++ (10 ∷ []))) pack)) ≡ some (hex_text f ++ (10 ∷ []))
    forth s f p = unfold lined bind in rw (unlined_line s, p)

pub line_show_pack : (l r : Str) → shown_line l ≡ some r → packed_line r ≡ some l
unfolding shown_line packed_line
line_show_pack = line_back shown_frame packed_frame show_pack

-- ---- a whole table, shown and packed again

no_LF : (x : ℕ) → is_print x ≡ true → eqb x 10 ≡ false
no_LF x e = let h : 32 ≤ x = leb-true 32 x (and_left _ _ e) in ne_eqb x 10 (λ z. omega arith)

-- printable text and an LF are one line
print_line : (s more : Str) → all is_print s ≡ true → lines (s ++ (10 ∷ more)) ≡ (s ++ (10 ∷ [])) ∷ lines more
unfolding lines onto all
print_line [] more h = refl
print_line (x ∷ s) more h = rw (no_LF x (and_l _ _ h), print_line s more (and_r (is_print x) _ h))

-- the first line of what begins with a readable line
shown_first : (l r more : Str) → shown_line l ≡ some r → lines (r ++ more) ≡ r ∷ lines more
unfolding shown_line shown_line_by shown_frame shown_by
shown_first l r more e =
    let a = lined_some (bind (frame l) shown_frame) r e in
    let b = then_some (frame l) shown_frame a.0 a.1 in
    let p = printed_some _ a.0 b.2 in
    rw (a.2, append_assoc a.0 (10 ∷ []) more) (print_line a.0 more p.1)

abbrev pub joint : List Str → Str
joint ls = joined (λ l. l) ls

pub joint_cons : (l : Str) (ls : List Str) → joint (l ∷ ls) ≡ l ++ joint ls
unfolding joined
joint_cons l ls = refl

-- where a line is converted and there is room for it
module _ (g : Str → Option Str) (room n at : ℕ) (l w : Str) (ls : List Str) (e : g l ≡ some w) (h : length w ≤ room - at) where
  step_end : ending g room n at (l ∷ ls) ≡ ending g room (n + 1) (at + length w) ls
  unfolding ending onward whether◌then◌else◌
  step_end = rw (e, le-leb _ _ h)

  step_stored : stored g room at (l ∷ ls) ≡ w ++ stored g room (at + length w) ls
  unfolding stored storing whether◌then◌else◌
  step_stored = rw (e, le-leb _ _ h)

-- it is, where all lines are
step_told : (g : Str → Option Str) (room n at m : ℕ) (l : Str) (ls : List Str) → ending g room n at (l ∷ ls) ≡ ended.All m → (w : Str) × (g l ≡ some w) × (length w ≤ room - at)
unfolding ending
step_told g room n at m l ls e = go (g l) refl e
  where
    go : (o : Option Str) → g l ≡ o → onward room n at o (λ to. ending g room (n + 1) to ls) ≡ ended.All m → (w : Str) × (g l ≡ some w) × (length w ≤ room - at)
    go none j k = let k' : ended.Unread n ≡ ended.All m = unfold onward in k in let z : ◌≡◌ {A = ℕ} 0 1 = cc in absurd (omega arith)
    go (some w) j k =
        by (leb (length w) (room - at)) (λ u. (w, j, leb-true _ _ u))
        (λ u. let k' : ended.Full ≡ ended.All m = (unfold onward whether◌then◌else◌ in rw u at k) in let z : ◌≡◌ {A = ℕ} 0 1 = cc in absurd (omega arith))

-- g' takes each line back that g makes, where the lines made are well
module _ (g g' : Str → Option Str) (Well : List Str → Type 0) (well-tail : (l : Str) (ls : List Str) → Well (l ∷ ls) → Well ls)
    (back : (l r more : Str) → g l ≡ some r → Well (lines (r ++ more)) → (lines (r ++ more) ≡ r ∷ lines more) × (g' r ≡ some l)) where
  lines_back : (ls : List Str) (room n at m : ℕ) → ending g room n at ls ≡ ended.All m → Well (lines (stored g room at ls)) → (room' n' at' : ℕ) → at' + length (joint ls) ≤ room'
      → (ending g' room' n' at' (lines (stored g room at ls)) ≡ ended.All (at' + length (joint ls))) × (stored g' room' at' (lines (stored g room at ls)) ≡ joint ls)
  lines_back [] room n at m e x room' n' at' h = (ends, stays)
    where
      ends : ending g' room' n' at' (lines (stored g room at [])) ≡ ended.All (at' + length (joint []))
      ends = unfold ending stored lines joined in ap ended.All (let z : at' ≡ at' + 0 = omega arith in z)

      stays : stored g' room' at' (lines (stored g room at [])) ≡ joint []
      stays = unfold stored lines joined in refl
  lines_back (l ∷ ls) room n at m e x room' n' at' h =
      let s = step_told g room n at m l ls e in
      let r = s.0 in
      let more = stored g room (at + length r) ls in
      let j : stored g room at (l ∷ ls) ≡ r ++ more = step_stored g room n at l r ls s.1 s.2 in
      let k : length (joint (l ∷ ls)) ≡ length l + length (joint ls) = ap length (joint_cons l ls) ∙ length-append l (joint ls) in
      let f : length l ≤ room' - at' = omega arith in
      let x' : Well (lines (r ++ more)) = rw j at x in
      let b = back l r more s.1 x' in
      let x'' : Well (r ∷ lines more) = rw b.0 at x' in
      let i : lines (stored g room at (l ∷ ls)) ≡ r ∷ lines more = ap lines j ∙ b.0 in
      let ih = lines_back ls room (n + 1) (at + length r) m (sym (step_end g room n at l r ls s.1 s.2) ∙ e) (well-tail r (lines more) x'') room' (n' + 1) (at' + length l) (omega arith) in
      let y : at' + length l + length (joint ls) ≡ at' + length (joint (l ∷ ls)) = omega arith in (
        ap (ending g' room' n' at') i ∙ step_end g' room' n' at' r l (lines more) b.1 f ∙ ih.0 ∙ ap ended.All y,
        ap (stored g' room' at') i ∙ step_stored g' room' n' at' r l (lines more) b.1 f ∙ ap (λ (z : Str). l ++ z) ih.1 ∙ sym (joint_cons l ls),
      )

-- the readable text of a table packs to that table
pub show_then_pack : (t : Str) (room n : ℕ) → length t ≤ max_table_text → ending shown_line room 1 0 (lines t) ≡ ended.All n
    → (packed_end (stored shown_line room 0 (lines t)) ≡ ended.All (length t)) × (packed_table (stored shown_line room 0 (lines t)) ≡ t)
unfolding packed_end packed_table
show_then_pack t room n h e =
    let k : length (joint (lines t)) ≡ length t = ap length (lines_text t) in
    let r = lines_back shown_line packed_line (λ ls. Unit {0}) (λ l ls x. x) (λ l r more i x. (shown_first l r more i, line_show_pack l r i)) (lines t) room 1 0 n e _ max_table_text 1 0 (omega arith) in
    let y : 0 + length (joint (lines t)) ≡ length t = omega arith in
    (r.0 ∙ ap ended.All y, r.1 ∙ lines_text t)

-- ---- a readable text, packed and shown again

digit_same : (m n : ℕ) → hex_digit m ≡ hex_digit n → m ≡ n
digit_same m n e =
    by (ltb m 10)
    (λ u. let a = ltb-true m 10 u in
    by (ltb n 10)
    (λ v. let i : 48 + m ≡ 48 + n = rw (u, v) at e in omega arith)
    (λ v. let b = ltb-false n 10 v in let i : 48 + m ≡ 87 + n = rw (u, v) at e in absurd (omega arith)))
    (λ u. let a = ltb-false m 10 u in
    by (ltb n 10)
    (λ v. let b = ltb-true n 10 v in let i : 87 + m ≡ 48 + n = rw (u, v) at e in absurd (omega arith))
    (λ v. let i : 87 + m ≡ 87 + n = rw (u, v) at e in omega arith))

hex_same : (f g : Str) → hex_text f ≡ hex_text g → f ≡ g
unfolding hex_text joined hex_pair
hex_same [] [] e = refl
hex_same [] (c ∷ g) e = let z : ◌≡◌ {A = ℕ} 0 1 = cc in absurd (omega arith)
hex_same (b ∷ f) [] e = let z : ◌≡◌ {A = ℕ} 0 1 = cc in absurd (omega arith)
hex_same (b ∷ f) (c ∷ g) e =
    let i : hex_digit (b / 16) ≡ hex_digit (c / 16) = ap (λ (s : Str). get_or s 0 0) e in
    let j : hex_digit (b % 16) ≡ hex_digit (c % 16) = ap (λ (s : Str). get_or s 1 0) e in
    let k : joined hex_pair f ≡ joined hex_pair g = ap (λ (s : Str). drop 2 s) e in
    let p = digit_same (b / 16) (c / 16) i in
    let q = digit_same (b % 16) (c % 16) j in
    let n : b ≡ c = omega (arith, p, q) in
    rw (n, hex_same f g k)

unlined_some : (r s : Str) → unlined r ≡ some s → r ≡ s ++ (10 ∷ [])
unfolding unlined whether◌then◌else◌
unlined_some [] s e = let z : ◌≡◌ {A = ℕ} 0 1 = cc in absurd (omega arith)
unlined_some (x ∷ r) s e =
    let n = length (x ∷ r) - 1 in
    by (eqb (get_or (x ∷ r) n 0) 10)
    (λ u. let i : some (take n (x ∷ r)) ≡ some s = rw u at e in
    let j : take n (x ∷ r) ≡ s = cc in
    let h : n < length (x ∷ r) = omega arith in
    let m : suc n ≡ length (x ∷ r) = omega arith in
    let d : drop n (x ∷ r) ≡ 10 ∷ [] = drop-cons (x ∷ r) n 0 h ∙ rw (eqb-true (get_or (x ∷ r) n 0) 10 u, m, drop-length (x ∷ r)) in
    sym (take-append-drop n (x ∷ r)) ∙ rw (j, d))
    (λ u. let i : none ≡ some s = rw u at e in let z : ◌≡◌ {A = ℕ} 0 1 = cc in absurd (omega arith))

-- what a packed line is
pub packed_told : (pack : Str → Option Str) (r l : Str) → packed_line_by pack r ≡ some l → (s : Str) × (f : Str) × (r ≡ s ++ (10 ∷ [])) × (pack s ≡ some f) × (l ≡ hex_text f ++ (10 ∷ []))
unfolding packed_line_by
packed_told pack r l e =
    let a = lined_some (map hex_text (bind (unlined r) pack)) l e in
    let b = hexed_some (bind (unlined r) pack) a.0 a.1 in
    let c = then_some (unlined r) pack b.0 b.1 in
    (c.0, b.0, unlined_some r c.0 c.1, c.2, a.2 ∙ ap (λ (z : Str). z ++ (10 ∷ [])) b.2)

pub line_forth : (show pack : Str → Option Str) → ((s f : Str) → pack s ≡ some f → show f ≡ some s) → (r l g : Str) → packed_line_by pack r ≡ some l → frame l ≡ some g → shown_line_by show l ≡ some r
unfolding shown_line_by bind
line_forth show pack back r l g e h =
    let a = packed_told pack r l e in
    let t = frame_text l g h in
    let i : a.1 ≡ g = hex_same a.1 g (snoc_same (hex_text a.1) (hex_text g) 10 (sym a.4 ∙ t.0)) in
    let p : show g ≡ some a.0 = ap show (sym i) ∙ back a.0 a.1 a.3 in
    rw (h, p) (unfold lined in ap some (sym a.2))

pub line_pack_show : (r l g : Str) → packed_line r ≡ some l → frame l ≡ some g → shown_line l ≡ some r
unfolding shown_line packed_line
line_pack_show = line_forth shown_frame packed_frame pack_show

packed_first : (r l more : Str) → packed_line r ≡ some l → lines (l ++ more) ≡ l ∷ lines more
unfolding packed_line
packed_first r l more e =
    let a = packed_told packed_frame r l e in
    rw (a.4, append_assoc (hex_text a.1) (10 ∷ []) more) (hex_line_lem a.1 more)

-- every line is the hex line of a frame
pub data Framed : List Str → Type 0 where
  no_line : Framed []
  a_line : {l : Str} {ls : List Str} (g : Str) → frame l ≡ some g → Framed ls → Framed (l ∷ ls)

framed_tail : (l : Str) (ls : List Str) → Framed (l ∷ ls) → Framed ls
framed_tail l ls (a_line g e x) = x

framed_head : (l : Str) (ls : List Str) → Framed (l ∷ ls) → (g : Str) × (frame l ≡ some g)
framed_head l ls (a_line g e x) = (g, e)

judge_framed : (ls : List Str) (n : ℕ) (b : Earlier) → judge n b ls ≡ Accepted → Framed ls
unfolding judge unless line_of
judge_framed [] n b e = no_line
judge_framed (l ∷ ls) n b e = go (λ m c i. judge_framed ls m c i) (frame l) refl e
  where
    go : ((m : ℕ) (c : Earlier) → judge m c ls ≡ Accepted → Framed ls) → (o : Option Str) → frame l ≡ o → (whether eqb (refusal b (decoded o)) clear then judge (n + 1) (after b (decoded o)) ls else Refused (refusal b (decoded o)) n) ≡ Accepted → Framed (l ∷ ls)
    go ih none j k = let z : Refused 2 n ≡ Accepted = (unfold decoded refusal whether◌then◌else◌ in k) in let y : ◌≡◌ {A = ℕ} 0 1 = cc in absurd (omega arith)
    go ih (some f) j k =
        by (eqb (refusal b (decoded (some f))) clear)
        (λ u. a_line f j (ih (n + 1) (after b (decoded (some f))) (unfold whether◌then◌else◌ in rw u at k)))
        (λ u. let z : Refused (refusal b (decoded (some f))) n ≡ Accepted = (unfold whether◌then◌else◌ in rw u at k) in let y : ◌≡◌ {A = ℕ} 0 1 = cc in absurd (omega arith))

check_framed : (t : Str) → check t ≡ Accepted → Framed (lines t)
unfolding check whether◌then◌else◌
check_framed t e =
    by (ltb max_table_text (length t))
    (λ u. let z : Refused 1 0 ≡ Accepted = rw u at e in let y : ◌≡◌ {A = ℕ} 0 1 = cc in absurd (omega arith))
    (λ u. by (eqb (length t) 0)
    (λ v. let z : Refused 4 1 ≡ Accepted = rw (u, v) at e in let y : ◌≡◌ {A = ℕ} 0 1 = cc in absurd (omega arith))
    (λ v. judge_framed (lines t) 1 first (rw (u, v) at e)))

-- the table that a readable text packs to is shown as that text
pub pack_then_show : (s : Str) (n room : ℕ) → packed_end s ≡ ended.All n → check (packed_table s) ≡ Accepted → length s ≤ room
    → (ending shown_line room 1 0 (lines (packed_table s)) ≡ ended.All (length s)) × (stored shown_line room 0 (lines (packed_table s)) ≡ s)
unfolding packed_end packed_table
pack_then_show s n room e c h =
    let k : length (joint (lines s)) ≡ length s = ap length (lines_text s) in
    let r = lines_back packed_line shown_line Framed framed_tail (λ r l more i x. let p = packed_first r l more i in (p, (let y = framed_head l (lines more) (rw p at x) in line_pack_show r l y.0 i y.1))) (lines s) max_table_text 1 0 n e (check_framed _ c) room 1 0 (omega arith) in
    let y : 0 + length (joint (lines s)) ≡ length s = omega arith in
    (r.0 ∙ ap ended.All y, r.1 ∙ lines_text s)
