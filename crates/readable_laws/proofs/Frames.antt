-- A frame and its readable line return to each other.
use mathlib.Core.Path.{◌≡◌, refl, sym, ap, ◌∙◌}
use mathlib.Core.Bool.{true, false}
use mathlib.Core.List.{[], ◌∷◌, ◌++◌, append-nil}
use mathlib.Core.Option.{Option, none, some, map}
use Prim.Native.Nat.{ℕ, ◌-◌, ◌≤◌}
use native.Mathlib.Omega.{arith}
use borrow.Author.Tests.{eq-eqb, eqb-true, eqb-false}
use lib.Dec.{eqb}
use lib.ListN.{length, drop, get_or, length-drop}
use lib.Seq.{drop-length}
use Rattle.text.specs.Test.{◌and◌, whether◌then◌else◌, all}
use Rattle.text.specs.Byte.{is_print}
use Rattle.text.specs.String.{Str, bytes}
use Rattle.text.specs.Frame.{Parsed, got, unread, Reader, ◌>>=◌, ret}
use Rattle.text.proofs.Tests.{by, clash}
use Rattle.text.proofs.Codec.{never_got, then_got, got_move, Took}
use Rattle.table.specs.Frame.{whole}
use Rattle.readable_parts.specs.Parts.{Parts, part_of, shown_time, shown_plain, shown, packed}
use Rattle.readable_lines.specs.Form.{parts, form_by, printed, shown_by, shown_frame, kind_by, packed_by, packed_frame}
use Rattle.readable_parts.proofs.Showing.{is_string, is_time, is_path_lem, is_action, is_mode, is_subject, is_plain_lem}
use Rattle.readable_lines.proofs.Converting.{kind_version_lem, kind_group_lem, kind_member_lem, kind_rule_lem, kind_none}
use Rattle.readable_laws.proofs.Inverse.{Back, BackLast, is_last, proper, parts_back, parts_inside}
use Rattle.readable_laws.proofs.HexLines.{Small}
use Rattle.readable_laws.proofs.Return.{string_packed, string_shown, code_packed, code_shown, plain_packed, plain_shown, path_packed, path_shown}
use Rattle.readable_laws.proofs.Times.{time_packed, time_shown}

abbrev Any : Str → Type 0
Any s = Unit {0}

-- ---- every part

module _ (c : ℕ) (l : is_last c ≡ false) where
  not_time : c ≡ 84 → ⊥
  not_time e = clash refl (rw e at l)

  not_path : c ≡ 80 → ⊥
  not_path e = clash refl (rw e at l)

  pub packed_each : (P : Str → Type 0) → Back P (part_of packed c) (part_of shown c)
  unfolding packed shown
  packed_each P =
      by (eqb c 83) (λ u. rw ((is_string packed c (eqb-true _ _ u)).0, (is_string shown c (eqb-true _ _ u)).0) (string_packed P))
      (λ s. by (eqb c 65) (λ u. rw ((is_action packed c (eqb-true _ _ u)).0, (is_action shown c (eqb-true _ _ u)).0) (code_packed P 0 100 112 _ _ (λ z. omega arith)))
      (λ a. by (eqb c 77) (λ u. rw ((is_mode packed c (eqb-true _ _ u)).0, (is_mode shown c (eqb-true _ _ u)).0) (code_packed P 1 114 119 _ _ (λ z. omega arith)))
      (λ m. by (eqb c 75) (λ u. rw ((is_subject packed c (eqb-true _ _ u)).0, (is_subject shown c (eqb-true _ _ u)).0) (code_packed P 0 117 103 _ _ (λ z. omega arith)))
      (λ k. rw ((is_plain_lem packed c (eqb-false _ _ s) not_time not_path (eqb-false _ _ a) (eqb-false _ _ m) (eqb-false _ _ k)).0, (is_plain_lem shown c (eqb-false _ _ s) not_time not_path (eqb-false _ _ a) (eqb-false _ _ m) (eqb-false _ _ k)).0) (plain_packed P c)))))

  pub shown_each : (P : Str → Type 0) → Back P (part_of shown c) (part_of packed c)
  unfolding packed shown
  shown_each P =
      by (eqb c 83) (λ u. rw ((is_string packed c (eqb-true _ _ u)).0, (is_string shown c (eqb-true _ _ u)).0) (string_shown P))
      (λ s. by (eqb c 65) (λ u. rw ((is_action packed c (eqb-true _ _ u)).0, (is_action shown c (eqb-true _ _ u)).0) (code_shown P 0 100 112 _ _ (λ z. omega arith)))
      (λ a. by (eqb c 77) (λ u. rw ((is_mode packed c (eqb-true _ _ u)).0, (is_mode shown c (eqb-true _ _ u)).0) (code_shown P 1 114 119 _ _ (λ z. omega arith)))
      (λ m. by (eqb c 75) (λ u. rw ((is_subject packed c (eqb-true _ _ u)).0, (is_subject shown c (eqb-true _ _ u)).0) (code_shown P 0 117 103 _ _ (λ z. omega arith)))
      (λ k. rw ((is_plain_lem packed c (eqb-false _ _ s) not_time not_path (eqb-false _ _ a) (eqb-false _ _ m) (eqb-false _ _ k)).0, (is_plain_lem shown c (eqb-false _ _ s) not_time not_path (eqb-false _ _ a) (eqb-false _ _ m) (eqb-false _ _ k)).0) (plain_shown P c)))))

module _ (c : ℕ) (l : is_last c ≡ true) where
  the_path : eqb c 84 ≡ false → c ≡ 80
  the_path u = eqb-true c 80 (rw u at l)

  pub packed_last : (P : Str → Type 0) → BackLast P (part_of packed c) (part_of shown c)
  unfolding packed shown
  packed_last P =
      by (eqb c 84) (λ u. rw ((is_time packed c (eqb-true _ _ u)).0, (is_time shown c (eqb-true _ _ u)).0) (time_packed P))
      (λ u. rw ((is_path_lem packed c (the_path u)).0, (is_path_lem shown c (the_path u)).0) (path_packed P))

  pub shown_last : BackLast Small (part_of shown c) (part_of packed c)
  unfolding packed shown
  shown_last =
      by (eqb c 84) (λ u. rw ((is_time packed c (eqb-true _ _ u)).0, (is_time shown c (eqb-true _ _ u)).0) time_shown)
      (λ u. rw ((is_path_lem packed c (the_path u)).0, (is_path_lem shown c (the_path u)).0) (path_shown Small))

-- ---- every form

time_inside : (f : Str) (at : ℕ) (w : Str) (t : ℕ) → shown_time f at ≡ got w t → t ≤ length f
unfolding shown_time whether◌then◌else◌
time_inside f at w t e = by (eqb (length f - at) 8) (λ u. got_move (λ d q. q ≤ length f) (rw u at e) (omega arith)) (λ u. never_got refl (rw u at e))

shown_stays : (c : ℕ) (s : Str) (at : ℕ) (b : Str) (t : ℕ) → at ≤ length s → part_of shown c s at ≡ got b t → t ≤ length s
unfolding shown
shown_stays c s at b t l e =
    by (is_last c)
    (λ u. by (eqb c 84)
    (λ v. time_inside s at b t (ap (λ (r : Reader Str). r s at) (sym (is_time shown c (eqb-true _ _ v)).0) ∙ e))
    (λ v. (path_shown Any s at b t _ l (ap (λ (r : Reader Str). r s at) (sym (is_path_lem shown c (the_path c u v)).0) ∙ e)).1.fits))
    (λ u. (shown_each c u Any s at b t _ l e).1.fits)

packed_stays : (c : ℕ) (s : Str) (at : ℕ) (b : Str) (t : ℕ) → at ≤ length s → part_of packed c s at ≡ got b t → t ≤ length s
packed_stays c s at b t l e = by (is_last c) (λ u. (packed_last c u Any s at b t _ l e).1.fits) (λ u. (packed_each c u Any s at b t _ l e).1.fits)

-- what r reads, at an end of a source that passes P, is read back by r' where it stands last
abbrev pub Returns : (Str → Type 0) → Reader Str → Reader Str → Type 0
Returns P r r' = (s : Str) (at : ℕ) (b : Str) (t : ℕ) → P s → at ≤ length s → r s at ≡ got b t
    → (w : Str) × Took s at w t × ((f : Str) (j : ℕ) → j ≤ length f → drop j f ≡ b → r' f j ≡ got w (length f))

module _ (P : Str → Type 0) (p q : Parts) (each : (c : ℕ) → is_last c ≡ false → Back P (part_of p c) (part_of q c)) (last : (c : ℕ) → is_last c ≡ true → BackLast P (part_of p c) (part_of q c))
    (stays : (c : ℕ) (s : Str) (at : ℕ) (b : Str) (t : ℕ) → at ≤ length s → part_of q c s at ≡ got b t → t ≤ length s) where
  form_back : (form : Str) → proper form ≡ true → Returns P (parts p form) (parts q form)
  form_back form h s at b t x l e =
      let m = parts_back P p q each last form h s at b t x l e in (
        m.0,
        m.1,
        λ f j o g. let n = m.2 f j g in
            let u = parts_inside q stays form f j m.0 n.0 o n.1 in
            let v : length f - n.0 ≡ 0 = sym (length-drop n.0 f) ∙ ap length n.2 in
            let y : n.0 ≡ length f = omega arith in
            n.1 ∙ ap (got m.0) y,
      )

  module _ (k : ℕ) where
    by_form : (form : Str) → proper form ≡ true → ((r : Parts) (s : Str) (at : ℕ) → form_by r k s at ≡ parts r form s at) → Returns P (form_by p k) (form_by q k)
    by_form form h i s at b t x l e =
        let m = form_back form h s at b t x l (sym (i p s at) ∙ e) in
        (m.0, m.1, λ f j o g. i q f j ∙ m.2 f j o g)

    kind_back : Returns P (form_by p k) (form_by q k)
    kind_back s at b t x l e =
        by (eqb k 1) (λ u. by_form (bytes "version S time T") (unfold proper ◌and◌ in refl) (λ r s at. kind_version_lem r k s at (eqb-true _ _ u)) s at b t x l e)
        (λ u₁. by (eqb k 2) (λ u. by_form (bytes "group S") (unfold proper ◌and◌ in refl) (λ r s at. kind_group_lem r k s at (eqb-true _ _ u)) s at b t x l e)
        (λ u₂. by (eqb k 3) (λ u. by_form (bytes "member S S") (unfold proper ◌and◌ in refl) (λ r s at. kind_member_lem r k s at (eqb-true _ _ u)) s at b t x l e)
        (λ u₃. by (eqb k 4) (λ u. by_form (bytes "rule A M K S id S origin S P") (unfold proper ◌and◌ in refl) (λ r s at. kind_rule_lem r k s at (eqb-true _ _ u)) s at b t x l e)
        (λ u₄. never_got (kind_none p k s at (eqb-false _ _ u₁) (eqb-false _ _ u₂) (eqb-false _ _ u₃) (eqb-false _ _ u₄)) e))))

pub packed_form : (form : Str) → proper form ≡ true → Returns Any (parts packed form) (parts shown form)
packed_form = form_back Any packed shown (λ c l. packed_each c l Any) (λ c l. packed_last c l Any) shown_stays

pub shown_form : (form : Str) → proper form ≡ true → Returns Small (parts shown form) (parts packed form)
shown_form = form_back Small shown packed (λ c l. shown_each c l Small) shown_last packed_stays

packed_kind : (k : ℕ) → Returns Any (form_by packed k) (form_by shown k)
packed_kind = kind_back Any packed shown (λ c l. packed_each c l Any) (λ c l. packed_last c l Any) shown_stays

shown_kind : (k : ℕ) → Returns Small (form_by shown k) (form_by packed k)
shown_kind = kind_back Small shown packed (λ c l. shown_each c l Small) shown_last packed_stays

-- ---- frames

pub whole_some : {A : Type 0} (s : Str) (x : Parsed A) (a : A) → whole s x ≡ some a → x ≡ got a (length s)
unfolding whole whether◌then◌else◌
whole_some s (got b t) a e =
    by (eqb t (length s))
    (λ u. let i : some b ≡ some a = rw u at e in let j : b ≡ a = cc in rw (j, eqb-true t (length s) u))
    (λ u. let i : none ≡ some a = rw u at e in let z : ◌≡◌ {A = ℕ} 0 1 = cc in absurd (omega arith))
whole_some s unread a e = let z : ◌≡◌ {A = ℕ} 0 1 = cc in absurd (omega arith)

pub printed_some : (o : Option Str) (w : Str) → printed o ≡ some w → (o ≡ some w) × (all is_print w ≡ true)
unfolding printed whether◌then◌else◌
printed_some none w e = let z : ◌≡◌ {A = ℕ} 0 1 = cc in absurd (omega arith)
printed_some (some v) w e =
    by (all is_print v)
    (λ u. let i : some v ≡ some w = rw u at e in let j : v ≡ w = cc in (i, rw j at u))
    (λ u. let i : none ≡ some w = rw u at e in let z : ◌≡◌ {A = ℕ} 0 1 = cc in absurd (omega arith))

whole_got : (s w : Str) → whole s (got w (length s)) ≡ some w
unfolding whole whether◌then◌else◌
whole_got s w = rw (eq-eqb (length s) (length s) refl)

-- what was taken whole is all there is
pub took_all : (s w : Str) → Took s 0 w (length s) → s ≡ w
took_all s w t = t.same ∙ ap (λ (z : Str). w ++ z) (drop-length s) ∙ append-nil w

-- a line that r packs, and that stands at the end of a frame so, is shown by r'
pub pack_show_by : (r r' : Reader Str) → Returns Any r r' → (s b f : Str) (at : ℕ) → at ≤ length f → drop at f ≡ b → packed_by r s ≡ some b → shown_by r' at f ≡ some s
unfolding packed_by shown_by whole printed whether◌then◌else◌
pack_show_by r r' back s b f at l d e =
    by (all is_print s)
    (λ u. let g = whole_some s (r s 0) b (rw u at e) in
    let m = back s 0 b (length s) _ (omega arith) g in
    let n = m.2 f at l d in
    let w : s ≡ m.0 = took_all s m.0 m.1 in
    let v : all is_print m.0 ≡ true = rw w at u in
    rw (n, eq-eqb (length f) (length f) refl, v) (ap some (sym w)))
    (λ u. let i : none ≡ some b = rw u at e in let z : ◌≡◌ {A = ℕ} 0 1 = cc in absurd (omega arith))

-- what r shows of the end of a frame is packed to it by r'
pub show_pack_by : (r r' : Reader Str) → Returns Small r r' → (f : Str) (at : ℕ) → at ≤ length f → Small f → (s : Str) → shown_by r at f ≡ some s → packed_by r' s ≡ some (drop at f)
unfolding packed_by shown_by whether◌then◌else◌
show_pack_by r r' back f at l x s e =
    let p = printed_some (whole f (r f at)) s e in
    let m = back f at s (length f) x l (whole_some f (r f at) s p.0) in
    let n = m.2 s 0 (omega arith) refl in
    let i : drop at f ≡ m.0 = m.1.same ∙ ap (λ (z : Str). m.0 ++ z) (drop-length f) ∙ append-nil m.0 in
    rw (p.1, n) (whole_got s m.0 ∙ ap some (sym i))

-- ---- frames of a table

headed_some : (k : ℕ) (o : Option Str) (f : Str) → map (λ (g : Str). k ∷ g) o ≡ some f → (b : Str) × (o ≡ some b) × (f ≡ k ∷ b)
headed_some k none f e = let z : ◌≡◌ {A = ℕ} 0 1 = cc in absurd (omega arith)
headed_some k (some b) f e = let i : f ≡ k ∷ b = cc in (b, refl, i)

-- a frame that a readable line packs to is shown as that line
pub pack_show : (s f : Str) → packed_frame s ≡ some f → shown_frame f ≡ some s
unfolding packed_frame shown_frame
pack_show s f e =
    let k = kind_by (get_or s 0 0) in
    let h = headed_some k (packed_by (form_by packed k) s) f e in
    rw h.2 (pack_show_by (form_by packed k) (form_by shown k) (packed_kind k) s h.0 (k ∷ h.0) 1 (omega arith) refl h.1)

-- ---- the first letter tells the kind

lead : (c : ℕ) (cs f : Str) (at : ℕ) (w : Str) (t : ℕ) → part_of shown c f at ≡ got (c ∷ []) at → parts shown (c ∷ cs) f at ≡ got w t → get_or w 0 0 ≡ c
unfolding parts ◌>>=◌ ret
lead c cs f at w t i e =
    let a = then_got (part_of shown c f at) _ e in
    let n = then_got (parts shown cs f a.1) _ a.3 in
    let x : got (c ∷ []) at ≡ got a.0 a.1 = sym i ∙ a.2 in
    let y : a.0 ≡ c ∷ [] = cc in
    got_move (λ v u. get_or v 0 0 ≡ c) n.3 (ap (λ (z : Str). get_or (z ++ n.0) 0 0) y)

letter : (k : ℕ) (f : Str) (at : ℕ) (w : Str) (t : ℕ) → form_by shown k f at ≡ got w t → kind_by (get_or w 0 0) ≡ k
letter k f at w t e =
    by (eqb k 1) (λ u. is 118 1 (eqb-true _ _ u) (lead 118 _ f at w t (unfold part_of shown shown_plain ret whether◌then◌else◌ in refl) (sym (kind_version_lem shown k f at (eqb-true _ _ u)) ∙ e)) (unfold kind_by whether◌then◌else◌ in refl))
    (λ u₁. by (eqb k 2) (λ u. is 103 2 (eqb-true _ _ u) (lead 103 _ f at w t (unfold part_of shown shown_plain ret whether◌then◌else◌ in refl) (sym (kind_group_lem shown k f at (eqb-true _ _ u)) ∙ e)) (unfold kind_by whether◌then◌else◌ in refl))
    (λ u₂. by (eqb k 3) (λ u. is 109 3 (eqb-true _ _ u) (lead 109 _ f at w t (unfold part_of shown shown_plain ret whether◌then◌else◌ in refl) (sym (kind_member_lem shown k f at (eqb-true _ _ u)) ∙ e)) (unfold kind_by whether◌then◌else◌ in refl))
    (λ u₃. by (eqb k 4) (λ u. is 114 4 (eqb-true _ _ u) (lead 114 _ f at w t (unfold part_of shown shown_plain ret whether◌then◌else◌ in refl) (sym (kind_rule_lem shown k f at (eqb-true _ _ u)) ∙ e)) (unfold kind_by whether◌then◌else◌ in refl))
    (λ u₄. never_got (kind_none shown k f at (eqb-false _ _ u₁) (eqb-false _ _ u₂) (eqb-false _ _ u₃) (eqb-false _ _ u₄)) e))))
  where
    is : (c n : ℕ) → k ≡ n → get_or w 0 0 ≡ c → kind_by c ≡ n → kind_by (get_or w 0 0) ≡ k
    is c n i j h = ap kind_by j ∙ h ∙ sym i

-- ---- the line of a frame packs to that frame

pub show_pack : (f s : Str) → Small f → shown_frame f ≡ some s → packed_frame s ≡ some f
unfolding packed_frame shown_frame shown_by
show_pack [] s m e =
    let p = printed_some (whole [] (form_by shown 0 [] 1)) s e in
    never_got (kind_none shown 0 [] 1 (λ z. omega arith) (λ z. omega arith) (λ z. omega arith) (λ z. omega arith)) (whole_some [] (form_by shown 0 [] 1) s p.0)
show_pack (k ∷ g) s m e =
    let p = printed_some (whole (k ∷ g) (form_by shown k (k ∷ g) 1)) s e in
    let w = whole_some (k ∷ g) (form_by shown k (k ∷ g) 1) s p.0 in
    let j = letter k (k ∷ g) 1 s (length (k ∷ g)) w in
    let q : packed_by (form_by packed k) s ≡ some g = show_pack_by (form_by shown k) (form_by packed k) (shown_kind k) (k ∷ g) 1 (omega arith) m s (unfold shown_by in e) in
    rw (j, q)
