-- Parts converted one after another, and whole frames and lines.
use mathlib.Core.Path.{◌≡◌, refl, sym, ap, ◌∙◌}
use mathlib.Core.Bool.{true, false}
use mathlib.Core.List.{List, [], ◌∷◌, ◌++◌, append_assoc, append-nil}
use mathlib.Core.Option.{Option, none, some, map}
use Prim.Native.Nat.{ℕ, ◌+◌, ◌≤◌, ◌<◌}
use native.Mathlib.Numerals.{add-one}
use native.Mathlib.Omega.{arith}
use borrow.Author.Tests.{eq-eqb, ne_eqb}
use lib.Dec.{eqb}
use lib.ListN.{length, take, drop, get_or, set, length-append, drop_of_length-le}
use lib.Seq.{drop-cons}
use Rattle.limits.specs.Sizes.{max_readable_line}
use Rattle.text.specs.Test.{◌and◌, whether◌then◌else◌, all}
use Rattle.text.specs.Byte.{is_print}
use Rattle.text.specs.String.{Str, bytes}
use Rattle.text.specs.Frame.{Parsed, got, unread, and_then, Reader, ◌>>=◌, ret}
use Rattle.text.specs.Steps.{Wrote}
use Rattle.text.proofs.Tests.{by}
use Rattle.text.proofs.Filling.{wrote_long, wrote_more, wrote_nothing, wrote_before}
use Rattle.path_read.specs.declared.reader.Stored.{Stored}
use Rattle.std.specs.Prelude.{Some, None}
use Rattle.std.specs.Prelude as program
use Rattle.std.proofs.lemmas.Option.{same_Some, none-some}
use Rattle.path_read.specs.Steps.{MaybeStored, reached}
use Rattle.table.specs.Frame.{unknown, whole}
use Rattle.readable_parts.specs.Parts.{Parts, part_of}
use Rattle.readable_lines.specs.Form.{parts, form_by, request_form, printed, shown_by, shown_frame, kind_by, packed_by, packed_frame}
use Rattle.readable_parts.specs.Steps.{longest, Puts, puts, stops}
use Rattle.readable_parts.specs.declared.Direction.TheVariants.{Show, Pack}
use Rattle.readable_lines.specs.Steps.{max_made_frame, parts_by, room_for, Fills, fills, nothing, stored_end, closed, kind_said}
use Rattle.readable_parts.proofs.Stored.{put_to, put_not, front}

-- ---- parts

abbrev after : Str → Parsed Str → Parsed Str
after w (got v t) = got (w ++ v) t
after w unread = unread

after_nothing : (x : Parsed Str) → after [] x ≡ x
after_nothing (got v t) = refl
after_nothing unread = refl

after_both : (w v : Str) (x : Parsed Str) → after w (after v x) ≡ after (w ++ v) x
after_both w v (got u t) = ap (λ (z : Str). got z t) (sym (append_assoc w v u))
after_both w v unread = refl

then_after : (w : Str) (x : Parsed Str) → and_then x (λ v t. got (w ++ v) t) ≡ after w x
then_after w (got v t) = refl
then_after w unread = refl

module _ (p : Parts) (c : ℕ) (cs s : Str) (at : ℕ) where
  parts_turn : (w : Str) (t : ℕ) → part_of p c s at ≡ got w t → parts p (c ∷ cs) s at ≡ after w (parts p cs s t)
  unfolding parts ◌>>=◌ ret
  parts_turn w t e = rw e (then_after w (parts p cs s t))

  parts_stop : part_of p c s at ≡ unread → parts p (c ∷ cs) s at ≡ unread
  unfolding parts ◌>>=◌
  parts_stop e = rw e

parts_nil : (p : Parts) (s : Str) (at : ℕ) → parts p [] s at ≡ got [] at
unfolding parts ret
parts_nil p s at = refl

room_cons : (c : ℕ) (cs : Str) → room_for (c ∷ cs) ≡ longest c + room_for cs
unfolding room_for
room_cons c cs = refl

-- the first i parts were converted, so that `out` has come of d; reading goes on at `at`, storing at q
pub record Going (p : Parts) (form s : Str) (start : ℕ) (d : List ℕ) (to i at : ℕ) (out : List ℕ) (q : ℕ) : Type 0 where
  pub so_far : Str
  pub same : parts p form s start ≡ after so_far (parts p (drop i form) s at)
  pub wrote : Wrote d to so_far out q
  pub few : length so_far + room_for (drop i form) ≤ room_for form
  pub inside : at ≤ length s

module _ (p : Parts) (form s : Str) (start : ℕ) (d : List ℕ) (to : ℕ) where
  pub going_start : start ≤ length s → Going p form s start d to 0 start d to
  going_start h = record { so_far = []; same = sym (after_nothing (parts p form s start)); wrote = wrote_nothing d to; few = omega arith; inside = h }

  module _ (h : to + room_for form ≤ length d) (i at : ℕ) (out : List ℕ) (q : ℕ) (g : Going p form s start d to i at out q) where
    pub going_long : length out ≡ length d
    going_long = wrote_long d to g.so_far out q g.wrote (omega (arith, g.few))

    module _ (l : i < length form) where
      here : drop i form ≡ get_or form i 0 ∷ drop (i + 1) form
      here = rw add-one (drop-cons form i 0 l)

      room_here : room_for (drop i form) ≡ longest (get_or form i 0) + room_for (drop (i + 1) form)
      room_here = ap room_for here ∙ room_cons (get_or form i 0) (drop (i + 1) form)

      pub going_room : q + longest (get_or form i 0) ≤ length out
      going_room = omega (arith, g.few, g.wrote.ends, room_here, going_long)

      pub going_stop : part_of p (get_or form i 0) s at ≡ unread → parts p form s start ≡ unread
      going_stop e = g.same ∙ ap (after g.so_far) (ap (λ (f : Str). parts p f s at) here ∙ parts_stop p (get_or form i 0) (drop (i + 1) form) s at e)

      pub going_turn : (w : Str) (t : ℕ) (out' : List ℕ) (q' : ℕ) → part_of p (get_or form i 0) s at ≡ got w t → Wrote out q w out' q' → length w ≤ longest (get_or form i 0) → t ≤ length s
          → Going p form s start d to (i + 1) t out' q'
      going_turn w t out' q' e v b k = record {
        so_far = g.so_far ++ w;
        same =
            g.same ∙ ap (after g.so_far) (ap (λ (f : Str). parts p f s at) here ∙ parts_turn p (get_or form i 0) (drop (i + 1) form) s at w t e)
            ∙ after_both g.so_far w (parts p (drop (i + 1) form) s t);
        wrote = wrote_more d to g.so_far out q g.wrote (omega (arith, g.few)) w out' q' v;
        few = omega (arith, g.few, room_here, length-append g.so_far w);
        inside = k;
      }

    pub going_done : length form ≤ i → Puts (room_for form) (parts p form) s start d to out (reached at q)
    going_done l =
        let e : parts p (drop i form) s at ≡ got [] at = ap (λ (f : Str). parts p f s at) (drop_of_length-le form l) ∙ parts_nil p s at in
        puts (g.same ∙ ap (after g.so_far) e ∙ ap (λ (z : Str). got z at) (append-nil g.so_far)) g.wrote (omega (arith, g.few)) g.inside

-- ---- kinds

module _ (p : Parts) (k : ℕ) (s : Str) (at : ℕ) where
  pub kind_version_lem : k ≡ 1 → form_by p k s at ≡ parts p (bytes "version S time T") s at
  unfolding form_by whether◌then◌else◌
  kind_version_lem e = rw e

  pub kind_group_lem : k ≡ 2 → form_by p k s at ≡ parts p (bytes "group S") s at
  unfolding form_by whether◌then◌else◌
  kind_group_lem e = rw e

  pub kind_member_lem : k ≡ 3 → form_by p k s at ≡ parts p (bytes "member S S") s at
  unfolding form_by whether◌then◌else◌
  kind_member_lem e = rw e

  pub kind_rule_lem : k ≡ 4 → form_by p k s at ≡ parts p (bytes "rule A M K S id S origin S P") s at
  unfolding form_by whether◌then◌else◌
  kind_rule_lem e = rw e

  pub kind_none : (k ≡ 1 → ⊥) → (k ≡ 2 → ⊥) → (k ≡ 3 → ⊥) → (k ≡ 4 → ⊥) → form_by p k s at ≡ unread
  unfolding form_by whether◌then◌else◌ unknown
  kind_none a b c d = rw (ne_eqb k 1 a, ne_eqb k 2 b, ne_eqb k 3 c, ne_eqb k 4 d)

pub room_version : room_for (bytes "version S time T") ≤ max_readable_line
unfolding room_for longest whether◌then◌else◌
room_version = omega arith

pub room_group : room_for (bytes "group S") ≤ max_readable_line
unfolding room_for longest whether◌then◌else◌
room_group = omega arith

pub room_member : room_for (bytes "member S S") ≤ max_readable_line
unfolding room_for longest whether◌then◌else◌
room_member = omega arith

pub room_rule : room_for (bytes "rule A M K S id S origin S P") ≤ max_readable_line
unfolding room_for longest whether◌then◌else◌
room_rule = omega arith

pub room_request : room_for request_form ≤ max_readable_line
unfolding room_for longest whether◌then◌else◌
room_request = omega arith

-- ---- frames, shown

module _ (r : Reader Str) (f : Str) (at : ℕ) where
  pub shown_room : {d d' : List ℕ} {q : MaybeStored} → Puts max_readable_line r f at d 0 d' q → max_made_frame ≤ length d → stored_end q ≤ length d'
  unfolding stored_end
  shown_room (puts {w = w} {d = d} {d' = d'} {end = end} i v b l) h = omega (arith, v.ends, wrote_long d 0 w d' end v (omega (arith, b)), b)
  shown_room (stops i) h = omega arith

  pub shown_fills : {d d' : List ℕ} {q : MaybeStored} → Puts max_readable_line r f at d 0 d' q → Fills (shown_by r at f) d d' (closed (length f) d' q)
  unfolding shown_by whole printed closed ◌and◌ whether◌then◌else◌
  shown_fills (puts {w = w} {t = t} {d = d} {d' = d'} {end = end} i v b l) =
      let k : take end d' ≡ w = front d w d' end v in
      by (eqb t (length f))
      (λ u. by (all is_print w) (λ p. rw (i, u, k, p) (fills v (omega (arith, v.ends, b)))) (λ p. rw (i, u, k, p) nothing))
      (λ u. rw (i, u) nothing)
  shown_fills (stops i) = rw i nothing

pub frame_empty : (f : Str) → length f ≤ 0 → shown_frame f ≡ none
frame_empty [] h = unfold shown_frame shown_by form_by whether◌then◌else◌ unknown whole printed in refl
frame_empty (x ∷ f) h = absurd (omega arith)

pub frame_fills : (f : Str) {d d' : List ℕ} {q : MaybeStored} → Puts max_readable_line (form_by (parts_by Show) (get_or f 0 0)) f 1 d 0 d' q → Fills (shown_frame f) d d' (closed (length f) d' q)
unfolding shown_frame parts_by whether◌then◌else◌
frame_fills f e = shown_fills _ f 1 e

-- ---- readable lines, packed

-- what the answer of `kind_by` tells
pub kind_is : {r : program.Option ℕ} {k n : ℕ} → r ≡ Some k → kind_said r ≡ n → k ≡ n
kind_is e i = ap kind_said (sym e) ∙ i

pub kind_is_none : {r : program.Option ℕ} {n : ℕ} → r ≡ None → kind_said r ≡ n → 0 ≡ n
kind_is_none e i = ap kind_said (sym e) ∙ i

module _ (r : Reader Str) (s : Str) where
  pub packed_strange : all is_print s ≡ false → packed_by r s ≡ none
  unfolding packed_by whether◌then◌else◌
  packed_strange e = rw e

  module _ (a : all is_print s ≡ true) {most to : ℕ} {d d' : List ℕ} {q : MaybeStored} (e : Puts most r s 0 d to d' q) where
    pub packed_unread : q ≡ None → packed_by r s ≡ none
    unfolding packed_by whole whether◌then◌else◌
    packed_unread g = rw (a, put_not e g)

    module _ {o : Stored} (g : q ≡ Some o) where
      pub packed_longer : (o.next ≡ length s → ⊥) → packed_by r s ≡ none
      unfolding packed_by whole whether◌then◌else◌
      packed_longer n = rw (a, (put_to e g).1, ne_eqb _ _ n)

      pub packed_is : o.next ≡ length s → packed_by r s ≡ some (put_to e g).0
      unfolding packed_by whole whether◌then◌else◌
      packed_is n = rw (a, (put_to e g).1, eq-eqb _ _ n)

module _ (s : Str) where
  -- the kind byte before what is packed
  kinded : (k : ℕ) → k ≡ kind_by (get_or s 0 0) → {o : Option Str} → packed_by (form_by (parts_by Pack) k) s ≡ o → packed_frame s ≡ map (λ (f : Str). k ∷ f) o
  unfolding packed_frame parts_by whether◌then◌else◌
  kinded k i e = rw (← i, e)

  pub line_strange : all is_print s ≡ false → packed_frame s ≡ none
  line_strange e = kinded (kind_by (get_or s 0 0)) refl (packed_strange _ s e)

  pub line_empty : length s ≤ 0 → packed_frame s ≡ none
  line_empty h = go s h
    where
      go : (g : Str) → length g ≤ 0 → packed_frame g ≡ none
      go [] h = unfold packed_frame packed_by all kind_by form_by whether◌then◌else◌ unknown whole in refl
      go (x ∷ g) h = absurd (omega arith)

  pub line_kindless : 0 ≡ kind_by (get_or s 0 0) → packed_frame s ≡ none
  unfolding packed_by form_by whole whether◌then◌else◌ unknown
  line_kindless i = kinded 0 i {o = none} (by (all is_print s) (λ u. rw u refl) (λ u. rw u refl))

  module _ (a : all is_print s ≡ true) (k : ℕ) (i : k ≡ kind_by (get_or s 0 0)) (d d' : List ℕ) (r : MaybeStored) (e : Puts max_readable_line (form_by (parts_by Pack) k) s 0 d 1 d' r) where
    pub line_unread : r ≡ None → packed_frame s ≡ none
    line_unread g = kinded k i (packed_unread _ s a e g)

    module _ {o : Stored} (g : r ≡ Some o) where
      pub line_longer : (o.next ≡ length s → ⊥) → packed_frame s ≡ none
      line_longer n = kinded k i (packed_longer _ s a e g n)

      pub line_fills : max_made_frame ≤ length d → o.next ≡ length s → Fills (packed_frame s) d (set d' 0 k) (Some o.end)
      line_fills l n =
          let u = put_to e g in
          rw (kinded k i (packed_is _ s a e g n)) (fills (wrote_before d 0 k u.0 d' o.end (omega (arith, u.3)) u.2) (omega (arith, u.2.ends, u.3)))
