-- Requests of a log: what the programs find, and what they show and pack.
use mathlib.Core.Path.{◌≡◌, sym, ◌∙◌}
use mathlib.Core.Bool.{true, false, not}
use mathlib.Core.List.{List}
use mathlib.Core.Option.{none, some, bind}
use Prim.Native.Nat.{ℕ, ◌≤◌}
use native.Mathlib.Omega.{arith}
use borrow.Author.Tests.{not-true, not-false}
use lib.ListN.{length, take}
use Rattle.limits.specs.Sizes.{max_readable_line}
use Rattle.text.specs.Test.{whether◌then◌else◌, absent, all}
use Rattle.text.specs.Byte.{is_print}
use Rattle.text.specs.String.{Str}
use Rattle.text.specs.Refusal.{clear}
use Rattle.text.proofs.Tests.{by}
use Rattle.path.specs.Bytes.{path}
use Rattle.path.specs.Walk.{is_path_in}
use Rattle.request_log.specs.Request.{good_request}
use Rattle.std.specs.Prelude.{Option, Some, None}
use Rattle.refusal.specs.Refusal.{code}
use Rattle.request_log.specs.Heading.{heading, headed, told}
use Rattle.request_log.specs.declared.Heading.{Heading}
use Rattle.request_log.proofs.Headings.{head_told, head_missed, no_heading, bad_heading, bad_path, good_path_lem}
use Rattle.path_read.specs.declared.reader.Stored.{Stored}
use Rattle.path_read.specs.Steps.{MaybeStored}
use Rattle.readable_parts.specs.Parts.{shown, packed}
use Rattle.readable_parts.specs.Steps.{Puts}
use Rattle.readable_parts.proofs.Stored.{put_to, front}
use Rattle.readable_lines.specs.Form.{parts, request_form, shown_by, packed_by}
use Rattle.readable_lines.specs.Request.{good, shown_request, packed_request}
use Rattle.readable_lines.specs.Steps.{room_for, Fills, fills}
use Rattle.readable_lines.proofs.Converting.{room_request, packed_is}

-- ---- whether a request is good

module _ (f : Str) {r : Option Heading} (e : told r ≡ headed (heading f 0)) where
  pub good_unread : r ≡ None → false ≡ not (absent (good_request f))
  unfolding absent
  good_unread g = rw (no_heading f (head_missed f r e g))

  module _ {h : Heading} (g : r ≡ Some h) where
    pub good_refused : (code h.refusal ≡ clear → ⊥) → false ≡ not (absent (good_request f))
    unfolding absent
    good_refused c =
        let at = head_told f r e h g in rw (bad_heading f _ _ at.reads (λ z. c (at.number ∙ z)))

    pub good_by_path : code h.refusal ≡ clear → is_path_in f (path f h.path) ≡ not (absent (good_request f))
    unfolding absent
    good_by_path c =
        let at = head_told f r e h g in
        by (is_path_in f (path f h.path))
        (λ y. rw (y, good_path_lem f _ h.path at.reads (sym at.number ∙ c) y))
        (λ y. rw (y, bad_path f _ h.path at.reads (sym at.number ∙ c) y))

-- ---- shown and packed

module _ (f : Str) where
  pub good_no : not (absent (good_request f)) ≡ false → good f ≡ none
  unfolding good whether◌then◌else◌
  good_no e = rw (not-false (absent (good_request f)) e)

  pub good_yes : not (absent (good_request f)) ≡ true → good f ≡ some f
  unfolding good whether◌then◌else◌
  good_yes e = rw (not-true (absent (good_request f)) e)

  pub request_bad : not (absent (good_request f)) ≡ false → shown_request f ≡ none
  unfolding shown_request bind
  request_bad e = rw (good_no e)

  pub request_shown : not (absent (good_request f)) ≡ true → shown_request f ≡ shown_by (parts shown request_form) 0 f
  unfolding shown_request bind
  request_shown e = rw (good_yes e)

module _ (s : Str) where
  pub pack_none : packed_by (parts packed request_form) s ≡ none → packed_request s ≡ none
  unfolding packed_request bind
  pack_none e = rw e

  module _ {w : Str} (e : packed_by (parts packed request_form) s ≡ some w) where
    pack_bad : not (absent (good_request w)) ≡ false → packed_request s ≡ none
    unfolding packed_request bind
    pack_bad g = rw (e, good_no w g)

    pack_good : not (absent (good_request w)) ≡ true → packed_request s ≡ some w
    unfolding packed_request bind
    pack_good g = rw (e, good_yes w g)

  -- the request was packed whole, to the start of d'
  module _ (a : all is_print s ≡ true) {d d' : List ℕ} {q : MaybeStored} (e : Puts (room_for request_form) (parts packed request_form) s 0 d 0 d' q) {o : Stored} (g : q ≡ Some o) (n : o.next ≡ length s) where
    made : take o.end d' ≡ (put_to e g).0
    made = front d (put_to e g).0 d' o.end (put_to e g).2

    pub request_short : o.end ≤ max_readable_line
    request_short = let u = put_to e g in omega (arith, u.2.ends, u.3, room_request)

    pub request_refused : not (absent (good_request (take o.end d'))) ≡ false → packed_request s ≡ none
    request_refused h = pack_bad (packed_is _ s a e g n) (rw made at h)

    pub request_fills : not (absent (good_request (take o.end d'))) ≡ true → Fills (packed_request s) d d' (Some o.end)
    request_fills h = rw (pack_good (packed_is _ s a e g n) (rw made at h)) (fills (put_to e g).2 (omega (arith, request_short)))
