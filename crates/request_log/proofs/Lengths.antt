-- The bytes of a heading, and how long good requests can be.
use Prim.Native.Nat.{ℕ, ◌≤◌}
use native.Mathlib.Omega.{arith}
use borrow.Author.Tests.{eqb-true, ltb-false}
use mathlib.Core.Path.{◌≡◌, refl, sym, ap, ◌∙◌}
use mathlib.Core.Bool.{Bool, true, false, not}
use mathlib.Core.List.{List, ◌∷◌, ◌++◌, append_assoc}
use mathlib.Core.Option.{some}
use lib.Dec.{eqb}
use lib.ListN.{length, take, drop, length-drop, length-append}
use lib.Seq.{take_at}
use Rattle.limits.specs.Limits.{max_string, max_short_string}
use Rattle.limits.specs.Sizes.{max_heading, max_log_frame}
use Rattle.text.specs.Test.{◌or◌, whether◌then◌else◌}
use Rattle.text.specs.String.{Str}
use Rattle.text.specs.Refusal.{◌when◌else◌, clear}
use Rattle.text.specs.Frame.{Parsed, got, unread, ◌>>=◌, ret, byte, string, string_bytes}
use Rattle.text.proofs.Codec.{Took, Gives, took_both, byte_took, string_took, then_got, got_move, then_gives, byte_gives, string_gives}
use Rattle.text.proofs.Tests.{by, clash, and_l, and_r, or_false_l, or_false_r, neither}
use Rattle.path.specs.Path.{Path}
use Rattle.path.specs.Bytes.{path, path_bytes}
use Rattle.path.specs.Refusal.{unsized, good_path}
use Rattle.path.specs.Walk.{is_path_in}
use Rattle.path.proofs.Bytes.{path_took}
use Rattle.path_read.proofs.Longest.{bytes_length}
use Rattle.table.specs.Group.{bad_user}
use Rattle.verdict.specs.Verdict.{Request}
use Rattle.verdict_request.specs.Calls.{bad_mode, bad_origin}
use Rattle.request_log.specs.Request.{good_request}
use Rattle.request_log.specs.Heading.{Head, heading, head_bytes, head_refusal}
use Rattle.request_log.proofs.Headings.{good_parts, no_path_there}

module _ (f : List ℕ) where
  -- a heading that was read stands there
  pub heading_took : (h : Head) (t : ℕ) → heading f 0 ≡ got h t → Took f 0 (head_bytes h) t
  unfolding heading head_bytes ◌>>=◌ ret
  heading_took h t e =
      let a = then_got (byte f 0) _ e in
      let b = then_got (string f a.1) _ a.3 in
      let c = then_got (string f b.1) _ b.3 in
      got_move (λ x d. Took f 0 (x.mode ∷ (string_bytes x.user ++ string_bytes x.origin)) d) c.3
      (took_both f 0 a.1 c.1 _ _ (byte_took f 0 a.0 a.1 a.2)
      (took_both f a.1 b.1 c.1 _ _ (string_took f a.1 b.0 b.1 b.2) (string_took f b.1 c.0 c.1 c.2)))

  -- one that stands there is read
  heading_gives : (h : Head) (rest : Str) → f ≡ head_bytes h ++ rest → Gives (heading f 0) f h rest
  unfolding heading head_bytes ◌>>=◌ ret
  heading_gives h rest e =
      then_gives (byte f 0) _ f h.mode _ _ _ (byte_gives f 0 h.mode _ e)
      (λ p i. then_gives (string f p) _ f h.user _ _ _ (string_gives f p h.user (string_bytes h.origin ++ rest) (i ∙ append_assoc (string_bytes h.user) (string_bytes h.origin) rest))
      (λ p i. then_gives (string f p) _ f h.origin _ _ _ (string_gives f p h.origin rest i) (λ t j. (t, refl, j))))

  took_length : (s : Str) (t : ℕ) → Took f 0 s t → length s ≡ t
  took_length s t k = omega (arith, ap length k.same, length-append s (drop t f), length-drop t f, length-drop 0 f, k.fits)

  -- the same heading in front, and where it ends
  pub heading_there : (h : Head) (rest : Str) → f ≡ head_bytes h ++ rest → heading f 0 ≡ got h (length (head_bytes h))
  heading_there h rest e =
      let g = heading_gives h rest e in
      g.1 ∙ ap (λ (t : ℕ). got h t) (sym (took_length (head_bytes h) g.0 (heading_took h g.0 g.1)))

  pub heading_length : (h : Head) (t : ℕ) → heading f 0 ≡ got h t → length (head_bytes h) ≡ t
  heading_length h t e = took_length (head_bytes h) t (heading_took h t e)

  -- its bytes are the front
  pub heading_front : (h : Head) (t : ℕ) → heading f 0 ≡ got h t → take t f ≡ head_bytes h
  heading_front h t e = ap (take t) (heading_took h t e).same ∙ take_at (head_bytes h) (drop t f) t (heading_length h t e)

-- ---- how long

mode_of : (m : ℕ) → not (eqb m 1 or eqb m 2) ≡ false → (1 ≤ m) × (m ≤ 2)
mode_of m e =
    by (eqb m 1)
    (λ t. let i : m ≡ 1 = eqb-true _ _ t in (omega arith, omega arith))
    (λ t. by (eqb m 2) (λ u. let i : m ≡ 2 = eqb-true _ _ u in (omega arith, omega arith)) (λ u. clash (ap not (neither _ _ t u)) e))

unclear : {X : Type 0} (n : ℕ) (b : Bool) (x : ℕ) → (n ≡ clear → ⊥) → b ≡ true → (n when b else x) ≡ clear → X
unfolding whether◌then◌else◌
unclear n b x k t e = absurd (k (rw t at e))

module _ (h : Head) (c : head_refusal h ≡ clear) where
  no_20 : (bad_user h.user or bad_mode h.mode) ≡ false
  unfolding head_refusal
  no_20 = by (bad_user h.user or bad_mode h.mode) (λ t. unclear 20 _ _ (λ z. omega arith) t c) (λ t. t)

  no_21 : bad_origin h.origin ≡ false
  unfolding head_refusal whether◌then◌else◌
  no_21 =
      by (bad_origin h.origin) (λ t. unclear 21 _ _ (λ z. omega arith) t (rw no_20 at c)) (λ t. t)

  pub good_mode : (1 ≤ h.mode) × (h.mode ≤ 2)
  unfolding bad_mode
  good_mode = mode_of h.mode (or_false_r _ _ no_20)

  user_short : length h.user ≤ max_string
  unfolding bad_user unsized
  user_short = ltb-false _ _ (or_false_r _ _ (or_false_l _ _ (or_false_l _ _ no_20)))

  origin_short : length h.origin ≤ max_short_string
  unfolding bad_origin
  origin_short = ltb-false _ _ (or_false_l _ _ no_21)

  pub short_heading : length (head_bytes h) ≤ max_heading
  unfolding head_bytes string_bytes
  short_heading = simp length-append (omega (arith, user_short, origin_short))

path_is_good : (f : List ℕ) (x : Parsed Path) → is_path_in f x ≡ true → (p : Path) × (x ≡ got p (length f)) × (good_path p ≡ true)
unfolding is_path_in
path_is_good f (got p d) y = (p, ap (λ (t : ℕ). got p t) (eqb-true _ _ (and_l _ _ y)), and_r _ _ y)
path_is_good f unread y = no_path_there f y

-- no frame of a good request is longer
pub good_short : (f : List ℕ) (q : Request) → good_request f ≡ some q → length f ≤ max_log_frame
good_short f q e =
    let g = good_parts f q e in
    let p = path_is_good f (path f g.end) g.path_there in
    let k = path_took f g.end p.0 (length f) p.1 in
    let t = heading_took f g.head g.end g.reads in
    omega (
      arith,
      short_heading g.head g.clear_head,
      heading_length f g.head g.end g.reads,
      bytes_length p.0 p.2,
      ap length k.same,
      length-append (path_bytes p.0) (drop (length f) f),
      length-drop g.end f,
      length-drop (length f) f,
      t.fits,
    )
