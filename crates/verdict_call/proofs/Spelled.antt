-- The path text of a request, and the answers by what refuses the request.
use mathlib.Core.Path.{◌≡◌, refl, sym, ◌∙◌}
use mathlib.Core.Bool.{Bool, true, false}
use mathlib.Core.List.{List}
use mathlib.Core.Option.{Option, none, some}
use Prim.Native.Nat.{ℕ, ◌≤◌}
use native.Mathlib.Omega.{arith}
use borrow.Author.Tests.{eq-eqb, ne_eqb, le-leb}
use lib.Dec.{leb}
use lib.ListN.{length, take, length-append}
use lib.Seq.{take_at}
use Rattle.limits.specs.Sizes.{max_path_bytes}
use Rattle.text.specs.Test.{◌or◌, whether◌then◌else◌, absent, or_nothing}
use Rattle.text.specs.String.{Str}
use Rattle.text.specs.Fill.{put}
use Rattle.text.specs.Refusal.{◌when◌else◌, clear}
use Rattle.text.proofs.Tests.{by}
use Rattle.path.specs.Path.{Path}
use Rattle.path.specs.Bytes.{path, path_bytes}
use Rattle.path.specs.Refusal.{key_twice, good_path}
use Rattle.path.proofs.Bytes.{bytes_whole}
use Rattle.path_read.specs.TextReader.{read_text}
use Rattle.path_read.specs.Calls.{bytes_for, filled_of, answer, lent}
use Rattle.path_read.specs.Filled.{Filled}
use Rattle.path_read.specs.Filled as filled
use Rattle.path_read.proofs.RoundTrip.{no_key_twice, text_reader}
use Rattle.path_read.proofs.Longest.{bytes_length}
use Rattle.table.specs.Group.{bad_user}
use Rattle.table.specs.Checked.{Accepted}
use Rattle.verdict.specs.Order.{Numbered}
use Rattle.verdict.specs.Verdict.{Tree}
use Rattle.table_place.specs.Place.{path_end, path_in}
use Rattle.table_place.proofs.Reading.{path_read}
use Rattle.verdict_call.specs.Holding.{Read, Fetched}
use Rattle.verdict_concern.specs.declared.asker.Asker.{Asker}
use Rattle.std.specs.Prelude.{Result, Ok, Err}
use Rattle.refusal.specs.Refusal.{number}
use Rattle.refusal.specs.declared.Refusal.{Refusal}
use Rattle.refusal.proofs.Numbers.{never_clear}
use Rattle.verdict_request.specs.Calls.{bad_mode, bad_origin, refusal_or, request_refusal, decided_by, path_answer, spread, tree_answer}
use Rattle.verdict_request.specs.PathAnswer as answers
use Rattle.verdict_request.specs.TreeAnswer as trees

-- ---- the path text

module _ (s : Str) (out out' : List ℕ) (l : max_path_bytes ≤ length out) where
  put_length : (b : Str) → length b ≤ length out → length b ≤ length (put out 0 b)
  unfolding put
  put_length b h = simp length-append (omega arith)

  put_take : (b : Str) → take (length b) (put out 0 b) ≡ b
  unfolding put
  put_take b = take_at b _ (length b) refl

  of_path : (p : Path) → read_text s ≡ some p → (len : ℕ) → filled.Length len ≡ answer out (bytes_for s) → out' ≡ lent out (bytes_for s) → Read s len out'
  unfolding answer lent bytes_for whether◌then◌else◌
  of_path p e len r o =
      let g : good_path p ≡ true = (text_reader.only s p e).good in
      let b = bytes_length p g in
      let c : leb (length (path_bytes p)) (length out) ≡ true = le-leb (length (path_bytes p)) (length out) (omega arith) in
      let r' = rw (e, c) at r in
      let o' = rw (e, c) at o in
      let n : len ≡ length (path_bytes p) = cc in
      record {
        path = p;
        reads = e;
        once = no_key_twice p g;
        read = rw (o', n) (put_take (path_bytes p));
        fits = rw (o', n) (put_length (path_bytes p) (omega arith));
      }

  of_none : read_text s ≡ none → {X : Type 0} (len : ℕ) → filled.Length len ≡ answer out (bytes_for s) → X
  unfolding answer bytes_for
  of_none e len r = let r' = rw e at r in let z : ◌≡◌ {A = ℕ} 0 1 = cc in absurd (omega arith)

  pub was_read : (r : Filled) → r ≡ answer out (bytes_for s) → out' ≡ lent out (bytes_for s) → (len : ℕ) → r ≡ filled.Length len → Read s len out'
  was_read r a o len e = go (read_text s) refl
    where
      go : (x : Option Path) → read_text s ≡ x → Read s len out'
      go none i = of_none i len (sym e ∙ a)
      go (some p) i = of_path p i len (sym e ∙ a) o

  of_refused : (p : Path) → read_text s ≡ some p → {X : Type 0} (x : ℕ) → filled.Refused x ≡ answer out (bytes_for s) → X
  unfolding answer bytes_for whether◌then◌else◌
  of_refused p e x r =
      let b = bytes_length p (text_reader.only s p e).good in
      let c : leb (length (path_bytes p)) (length out) ≡ true = le-leb (length (path_bytes p)) (length out) (omega arith) in
      let r' = rw (e, c) at r in
      let z : ◌≡◌ {A = ℕ} 0 1 = cc in
      absurd (omega arith)

  pub was_unread : (r : Filled) → r ≡ answer out (bytes_for s) → (x : ℕ) → r ≡ filled.Refused x → read_text s ≡ none
  was_unread r a x e = go (read_text s) refl
    where
      go : (y : Option Path) → read_text s ≡ y → read_text s ≡ none
      go none i = i
      go (some p) i = of_refused p i x (sym e ∙ a)

-- the bytes read to the path
pub path_bytes_lem : (g : List ℕ) (p : Path) → g ≡ path_bytes p → (path_end g 0 ≤ length g) × (path_in g 0 ≡ p)
path_bytes_lem g p e =
    let r = path_read g 0 p (length (path_bytes p)) (rw e (bytes_whole p)) in
    (r.0, sym r.1)

-- ---- the refusal

module _ (user : Str) (mode : ℕ) (origin : Str) (text : Str) (m : ℕ) (h : m ≡ (20 when (bad_user user or bad_mode mode) else 21 when bad_origin origin else clear)) where
  early : (m ≡ clear → ⊥) → request_refusal user mode origin text ≡ m
  unfolding request_refusal whether◌then◌else◌
  early n =
      by (bad_user user or bad_mode mode)
      (λ u. rw u (sym (rw u at h)))
      (λ u. by (bad_origin origin) (λ o. rw (u, o) (sym (rw (u, o) at h))) (λ o. absurd (n (rw (u, o) at h))))

  late : m ≡ clear → request_refusal user mode origin text ≡ (22 when absent (read_text text) else clear)
  unfolding request_refusal whether◌then◌else◌
  late e =
      by (bad_user user or bad_mode mode)
      (λ u. let z : m ≡ 20 = rw u at h in absurd (omega arith))
      (λ u. by (bad_origin origin) (λ o. let z : m ≡ 21 = rw (u, o) at h in absurd (omega arith)) (λ o. rw (u, o)))

  pub not_asked : (m ≡ clear → ⊥) → request_refusal user mode origin text ≡ m
  not_asked n = early n

  pub unread : m ≡ clear → read_text text ≡ none → request_refusal user mode origin text ≡ 22
  unfolding absent whether◌then◌else◌
  unread e r = late e ∙ rw r

  pub was_clear : m ≡ clear → (p : Path) → read_text text ≡ some p → request_refusal user mode origin text ≡ clear
  unfolding absent whether◌then◌else◌
  was_clear e p r = late e ∙ rw r

-- ---- the answers

pub path_refused : (number : ℕ) (d : Option Numbered) → (number ≡ clear → ⊥) → answers.Refused number 0 ≡ path_answer Accepted number d
unfolding path_answer whether◌then◌else◌
path_refused number d n = rw (ne_eqb number clear n)

pub path_judged : (number : ℕ) (d : Option Numbered) → number ≡ clear → decided_by d ≡ path_answer Accepted number d
unfolding path_answer whether◌then◌else◌
path_judged number d e = rw (eq-eqb number clear e)

pub tree_refused : (number : ℕ) (w : Tree) → (number ≡ clear → ⊥) → trees.Refused number 0 ≡ tree_answer Accepted number w
unfolding tree_answer whether◌then◌else◌
tree_refused number w n = rw (ne_eqb number clear n)

pub tree_judged : (number : ℕ) (w : Tree) → number ≡ clear → spread w ≡ tree_answer Accepted number w
unfolding tree_answer whether◌then◌else◌
tree_judged number w e = rw (eq-eqb number clear e)

pub spelled_is : (s : Str) (p : Path) → read_text s ≡ some p → or_nothing (read_text s) ≡ p
unfolding or_nothing
spelled_is s p e = rw e

-- ---- what was fetched

unnamed : (text : Str) (out : List ℕ) → read_text text ≡ none → (x : Refusal) → filled.Refused (number x) ≡ answer out (bytes_for text) → 22 ≡ number x
unfolding answer bytes_for
unnamed text out n x e = let e' = rw n at e in cc

module _ (a : Asker) (text : Str) where
  pub fetched : (out out' : List ℕ) → max_path_bytes ≤ length out → (r : Result ℕ Refusal) → clear ≡ refusal_or clear a.user.now a.mode a.origin.now
      → filled_of r ≡ answer out (bytes_for text) → out' ≡ lent out (bytes_for text) → Fetched a text out' r
  unfolding Fetched
  fetched out out' l (Ok len) h e o =
      let b = was_read text out out' l _ e o len refl in
      (was_clear a.user.now a.mode a.origin.now text clear h refl b.path b.reads, b)
  fetched out out' l (Err x) h e o =
      let n = was_unread text out out' l _ e (number x) refl in
      unread a.user.now a.mode a.origin.now text clear h refl n ∙ unnamed text out n x e

  pub not_fetched : (x : Refusal) (out : List ℕ) → number x ≡ refusal_or clear a.user.now a.mode a.origin.now → Fetched a text out (Err x)
  unfolding Fetched
  not_fetched x out h = not_asked a.user.now a.mode a.origin.now text (number x) h (never_clear x)

  pub refused_by : (x : Refusal) (out : List ℕ) → Fetched a text out (Err x) → request_refusal a.user.now a.mode a.origin.now text ≡ number x
  unfolding Fetched
  refused_by x out h = h

  pub read_by : (len : ℕ) (out : List ℕ) → Fetched a text out (Ok len) → (request_refusal a.user.now a.mode a.origin.now text ≡ clear) × Read text len out
  unfolding Fetched
  read_by len out h = h
