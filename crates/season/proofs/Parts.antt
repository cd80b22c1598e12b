-- Two logs, or the parts of a log, one after the other: their lines, their requests, the first fault, and the figures.
use Prim.Native.Nat.{ℕ, ◌+◌, ◌*◌, ◌≤◌}
use native.Mathlib.Omega.{arith}
use mathlib.Core.Path.{◌≡◌, refl, sym, ap, ◌∙◌}
use mathlib.Core.Logic.{◌⊎◌, inl, inr}
use mathlib.Core.Bool.{Bool, true, false}
use mathlib.Core.List.Memᴰ
use mathlib.Core.List.{List, [], ◌∷◌, ◌++◌, map, append-nil}
use mathlib.Core.Option.{Option, none, some, bind}
use lib.Dec.{eqb, ltb}
use lib.ListN.{length, get_or, length-append}
use Rattle.limits.specs.Limits.{max_log_lines}
use Rattle.text.specs.Test.{◌and◌, whether◌then◌else◌, ◌∈◌, absent}
use Rattle.text.specs.String.{Str}
use Rattle.text.specs.Byte.{is_hex, hex_value}
use Rattle.text.proofs.Tests.{by, clash, on_cons}
use Rattle.table_line.specs.Lines.{lines, onto, pair, pairs, nonempty, frame}
use Rattle.table.specs.Table.{Table}
use Rattle.table.specs.Checked.{Checked}
use Rattle.table.specs.Checked.{Accepted, Refused}
use Rattle.verdict.specs.Verdict.{Request}
use Rattle.request_log.specs.Request.{good_request, request_of}
use Rattle.request_log.specs.Log.{judge_log, check_log, before, requests_of, log_of}
use Rattle.season.specs.Report.{figures}
use Rattle.season.specs.Calls.{first_fault}
use Rattle.season.specs.Total.{total}
use Rattle.season.specs.Parts.{InParts, last, next, judge_parts, requests_of_parts}
use Rattle.season.proofs.Figures.{figures_added}
use Rattle.season.proofs.Asked.{AcceptedLines, log_opens, log_closes}

-- ---- a text that ends with LF; an accepted log does

ends : Str → Bool
ends [] = false
ends (x ∷ []) = eqb x 10
ends (x ∷ y ∷ s) = ends (y ∷ s)

ends_later : (x : ℕ) (s : Str) → ends s ≡ true → ends (x ∷ s) ≡ true
unfolding ends
ends_later x [] h = clash h refl
ends_later x (y ∷ s) h = h

ends_before : (x : ℕ) (s : Str) → eqb x 10 ≡ false → ends (x ∷ s) ≡ true → ends s ≡ true
unfolding ends
ends_before x [] n h = clash h n
ends_before x (y ∷ s) n h = h

no_frame : {X : Type 0} {f : Str} → ◌≡◌ {A = Option Str} none (some f) → X
no_frame e = let z : ◌≡◌ {A = ℕ} 0 1 = cc in absurd (omega arith)

pairs_end : (s f : Str) → pairs s ≡ some f → ends s ≡ true
unfolding pairs pair ends whether◌then◌else◌
pairs_end [] f e = no_frame e
pairs_end (x ∷ []) f e = by (eqb x 10) (λ u. u) (λ u. no_frame (rw u at e))
pairs_end (x ∷ y ∷ s) f e = go (is_hex x and is_hex y) (pairs s) e (pairs_end s)
  where
    go : (t : Bool) (o : Option Str) → pair t (hex_value x * 16 + hex_value y) o ≡ some f → ((g : Str) → o ≡ some g → ends s ≡ true) → ends (y ∷ s) ≡ true
    go true none i h = no_frame i
    go true (some g) i h = ends_later y s (h g refl)
    go false o i h = no_frame i

good_ends : (l : Str) → absent (request_of l) ≡ false → ends l ≡ true
unfolding request_of frame bind nonempty absent
good_ends l h = go (pairs l) h (pairs_end l)
  where
    go : (o : Option Str) → absent (bind (nonempty o) good_request) ≡ false → ((f : Str) → o ≡ some f → ends l ≡ true) → ends l ≡ true
    go none i k = clash refl i
    go (some f) i k = k f refl

abbrev AllEnd : List Str → Type 0
AllEnd ls = (l : Str) → l ∈ ls → ends l ≡ true

-- lines that end, after a byte is taken away
onto_ends : (x : ℕ) (ls : List Str) → AllEnd (onto (eqb x 10) x ls) → AllEnd ls
unfolding onto
onto_ends x ls h = by (eqb x 10) (λ u. let h' = rw u at h in λ l m. h' l (Memᴰ.tail m)) (λ u. go u ls (rw u at h))
  where
    go : eqb x 10 ≡ false → (ks : List Str) → AllEnd (onto false x ks) → AllEnd ks
    go u [] k = λ l m. absurd (Memᴰ.not-nil m)
    go u (k ∷ ks) i = on_cons _ (ends_before x k u (i (x ∷ k) (Memᴰ.head refl))) (λ l m. i l (Memᴰ.tail m))

-- a text whose lines all end, ends
text_ends : (x : ℕ) (a : Str) → AllEnd (lines (x ∷ a)) → ends (x ∷ a) ≡ true
unfolding lines ends
text_ends x [] h = go (eqb x 10) h
  where
    go : (b : Bool) → AllEnd (onto b x []) → ends (x ∷ []) ≡ true
    go true k = unfold onto in k (x ∷ []) (Memᴰ.head refl)
    go false k = unfold onto in k (x ∷ []) (Memᴰ.head refl)
text_ends x (y ∷ a) h = text_ends y a (onto_ends x (lines (y ∷ a)) h)

-- ---- the lines of a text that ends with LF, and those of another after it

some_line : (b : Bool) (x : ℕ) (ls : List Str) → (l : Str) × (ms : List Str) × (onto b x ls ≡ l ∷ ms)
unfolding onto
some_line true x ls = (x ∷ [], ls, refl)
some_line false x [] = (x ∷ [], [], refl)
some_line false x (l ∷ ls) = (x ∷ l, ls, refl)

onto_some : (x : ℕ) (l : Str) (ls ms : List Str) → onto (eqb x 10) x ((l ∷ ls) ++ ms) ≡ onto (eqb x 10) x (l ∷ ls) ++ ms
unfolding onto
onto_some x l ls ms = by (eqb x 10) (λ u. rw u) (λ u. rw u)

lines_append : (a b : Str) → ends a ≡ true → lines (a ++ b) ≡ lines a ++ lines b
unfolding lines ends
lines_append [] b h = refl
lines_append (x ∷ []) b h = unfold onto in rw h
lines_append (x ∷ y ∷ a) b h =
    let i = some_line (eqb y 10) y (lines a) in
    ap (onto (eqb x 10) x) (lines_append (y ∷ a) b h) ∙ rw i.2 (onto_some x i.0 i.1 (lines b))

requests_append : (ls ms : List Str) → requests_of (ls ++ ms) ≡ requests_of ls ++ requests_of ms
unfolding requests_of
requests_append [] ms = refl
requests_append (l ∷ ls) ms = go (request_of l) (requests_append ls ms)
  where
    go : (o : Option Request) → requests_of (ls ++ ms) ≡ requests_of ls ++ requests_of ms
        → before o (requests_of (ls ++ ms)) ≡ before o (requests_of ls) ++ requests_of ms
    go none e = unfold before in e
    go (some q) e = unfold before in ap (λ (qs : List Request). q ∷ qs) e

-- the first fault
judge_append : (number : ℕ) (ls ms : List Str) → judge_log number (ls ++ ms) ≡ first_fault (judge_log number ls) (judge_log (number + length ls) ms)
unfolding judge_log first_fault whether◌then◌else◌
judge_append number [] ms = ap (λ (k : ℕ). judge_log k ms) (omega arith)
judge_append number (l ∷ ls) ms =
    by (ltb max_log_lines number) (λ u. rw u)
    (λ u. by (absent (request_of l)) (λ v. rw (u, v))
    (λ v. rw (u, v) (judge_append (number + 1) ls ms ∙ ap (λ (k : ℕ). first_fault (judge_log (number + 1) ls) (judge_log k ms)) (omega arith))))

-- of two texts whose lines are those of both
module _ (a b : Str) (j : lines (a ++ b) ≡ lines a ++ lines b) where
  joint_logs : log_of (a ++ b) ≡ log_of a ++ log_of b
  unfolding log_of
  joint_logs = ap requests_of j ∙ requests_append (lines a) (lines b)

  joint_judged : (number : ℕ) → judge_log number (lines (a ++ b)) ≡ first_fault (judge_log number (lines a)) (judge_log (number + length (lines a)) (lines b))
  joint_judged number = ap (judge_log number) j ∙ judge_append number (lines a) (lines b)

-- ---- two logs, one after the other

module _ (a b : Str) (e : check_log a ≡ Accepted) where
  pub both_lines : lines (a ++ b) ≡ lines a ++ lines b
  both_lines = go a (λ l m. good_ends l ((log_opens a e).good l m))
    where
      go : (c : Str) → AllEnd (lines c) → lines (c ++ b) ≡ lines c ++ lines b
      go [] h = unfold lines in refl
      go (x ∷ c) h = lines_append (x ∷ c) b (text_ends x c h)

  pub both_logs : log_of (a ++ b) ≡ log_of a ++ log_of b
  both_logs = joint_logs a b both_lines

  -- the second log's lines count on
  pub both_checked : check_log (a ++ b) ≡ judge_log (length (lines a) + 1) (lines b)
  unfolding check_log first_fault
  both_checked =
      let n : 1 + length (lines a) ≡ length (lines a) + 1 = omega arith in
      joint_judged a b both_lines 1
      ∙ ap (λ (c : Checked). first_fault c (judge_log (1 + length (lines a)) (lines b))) e ∙ ap (λ (k : ℕ). judge_log k (lines b)) n

  pub both_accepted : check_log b ≡ Accepted → length (lines a) + length (lines b) ≤ max_log_lines → check_log (a ++ b) ≡ Accepted
  both_accepted f h = log_closes (a ++ b) (rw both_lines all_lines)
    where
      go : (l : Str) → (l ∈ lines a) ⊎ (l ∈ lines b) → absent (request_of l) ≡ false
      go l (inl m) = (log_opens a e).good l m
      go l (inr m) = (log_opens b f).good l m

      all_lines : AcceptedLines (lines a ++ lines b)
      all_lines = record { few = omega (arith, length-append (lines a) (lines b)); good = λ l m. go l (Memᴰ.append_cases (lines a) m) }

-- ---- parts in turn are the whole

part_ends : (s : Str) → ends (s ++ (10 ∷ [])) ≡ true
unfolding ends
part_ends [] = refl
part_ends (x ∷ s) = ends_later x (s ++ (10 ∷ [])) (part_ends s)

part_lines : (s rest : Str) → lines ((s ++ (10 ∷ [])) ++ rest) ≡ lines (s ++ (10 ∷ [])) ++ lines rest
part_lines s rest = lines_append (s ++ (10 ∷ [])) rest (part_ends s)

part_logs : (s rest : Str) → log_of ((s ++ (10 ∷ [])) ++ rest) ≡ log_of (s ++ (10 ∷ [])) ++ log_of rest
part_logs s rest = joint_logs (s ++ (10 ∷ [])) rest (part_lines s rest)

no_fault_after : (c : Checked) → first_fault c Accepted ≡ c
unfolding first_fault
no_fault_after Accepted = refl
no_fault_after (Refused n l) = refl

-- the first fault is the same, with its number and its line
pub parts_judged : {log : Str} {parts : List Str} → InParts log parts → (number : ℕ) → judge_parts number parts ≡ judge_log number (lines log)
unfolding judge_parts
parts_judged (last p) number = no_fault_after (judge_log number (lines p))
parts_judged (next s {rest} {parts} d) number =
    let a = s ++ (10 ∷ []) in
    ap (first_fault (judge_log number (lines a))) (parts_judged d (number + length (lines a))) ∙ sym (joint_judged a rest (part_lines s rest) number)

-- and so are the requests
pub parts_requests : {log : Str} {parts : List Str} → InParts log parts → requests_of_parts parts ≡ log_of log
unfolding requests_of_parts
parts_requests (last p) = append-nil (log_of p)
parts_requests (next s {rest} {parts} d) = ap (λ (qs : List Request). log_of (s ++ (10 ∷ [])) ++ qs) (parts_requests d) ∙ sym (part_logs s rest)

-- so the figures are added
pub parts_sums : (t : Table) (i : ℕ) {log : Str} {parts : List Str} → InParts log parts
    → total (map (λ (p : Str). get_or (figures t (log_of p)) i 0) parts) ≡ get_or (figures t (log_of log)) i 0
parts_sums t i (last p) = omega arith
parts_sums t i (next s {rest} {parts} d) =
    rw (part_logs s rest) (omega (arith, figures_added t (log_of (s ++ (10 ∷ []))) (log_of rest) i, parts_sums t i d))
