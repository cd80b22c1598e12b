-- The requests of a log: each is accepted, asked by its path's text too; and an accepted log has one for each line.
use Prim.Native.Nat.{ℕ, ◌+◌, ◌≤◌}
use native.Mathlib.Omega.{arith}
use borrow.Author.Tests.{eqb-true, eqb-false, ltb-false, le-ltb}
use mathlib.Core.Path.{◌≡◌, refl, ap, ◌∙◌}
use mathlib.Core.Logic.{◌⊎◌, inl, inr}
use mathlib.Core.Bool.{Bool, true, false, not}
use mathlib.Core.List.Memᴰ
use mathlib.Core.List.{List, [], ◌∷◌, map}
use mathlib.Core.Option.{Option, none, some, bind}
use lib.Dec.{eqb, ltb}
use lib.ListN.{length, length-map}
use Rattle.limits.specs.Limits.{max_log_lines}
use Rattle.text.specs.Test.{whether◌then◌else◌, ◌∈◌, absent}
use Rattle.text.specs.String.{Str}
use Rattle.text.specs.Refusal.{◌when◌else◌, clear}
use Rattle.text.proofs.Tests.{by, clash, on_cons}
use Rattle.path.specs.Refusal.{good_path}
use Rattle.path_read.specs.Text.{path_text}
use Rattle.table_line.specs.Lines.{lines, frame}
use Rattle.table.specs.Checked.{Accepted}
use Rattle.verdict.specs.Verdict.{Request}
use Rattle.verdict_request.specs.Calls.{request_refusal, request}
use Rattle.request_log.specs.Request.{framed_request, framed_refusal, unrefused, good_request, request_of}
use Rattle.request_log.specs.Log.{judge_log, check_log, before, requests_of, log_of}
use Rattle.request_log.proofs.Headings.{good_parts}
use Rattle.request_log.proofs.Lengths.{good_mode}
use Rattle.request_log.proofs.Spelled.{same_request, same_number}
use Rattle.season.proofs.Totals.{ReadsOrWrites}

-- ---- a request of a line

-- the call with its path's text asks it, and refuses nothing
pub record Asked (q : Request) : Type 0 where
  pub mode : ReadsOrWrites q
  pub accepted : request_refusal q.user q.mode q.origin (path_text q.path) ≡ clear
  pub same : request q.user q.mode q.origin (path_text q.path) ≡ q

unrefused_clear : (o : Option Request) (q : Request) → unrefused o ≡ some q → framed_refusal q ≡ clear
unfolding unrefused whether◌then◌else◌
unrefused_clear none q e = let z : ◌≡◌ {A = ℕ} 0 1 = cc in absurd (omega arith)
unrefused_clear (some p) q e =
    by (eqb (framed_refusal p) clear)
    (λ c. let e' = rw c at e in let i : q ≡ p = cc in rw i (eqb-true _ _ c))
    (λ c. let e' = rw c at e in let z : ◌≡◌ {A = ℕ} 0 1 = cc in absurd (omega arith))

path_clear : (a b g : Bool) → (20 when a else 21 when b else 22 when not g else clear) ≡ clear → g ≡ true
unfolding whether◌then◌else◌
path_clear true b g e = absurd (omega arith)
path_clear false true g e = absurd (omega arith)
path_clear false false false e = absurd (omega arith)
path_clear false false true e = refl

clear_path : (q : Request) → framed_refusal q ≡ clear → good_path q.path ≡ true
unfolding framed_refusal
clear_path q e = path_clear _ _ _ e

one_or_two : (m : ℕ) → 1 ≤ m → m ≤ 2 → (m ≡ 1) ⊎ (m ≡ 2)
one_or_two m l h = by (eqb m 1) (λ e. inl (eqb-true _ _ e)) (λ e. let z : m ≡ 1 → ⊥ = eqb-false _ _ e in inr (omega arith))

good_asked : (f : Str) (q : Request) → good_request f ≡ some q → Asked q
unfolding good_request
good_asked f q e =
    let g = good_parts f q e in
    let c = unrefused_clear (framed_request f) q e in
    let p = clear_path q c in
    let m = good_mode g.head g.clear_head in
    let i = ap (λ (r : Request). r.mode) g.is in
    record { mode = one_or_two q.mode (omega arith) (omega arith); accepted = same_number q p ∙ c; same = same_request q p }

line_asked : (l : Str) (q : Request) → request_of l ≡ some q → Asked q
unfolding request_of bind
line_asked l q e = go (frame l) e
  where
    go : (o : Option Str) → bind o good_request ≡ some q → Asked q
    go none i = let z : ◌≡◌ {A = ℕ} 0 1 = cc in absurd (omega arith)
    go (some f) i = good_asked f q i

all_asked : (ls : List Str) (q : Request) → q ∈ requests_of ls → Asked q
unfolding requests_of before
all_asked [] q m = absurd (Memᴰ.not-nil m)
all_asked (l ∷ ls) q m = go (request_of l) refl (all_asked ls q) m
  where
    go : (o : Option Request) → request_of l ≡ o → (q ∈ requests_of ls → Asked q) → q ∈ before o (requests_of ls) → Asked q
    go none e rest n = rest n
    go (some p) e rest (Memᴰ.head i) = rw i (line_asked l p e)
    go (some p) e rest (Memᴰ.tail n) = rest n

pub log_asked : (log : Str) (q : Request) → q ∈ log_of log → Asked q
unfolding log_of
log_asked log = all_asked (lines log)

-- ---- an accepted log

pub record AcceptedLines (ls : List Str) : Type 0 where
  pub few : length ls ≤ max_log_lines
  pub good : (l : Str) → l ∈ ls → absent (request_of l) ≡ false

-- the lines count from n + 1
judged_few : (n : ℕ) (ls : List Str) → n ≤ max_log_lines → judge_log (n + 1) ls ≡ Accepted → n + length ls ≤ max_log_lines
unfolding judge_log whether◌then◌else◌
judged_few n [] h e = omega arith
judged_few n (l ∷ ls) h e =
    by (ltb max_log_lines (n + 1))
    (λ u. let e' = rw u at e in let z : ◌≡◌ {A = ℕ} 0 1 = cc in absurd (omega arith))
    (λ u. let k : n + 1 ≤ max_log_lines = ltb-false _ _ u in
    by (absent (request_of l))
    (λ v. let e' = rw (u, v) at e in let z : ◌≡◌ {A = ℕ} 0 1 = cc in absurd (omega arith))
    (λ v. omega (arith, judged_few (n + 1) ls k (rw (u, v) at e))))

judged_good : (n : ℕ) (ls : List Str) → judge_log n ls ≡ Accepted → (l : Str) → l ∈ ls → absent (request_of l) ≡ false
unfolding judge_log whether◌then◌else◌
judged_good n [] e = λ l m. absurd (Memᴰ.not-nil m)
judged_good n (l ∷ ls) e =
    by (ltb max_log_lines n)
    (λ u. let e' = rw u at e in let z : ◌≡◌ {A = ℕ} 0 1 = cc in absurd (omega arith))
    (λ u. by (absent (request_of l))
    (λ v. let e' = rw (u, v) at e in let z : ◌≡◌ {A = ℕ} 0 1 = cc in absurd (omega arith))
    (λ v. on_cons _ v (judged_good (n + 1) ls (rw (u, v) at e))))

good_judged : (n : ℕ) (ls : List Str) → n + length ls ≤ max_log_lines → ((l : Str) → l ∈ ls → absent (request_of l) ≡ false) → judge_log (n + 1) ls ≡ Accepted
unfolding judge_log whether◌then◌else◌
good_judged n [] h g = refl
good_judged n (l ∷ ls) h g =
    rw (le-ltb max_log_lines (n + 1) (omega arith), g l (Memᴰ.head refl)) (good_judged (n + 1) ls (omega arith) (λ k m. g k (Memᴰ.tail m)))

pub log_opens : (log : Str) → check_log log ≡ Accepted → AcceptedLines (lines log)
unfolding check_log
log_opens log e = record { few = omega (arith, judged_few 0 (lines log) (omega arith) e); good = judged_good 1 (lines log) e }

pub log_closes : (log : Str) → AcceptedLines (lines log) → check_log log ≡ Accepted
unfolding check_log
log_closes log a = good_judged 0 (lines log) (omega (arith, a.few)) a.good

-- ---- a request for each line

line_request : (o : Option Request) (ls : List Str) → absent o ≡ false → map some (requests_of ls) ≡ map request_of ls
    → map some (before o (requests_of ls)) ≡ o ∷ map request_of ls
unfolding absent before
line_request none ls h e = clash refl h
line_request (some q) ls h e = ap (λ (os : List (Option Request)). some q ∷ os) e

lines_requests : (ls : List Str) → ((l : Str) → l ∈ ls → absent (request_of l) ≡ false) → map some (requests_of ls) ≡ map request_of ls
unfolding requests_of
lines_requests [] g = refl
lines_requests (l ∷ ls) g = line_request (request_of l) ls (g l (Memᴰ.head refl)) (lines_requests ls (λ k m. g k (Memᴰ.tail m)))

module _ (log : Str) (a : check_log log ≡ Accepted) where
  pub each_line : map some (log_of log) ≡ map request_of (lines log)
  unfolding log_of
  each_line = lines_requests (lines log) (log_opens log a).good

  pub log_length : length (log_of log) ≡ length (lines log)
  log_length = let e = ap length each_line in omega (arith, length-map (log_of log) (λ (q : Request). some q), length-map (lines log) request_of)

  pub log_few : length (log_of log) ≤ max_log_lines
  log_few = omega (arith, log_length, (log_opens log a).few)
