-- A log is refused where `log show` stops, and accepted where it comes to the end.
use Prim.Native.Nat.{ℕ, ◌+◌, ◌≤◌, ◌<◌}
use native.Mathlib.Omega.{arith}
use borrow.Author.Tests.{lt-ltb, le-ltb}
use mathlib.Core.Path.{◌≡◌, refl, sym, ap, ◌∙◌}
use mathlib.Core.Bool.{true, false}
use mathlib.Core.List.{List, [], ◌∷◌, ◌++◌}
use mathlib.Core.Option.{Option, none, some}
use lib.ListN.{length}
use Rattle.limits.specs.Limits.{max_log_lines}
use Rattle.text.specs.Test.{whether◌then◌else◌, absent}
use Rattle.text.specs.String.{Str}
use Rattle.table_line.specs.Lines.{lines}
use Rattle.table.specs.Checked.{Accepted, Refused}
use Rattle.verdict.specs.Verdict.{Request}
use Rattle.request_log.specs.Request.{request_of}
use Rattle.request_log.specs.Log.{judge_log, check_log}
use Rattle.readable_lines.specs.Lines.{shown_log_line}
use Rattle.readable_laws.proofs.LogLines.{good_line_returns, shown_line_good}
use Rattle.readable_log.specs.Run.{before, converted}

-- ---- one line

shown_not_absent : (l r : Str) → shown_log_line l ≡ some r → absent (request_of l) ≡ false
unfolding absent
shown_not_absent l r e = let q = shown_line_good l r e in rw q.1

unshown_absent : (l : Str) → shown_log_line l ≡ none → absent (request_of l) ≡ true
unshown_absent l e = go (request_of l) refl
  where
    go : (o : Option Request) → request_of l ≡ o → absent o ≡ true
    go none i = unfold absent in refl
    go (some q) i =
        let r = good_line_returns l q i in
        let z : none ≡ some r.0 = sym e ∙ r.1 in
        let y : ◌≡◌ {A = ℕ} 0 1 = cc in absurd (omega arith)

-- ---- the lines before

first_converted : (g : Str → Option Str) (l : Str) (ls : List Str) (w : Str) → converted g (l ∷ ls) ≡ some w → (v : Str) × (u : Str) × (g l ≡ some v) × (converted g ls ≡ some u)
unfolding converted
first_converted g l ls w e = go (g l) refl (converted g ls) refl e
  where
    go : (o : Option Str) → g l ≡ o → (p : Option Str) → converted g ls ≡ p → before o p ≡ some w → (v : Str) × (u : Str) × (g l ≡ some v) × (converted g ls ≡ some u)
    go none i p j h = let z : none ≡ some w = (unfold before in h) in let y : ◌≡◌ {A = ℕ} 0 1 = cc in absurd (omega arith)
    go (some v) i none j h = let z : none ≡ some w = (unfold before in h) in let y : ◌≡◌ {A = ℕ} 0 1 = cc in absurd (omega arith)
    go (some v) i (some u) j h = (v, u, i, j)

passed : (taken : List Str) (number : ℕ) (w : Str) (rest : List Str) → converted shown_log_line taken ≡ some w → number + length taken ≤ max_log_lines + 1
    → judge_log number (taken ++ rest) ≡ judge_log (number + length taken) rest
unfolding judge_log whether◌then◌else◌
passed [] number w rest e h = let z : number ≡ number + 0 = omega arith in ap (λ (n : ℕ). judge_log n rest) z
passed (l ∷ taken) number w rest e h =
    let f = first_converted shown_log_line l taken w e in
    let z : number + 1 + length taken ≡ number + length (l ∷ taken) = omega arith in
    rw (le-ltb max_log_lines number (omega arith), shown_not_absent l f.0 f.2) (passed taken (number + 1) f.1 rest f.3 (omega arith) ∙ ap (λ (n : ℕ). judge_log n rest) z)

module _ (log : Str) (taken : List Str) (w : Str) (e : converted shown_log_line taken ≡ some w) where
  -- all lines were shown
  pub shown_all : lines log ≡ taken ++ [] → length taken ≤ max_log_lines → check_log log ≡ Accepted
  unfolding check_log judge_log
  shown_all i h = rw i (passed taken 1 w [] e (omega arith))

  module _ (l : Str) (ls : List Str) (i : lines log ≡ taken ++ (l ∷ ls)) where
    -- the next one is not
    pub shown_up_to : length taken < max_log_lines → shown_log_line l ≡ none → check_log log ≡ Refused 51 (1 + length taken)
    unfolding check_log judge_log whether◌then◌else◌
    shown_up_to h n =
        let p = passed taken 1 w (l ∷ ls) e (omega arith) in
        rw i (p ∙ rw (le-ltb max_log_lines (1 + length taken) (omega arith), unshown_absent l n))

    -- the next one is one too many
    pub shown_most : length taken ≡ max_log_lines → check_log log ≡ Refused 50 0
    unfolding check_log judge_log whether◌then◌else◌
    shown_most h =
        let p = passed taken 1 w (l ∷ ls) e (omega arith) in
        rw i (p ∙ rw (lt-ltb max_log_lines (1 + length taken) (omega arith)))
