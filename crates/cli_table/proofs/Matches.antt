-- The lines of the rules that match a request, on a loaded table and below its verdict.
use Prim.Native.Nat.{ℕ}
use native.Mathlib.Omega.{arith}
use borrow.Author.Tests.{eqb-true}
use mathlib.Core.Path.{◌≡◌, refl, sym, ◌∙◌}
use mathlib.Core.List.{List, []}
use mathlib.Core.Option.{Option, none, some}
use lib.Dec.{eqb}
use lib.ListN.{take}
use Rattle.text.specs.Test.{◌or◌, whether◌then◌else◌, absent}
use Rattle.text.specs.String.{Str}
use Rattle.text.specs.Refusal.{◌when◌else◌, clear}
use Rattle.text.proofs.Tests.{by}
use Rattle.path.specs.Path.{Path}
use Rattle.path_read.specs.TextReader.{read_text}
use Rattle.table.specs.Text.{check, table_of}
use Rattle.table.specs.Group.{bad_user}
use Rattle.table.specs.Checked.{Checked}
use Rattle.table.specs.Checked as checked
use Rattle.table.specs.declared.RuleNumber.{RuleNumber}
use Rattle.table_place.specs.Place.{path_in}
use Rattle.table_rows.specs.Rules.{rules_in}
use Rattle.table_load.specs.declared.loaded.Table.{Table}
use Rattle.table_load.specs.Loaded.{Kept, bytes}
use Rattle.table_membership.specs.Set.{set_in}
use Rattle.table_check.proofs.Calls.{grouped}
use Rattle.verdict.specs.Order.{Numbered}
use Rattle.verdict.specs.Verdict.{decider}
use Rattle.verdict_request.specs.Calls.{bad_mode, bad_origin, request_refusal, asked, request, path_answer, path_verdict}
use Rattle.verdict_request.specs.PathAnswer.{PathAnswer}
use Rattle.verdict_request.specs.PathAnswer as path
use Rattle.verdict_call.specs.Holding.{OfTable, Read}
use Rattle.verdict_call.proofs.Spelled.{path_bytes_lem, spelled_is}
use Rattle.verdict_call.proofs.Holding.{holding}
use Rattle.verdict_explain.specs.Ranking.{ranking}
use Rattle.cli_explained.specs.Explained.{ranking_lines, match_lines, below, explanation}
use Rattle.cli_explained.specs.Steps.{ListsMatches}

-- ---- on a loaded table

module _ {text : List ℕ} {t : Table} (K : Kept text t)
    (user : Str) (mode : ℕ) (origin s : Str) (len : ℕ) (g : List ℕ) (R : Read s len g)
    (set : ℕ) (e : set ≡ set_in user (bytes t) t.users t.owners t.counts.members 0 0) (numbers : List ℕ)
    (h : OfTable (bytes t) t.starts t.holders t.counts.rules user set (λ t. numbers ≡ ranking t (asked user mode origin (path_in (take len g) 0)))) where
  pub matches_listed : (lines : Str) → lines ≡ ranking_lines (rules_in (bytes t) t.starts t.counts.rules 0) numbers → ListsMatches text user mode origin s lines
  unfolding match_lines
  matches_listed lines a accepted p reads =
      let i : R.path ≡ p = (let z : some R.path ≡ some p = sym R.reads ∙ reads in cc) in
      let q : path_in (take len g) 0 ≡ p = (path_bytes_lem _ R.path R.read).1 ∙ i in
      let o : numbers ≡ ranking (table_of text) (asked user mode origin (path_in (take len g) 0)) = h (table_of text) (holding K) (rw e (grouped K user)) in
      rw ((holding K).rules, o, q) at a

module _ (text user : Str) (mode : ℕ) (origin s lines : Str) where
  pub no_path : read_text s ≡ none → ListsMatches text user mode origin s lines
  no_path h accepted p reads = let z : none ≡ some p = sym h ∙ reads in let y : ◌≡◌ {A = ℕ} 0 1 = cc in absurd (omega arith)

  pub no_table : (x l : ℕ) → checked.Refused x l ≡ check text → ListsMatches text user mode origin s lines
  no_table x l h accepted p reads = let z : checked.Refused x l ≡ checked.Accepted = h ∙ accepted in let y : ◌≡◌ {A = ℕ} 0 1 = cc in absurd (omega arith)

-- ---- below the verdict

-- it is no refusal
abbrev Judged : PathAnswer → Type 0
Judged a = (n l : ℕ) → a ≡ path.Refused n l → ⊥

judged_on : (c : Checked) (k : ℕ) (x : Option Numbered) (a : PathAnswer) → Judged a → a ≡ path_answer c k x → (c ≡ checked.Accepted) × (k ≡ clear)
unfolding path_answer whether◌then◌else◌
judged_on (checked.Refused n l) k x a h e = absurd (h n l e)
judged_on checked.Accepted k x a h e = by (eqb k clear) (λ u. (refl, eqb-true _ _ u)) (λ u. absurd (h k 0 (rw u at e)))

read_there : (x : Option Path) → (22 when absent x else clear) ≡ clear → (p : Path) × (x ≡ some p)
unfolding absent whether◌then◌else◌
read_there none h = absurd (omega (arith, h))
read_there (some p) h = (p, refl)

path_there : (user : Str) (mode : ℕ) (origin s : Str) → request_refusal user mode origin s ≡ clear → (p : Path) × (read_text s ≡ some p)
unfolding request_refusal whether◌then◌else◌
path_there user mode origin s h =
    by (bad_user user or bad_mode mode)
    (λ u. let z : ◌≡◌ {A = ℕ} 20 clear = rw u at h in absurd (omega arith))
    (λ u. by (bad_origin origin)
    (λ v. let z : ◌≡◌ {A = ℕ} 21 clear = rw (u, v) at h in absurd (omega arith))
    (λ v. read_there (read_text s) (rw (u, v) at h)))

module _ (text user : Str) (mode : ℕ) (origin s : Str) (a : PathAnswer) (e : a ≡ path_verdict text user mode origin s) (lines : Str) where
  all_listed : Judged a → ListsMatches text user mode origin s lines → lines ≡ match_lines (table_of text) (request user mode origin s)
  unfolding request
  all_listed j h =
      let o = judged_on (check text) (request_refusal user mode origin s) (decider (table_of text) (request user mode origin s)) a j (unfold path_verdict in e) in
      let r = path_there user mode origin s o.1 in
      rw (spelled_is s r.0 r.1) (h o.0 r.0 r.1)

  pub explained_permit : (rule : RuleNumber) → a ≡ path.Permit rule → ListsMatches text user mode origin s lines → lines ≡ explanation text user mode origin s
  unfolding explanation below
  explained_permit rule i h = let q : path_verdict text user mode origin s ≡ path.Permit rule = sym e ∙ i in
      rw q (all_listed (λ x l z. let w : path.Permit rule ≡ path.Refused x l = sym i ∙ z in let y : ◌≡◌ {A = ℕ} 0 1 = cc in absurd (omega arith)) h)

  pub explained_deny : (rule : RuleNumber) → a ≡ path.Deny rule → ListsMatches text user mode origin s lines → lines ≡ explanation text user mode origin s
  unfolding explanation below
  explained_deny rule i h = let q : path_verdict text user mode origin s ≡ path.Deny rule = sym e ∙ i in
      rw q (all_listed (λ x l z. let w : path.Deny rule ≡ path.Refused x l = sym i ∙ z in let y : ◌≡◌ {A = ℕ} 0 1 = cc in absurd (omega arith)) h)

  pub unexplained : a ≡ path.Default → lines ≡ [] → lines ≡ explanation text user mode origin s
  unfolding explanation below
  unexplained i z = let q : path_verdict text user mode origin s ≡ path.Default = sym e ∙ i in rw q z

  pub refused_bare : (x l : ℕ) → a ≡ path.Refused x l → lines ≡ [] → lines ≡ explanation text user mode origin s
  unfolding explanation below
  refused_bare x l i z = let q : path_verdict text user mode origin s ≡ path.Refused x l = sym e ∙ i in rw q z
