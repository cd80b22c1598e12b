-- Counting line after line: what the loop keeps.
use Prim.Native.Nat.{ℕ, ◌+◌, ◌≤◌, ◌<◌}
use native.Mathlib.Nat.{add-zero}
use native.Mathlib.Omega.{arith}
use borrow.Author.Tests.{lt-ltb, le-ltb}
use mathlib.Core.Path.{◌≡◌, refl, sym, ap, ◌∙◌, subst}
use mathlib.Core.List.{List, [], ◌∷◌, ◌++◌, append_assoc, append-nil}
use mathlib.Core.Option.{Option, none, some}
use lib.ListN.{length, drop, length-append, length-drop}
use lib.Seq.{drop-length}
use Rattle.std.specs.Prelude.{Some, None}
use Rattle.std.specs.Prelude.{Option as RustOption}
use Rattle.limits.specs.Limits.{max_log_lines}
use Rattle.text.specs.Test.{whether◌then◌else◌, absent}
use Rattle.text.specs.String.{Str}
use Rattle.table_line.specs.Lines.{lines}
use Rattle.table_line.proofs.FirstLine.{lines_cons}
use Rattle.table.specs.Table.{Table}
use Rattle.table.specs.Checked.{Accepted, Refused}
use Rattle.verdict.specs.Verdict.{Request}
use Rattle.request_log.specs.Request.{request_of}
use Rattle.request_log.specs.Log.{judge_log, before, requests_of}
use Rattle.season_count.specs.Loaded.{Is, Remembered}
use Rattle.season_count.specs.Counting.{CountsOf, BadLine, CountedLine, CountedLines, Counts-line}
use Rattle.season_count.specs.declared.count.Tally.{Tally}
use Rattle.season_count.specs.declared.run.Run.{Run}
use Rattle.season_count.specs.declared.loaded.Loaded.{Loaded}

-- ---- one line of a log

judge_over : (k : ℕ) (l : Str) (ls : List Str) → max_log_lines < k → judge_log k (l ∷ ls) ≡ Refused 50 0
unfolding judge_log whether◌then◌else◌
judge_over k l ls h = rw (lt-ltb max_log_lines k h)

judge_bad : (k : ℕ) (l : Str) (ls : List Str) → k ≤ max_log_lines → request_of l ≡ none → judge_log k (l ∷ ls) ≡ Refused 51 k
unfolding judge_log whether◌then◌else◌ absent
judge_bad k l ls h e = rw (le-ltb max_log_lines k h, e)

judge_good : (k : ℕ) (l : Str) (ls : List Str) (q : Request) → k ≤ max_log_lines → request_of l ≡ some q → judge_log k (l ∷ ls) ≡ judge_log (k + 1) ls
unfolding judge_log whether◌then◌else◌ absent
judge_good k l ls q h e = rw (le-ltb max_log_lines k h, e)

judge_none : (k : ℕ) → judge_log k [] ≡ Accepted
unfolding judge_log
judge_none k = refl

requests_none : requests_of [] ≡ []
unfolding requests_of
requests_none = refl

requests_cons : (l : Str) (ls : List Str) → requests_of (l ∷ ls) ≡ before (request_of l) (requests_of ls)
unfolding requests_of
requests_cons l ls = refl

requests_more : (ls : List Str) (l : Str) (q : Request) → request_of l ≡ some q → requests_of (ls ++ (l ∷ [])) ≡ requests_of ls ++ (q ∷ [])
unfolding before
requests_more [] l q e = requests_cons l [] ∙ rw (e, requests_none)
requests_more (m ∷ ls) l q e = requests_cons m (ls ++ (l ∷ [])) ∙ rw (requests_more ls l q e) (go (request_of m)) ∙ ap (λ (qs : List Request). qs ++ (q ∷ [])) (sym (requests_cons m ls))
  where
    go : (x : Option Request) → before x (requests_of ls ++ (q ∷ [])) ≡ before x (requests_of ls) ++ (q ∷ [])
    go none = refl
    go (some p) = refl

no_lines : lines [] ≡ []
unfolding lines
no_lines = refl

-- ---- what the loop keeps

module _ (L : Loaded) (text : Str) (tally : Tally) where
  -- what is said of a step, by its answer
  module _ (from : ℕ) (tally₁ : Tally) (run : Run) (tally₂ : Tally) (s : RustOption ℕ) (S : Counts-line L text from tally₁ run tally₂ s) where
    pub step_bad : s ≡ None → BadLine text from
    unfolding Counts-line
    step_bad e = subst (λ (x : RustOption ℕ). Counts-line L text from tally₁ run tally₂ x) e S

    pub step_to : (next : ℕ) → s ≡ Some next → CountedLine L text from tally₁ next run tally₂
    unfolding Counts-line
    step_to next e = subst (λ (x : RustOption ℕ). Counts-line L text from tally₁ run tally₂ x) e S

  pub record Going (from : ℕ) (run : Run) (tally' : Tally) : Type 0 where
    pub done : List Str
    pub split : lines text ≡ done ++ lines (drop from text)
    pub judged : judge_log (tally.lines + 1) (lines text) ≡ judge_log (tally'.lines + 1) (lines (drop from text))
    pub all_lines : tally'.lines ≡ tally.lines + length done
    pub within : from ≤ length text
    pub kept : Remembered L run
    pub counts_are : (t : Table) → Is L t → (qs : List Request) → CountsOf t qs tally → CountsOf t (qs ++ requests_of done) tally'

  pub going_starts : {run : Run} → Remembered L run → Going 0 run tally
  going_starts kept =
      record {
        done = [];
        split = refl;
        judged = refl;
        all_lines = sym (add-zero tally.lines);
        within = omega arith;
        kept = kept;
        counts_are = λ t is qs c. rw (requests_none, append-nil qs) c;
      }

  module _ {from : ℕ} {run : Run} {tally' : Tally} (G : Going from run tally') where
    pub going_over : from < length text → max_log_lines ≤ tally'.lines → judge_log (tally.lines + 1) (lines text) ≡ Refused 50 0
    going_over h l =
        let c = lines_cons (drop from text) (omega (arith, length-drop from text)) in
        G.judged ∙ ap (judge_log (tally'.lines + 1)) c.2 ∙ judge_over (tally'.lines + 1) c.0 c.1 (omega arith)

    pub going_bad : tally'.lines < max_log_lines → BadLine text from → judge_log (tally.lines + 1) (lines text) ≡ Refused 51 (tally'.lines + 1)
    going_bad l b = G.judged ∙ ap (judge_log (tally'.lines + 1)) b.first ∙ judge_bad (tally'.lines + 1) b.line b.others (omega arith) b.bad

    pub going_on : tally'.lines < max_log_lines → {next : ℕ} {run'' : Run} {tally'' : Tally} → CountedLine L text from tally' next run'' tally''
        → Going next run'' tally''
    going_on l {next} {run''} {tally''} S =
        record {
          done = G.done ++ (S.line ∷ []);
          split = G.split ∙ ap (λ (ls : List Str). G.done ++ ls) S.first ∙ sym (append_assoc G.done (S.line ∷ []) (lines (drop next text)));
          judged =
              G.judged ∙ ap (judge_log (tally'.lines + 1)) S.first ∙ judge_good (tally'.lines + 1) S.line _ S.request (omega arith) S.good
              ∙ ap (λ (k : ℕ). judge_log (k + 1) (lines (drop next text))) (sym S.more);
          all_lines = omega (arith, G.all_lines, S.more, length-append G.done (S.line ∷ []));
          within = S.goes.1;
          kept = S.kept;
          counts_are =
              λ t is qs c. rw (requests_more G.done S.line S.request S.good, ← append_assoc qs (requests_of G.done) (S.request ∷ []))
              (S.counts_are t is (qs ++ requests_of G.done) (G.counts_are t is qs c));
        }

    pub going_ends : length text ≤ from → CountedLines L text tally run tally'
    going_ends h =
        let w = G.within in
        let e : from ≡ length text = omega arith in
        let none_left : lines (drop from text) ≡ [] = ap (λ (k : ℕ). lines (drop k text)) e ∙ ap lines (drop-length text) ∙ no_lines in
        let d : lines text ≡ G.done = G.split ∙ ap (λ (ls : List Str). G.done ++ ls) none_left ∙ append-nil G.done in
        record {
          accepted = G.judged ∙ ap (judge_log (tally'.lines + 1)) none_left ∙ judge_none (tally'.lines + 1);
          all_lines = G.all_lines ∙ ap (λ (ls : List Str). tally.lines + length ls) (sym d);
          kept = G.kept;
          counts_are = λ t is qs c. rw d (G.counts_are t is qs c);
        }
