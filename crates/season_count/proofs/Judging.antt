-- The answer to a frame whose heading and path are good.
use mathlib.Core.Bool.{Bool}
use Prim.Native.Nat.{ℕ, ◌≤◌, ◌<◌}
use native.Mathlib.Omega.{arith}
use mathlib.Core.Path.{◌≡◌, refl, ap, ◌∙◌, subst}
use mathlib.Core.Bool.{true, false}
use mathlib.Core.List.{List}
use mathlib.Core.Option.{Option, none, some}
use Rattle.std.specs.Prelude.{Some, None}
use Rattle.std.specs.Prelude.{Option as RustOption}
use lib.ListN.{length, get_or}
use Rattle.limits.specs.Limits.{max_rules}
use Rattle.text.specs.Test.{whether◌then◌else◌}
use Rattle.text.specs.Frame.{Parsed, got, unread}
use Rattle.text.proofs.Tests.{by}
use Rattle.path.specs.Path.{Path}
use Rattle.path.specs.Bytes.{path}
use Rattle.path.specs.Walk.{is_path_in}
use Rattle.table_rows.specs.Rules.{rules_in}
use Rattle.table_place.specs.Place.{path_end, path_in}
use Rattle.table_place.proofs.Reading.{path_read}
use Rattle.table.specs.Table.{Rule}
use Rattle.verdict.specs.Order.{better, Numbered, choose}
use Rattle.verdict_judge.specs.Rules.{Marked}
use Rattle.verdict_judge.specs.Best.{NumberBelow, matching}
use Rattle.verdict_request.specs.Calls.{decided_by}
use Rattle.verdict_request.specs.PathAnswer.{PathAnswer}
use Rattle.verdict_call.proofs.Found.{found}
use Rattle.request_log.specs.Request.{good_request}
use Rattle.request_log.proofs.Headings.{no_path_there, head_mode, bad_path, good_path_lem, with_path}
use Rattle.request_log.proofs.Lengths.{good_mode}
use Rattle.season.specs.Report.{answer_to}
use Rattle.season_count.specs.Counts.{Placed}
use Rattle.season_count.specs.Loaded.{Headed, GoodHead, Answers}
use Rattle.season_count.specs.declared.run.Run.{Run}
use Rattle.season_count.specs.declared.loaded.Loaded.{Loaded}

-- ---- the path

path_within : (f : List ℕ) (at : ℕ) (x : Parsed Path) → path f at ≡ x → is_path_in f x ≡ true → path_end f at ≤ length f
path_within f at (got p t) e y = (path_read f at p t e).0
path_within f at unread e y = no_path_there f y

pub path_ends : (f : List ℕ) (at : ℕ) → is_path_in f (path f at) ≡ true → path_end f at ≤ length f
path_ends f at y = path_within f at (path f at) refl y

-- ---- the rule that decided has a place

decided_placed : (x : Option Numbered) (n : ℕ) → NumberBelow n x → n ≤ max_rules → Placed (decided_by x)
unfolding Placed decided_by whether◌then◌else◌
decided_placed none n l h = tt
decided_placed (some m) n l h =
    let k : m.number < max_rules = omega (arith, l m refl) in by m.rule.permit (λ p. rw p k) (λ p. rw p k)

-- ---- what `turn_to` tells

module _ (L : Loaded) (frame : List ℕ) (r : Run) (o : RustOption ℕ) (H : Headed L frame r o) where
  pub no_head : o ≡ None → good_request frame ≡ none
  unfolding Headed
  no_head e = subst (Headed L frame r) e H

  pub head_of : (e : ℕ) → o ≡ Some e → GoodHead L frame r e
  unfolding Headed
  head_of e i = subst (Headed L frame r) i H

-- ---- the answer

module _ {L : Loaded} {frame : List ℕ} {r : Run} {e : ℕ} (H : GoodHead L frame r e) where
  pub bad_end : is_path_in frame (path frame e) ≡ false → good_request frame ≡ none
  bad_end y = bad_path frame H.head e H.reads H.good y

  pub answered : is_path_in frame (path frame e) ≡ true → (x : Option Numbered) → NumberBelow L.rules.count x
      → ((app : Rule → Bool) → Marked app L.rules.bytes.now L.rules.starts.now r.on L.rules.count
      → x ≡ choose better (matching app (path_in frame e)) 0 (rules_in L.rules.bytes.now L.rules.starts.now L.rules.count 0))
      → (a : PathAnswer) → a ≡ decided_by x → Answers L frame r a
  unfolding answer_to
  answered y x below best a i =
      let mode : H.head.mode ≡ get_or frame 0 0 = head_mode frame H.head e H.reads in
      record {
        kept = record { head = λ q. (H.head, H.bytes, H.good, H.marks) };
        placed = rw i (decided_placed x L.rules.count below L.rules.safe.few);
        mode = rw mode at (good_mode H.head H.good);
        request = with_path H.head (path_in frame e);
        good = good_path_lem frame H.head e H.reads H.good y;
        same_mode = mode;
        answer =
            λ t is. i ∙ ap decided_by (found t L.rules.bytes.now L.rules.starts.now L.rules.holders.now L.rules.count is.holding H.head.user _
            (is.groups H.head.user) H.head.mode H.head.origin (path_in frame e) r.on H.marks x best);
      }
