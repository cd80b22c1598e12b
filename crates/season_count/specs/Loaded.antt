-- What is told of a loaded table L, of the heading that is remembered, and of the frame of a line.
use Rattle.std.specs.Prelude.{Bool, ℕ, ◌≤◌, ◌<◌, ◌≡◌, List, take, get_or, Option, Some, None}
use Rattle.std.proofs.Math.Option as math
use Rattle.text.specs.String.{Str}
use Rattle.text.specs.Refusal.{clear}
use Rattle.text.specs.Frame.{got}
use Rattle.table.specs.Table.{Table}
use Rattle.table_membership.specs.Set.{UserGroups, set_in}
use Rattle.verdict.specs.Verdict.{Request}
use Rattle.verdict_concern.specs.Concern.{Applying}
use Rattle.verdict_request.specs.PathAnswer.{PathAnswer}
use Rattle.verdict_request.specs.declared.PathAnswer as given
use Rattle.verdict_request.specs.Answers.{on_path}
use Rattle.verdict_call.specs.Holding.{Holding}
use Rattle.request_log.specs.Request.{good_request}
use Rattle.request_log.specs.Heading.{Head, heading, head_bytes, head_refusal}
use Rattle.season.specs.Report.{answer_to}
use Rattle.season_count.specs.Counts.{Placed}
use Rattle.season_count.specs.declared.loaded.Loaded.{Loaded}
use Rattle.season_count.specs.declared.run.Run.{Run}

-- the set of the groups that list the user
abbrev pub groups_in : Loaded → Str → ℕ
groups_in L user = set_in user L.rules.bytes.now L.users.now L.owners.now L.members 0 0

module _ (L : Loaded) where
  -- the table is t
  pub record Is (t : Table) : Type 0 where
    pub holding : Holding t L.rules.bytes.now L.rules.starts.now L.rules.holders.now L.rules.count
    pub groups : (user : Str) → UserGroups t user (groups_in L user)

  -- `on` marks the rules that concern a heading
  abbrev pub Concerned : Head → List Bool → Type 0
  Concerned h on = Applying L.rules.bytes.now L.rules.starts.now L.rules.holders.now L.rules.count (groups_in L h.user) h.user h.mode h.origin on

  -- the bytes that r remembers are a good heading, and its marks are those of the rules that concern it; or none is remembered yet
  pub record Remembered (r : Run) : Type 0 where
    pub head : 0 < r.len → (h : Head) × (take r.len r.key ≡ head_bytes h) × (head_refusal h ≡ clear) × Concerned h r.on

  -- the frame has a good heading that ends at e, and it is the one that is remembered
  pub record GoodHead (frame : Str) (r : Run) (e : ℕ) : Type 0 where
    pub ends : r.len ≡ e
    pub head : Head
    pub reads : heading frame 0 ≡ got head e
    pub good : head_refusal head ≡ clear
    pub bytes : take r.len r.key ≡ head_bytes head
    pub marks : Concerned head r.on

  -- a good heading ends at the place, and is the one that is remembered; or the frame has no good one
  unfoldable pub Headed : Str → Run → Option ℕ → Type 0
  Headed frame r (Some e) = GoodHead frame r e
  Headed frame r None = good_request frame ≡ math.none

  -- the frame holds a good request, and that is its answer
  pub record Answers (frame : Str) (r : Run) (a : PathAnswer) : Type 0 where
    pub kept : Remembered r
    pub placed : Placed a
    pub mode : (1 ≤ get_or frame 0 0) × (get_or frame 0 0 ≤ 2)
    pub request : Request
    pub good : good_request frame ≡ math.some request
    pub same_mode : request.mode ≡ get_or frame 0 0
    pub answer : (t : Table) → Is t → a ≡ answer_to t request

  -- what is said of a frame
  unfoldable pub Judges : Str → Run → Option given.PathAnswer → Type 0
  Judges frame r (Some a) = Answers frame r (on_path a)
  Judges frame r None = good_request frame ≡ math.none
