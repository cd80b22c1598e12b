-- "A probe judges a request on what is in force: the candidate, else the live text, else factory, which names no rule"
use Rattle.std.specs.Prelude.{ℕ, eqb, length}
use Rattle.std.proofs.Math.Option.{none}
use Rattle.text.specs.Test.{whether◌then◌else◌}
use Rattle.text.specs.String.{Str}
use Rattle.text.specs.Refusal.{clear}
use Rattle.table.specs.Checked.{Accepted}
use Rattle.verdict.specs.Verdict.{NONE}
use Rattle.verdict_request.specs.Calls.{request_refusal, path_answer, path_verdict, tree_answer, tree_verdict}
use Rattle.verdict_request.specs.PathAnswer.{PathAnswer}
use Rattle.verdict_request.specs.PathAnswer as path
use Rattle.verdict_request.specs.TreeAnswer.{TreeAnswer}
use Rattle.verdict_request.specs.TreeAnswer as trees
use Rattle.rotation.specs.State.{text_in, in_force, InForce, Text, Factory}
use Rattle.rotation.specs.Calls.{probe_refusal}
use Rattle.rotation.specs.declared.Record.{Record}

-- "11, then 15, then .. 16, then the text .. in force (probe), then the request": the record's refusal, or what is judged of what is in force; the probe is
-- for records of that kind, and the store has n bytes
module _ {A : Type 0} (refused : ℕ → A) (judged : InForce → A) where
  unfoldable pub probed : ℕ → Record → ℕ → A
  probed kind r n = whether eqb (probe_refusal kind r n) clear then judged (in_force r) else refused (probe_refusal kind r n)

-- ---- the single-path verdict, for a record of kind 2

-- factory: "kind 2 denies all"; "Factory has no text to judge, but the request still is."
unfoldable pub path_on : Str → Str → ℕ → Str → Str → InForce → PathAnswer
path_on store user mode origin text (Text slot len) = path_verdict (text_in store slot len) user mode origin text
path_on store user mode origin text Factory = path_answer Accepted (request_refusal user mode origin text) none

abbrev pub path_refused : ℕ → PathAnswer
path_refused number = path.Refused number 0

unfoldable pub probe_path : Record → Str → Str → ℕ → Str → Str → PathAnswer
probe_path r store user mode origin text = probed path_refused (path_on store user mode origin text) 2 r (length store)

-- ---- the tree verdict

-- factory: "with tree NONE"
unfoldable pub tree_on : Str → Str → ℕ → Str → Str → InForce → TreeAnswer
tree_on store user mode origin text (Text slot len) = tree_verdict (text_in store slot len) user mode origin text
tree_on store user mode origin text Factory = tree_answer Accepted (request_refusal user mode origin text) NONE

abbrev pub tree_refused : ℕ → TreeAnswer
tree_refused number = trees.Refused number 0

unfoldable pub probe_tree : Record → Str → Str → ℕ → Str → Str → TreeAnswer
probe_tree r store user mode origin text = probed tree_refused (tree_on store user mode origin text) 2 r (length store)
