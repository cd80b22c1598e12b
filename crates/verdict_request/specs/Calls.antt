-- The answers of the two verdict calls, over the texts that they are given.
use Rattle.std.specs.Prelude.{ℕ, Bool, not, eqb, ltb, length}
use Rattle.std.proofs.Math.Option.{Option, none, some}
use Rattle.limits.specs.Limits.{max_short_string}
use Rattle.text.specs.Test.{◌or◌, whether◌then◌else◌, absent, or_nothing}
use Rattle.text.specs.String.{Str}
use Rattle.text.specs.Refusal.{◌when◌else◌, clear}
use Rattle.path.specs.Path.{Path}
use Rattle.path_read.specs.TextReader.{read_text}
use Rattle.table.specs.Refusal.{stray}
use Rattle.table.specs.Text.{check, table_of}
use Rattle.table.specs.Group.{bad_user}
use Rattle.table.specs.Checked.{Checked}
use Rattle.table.specs.Checked as checked
use Rattle.verdict.specs.Order.{Numbered}
use Rattle.verdict.specs.Verdict.{Request, decider, Tree, ALL, NONE, MIXED, tree}
use Rattle.verdict_request.specs.PathAnswer.{PathAnswer}
use Rattle.verdict_request.specs.PathAnswer as path
use Rattle.verdict_request.specs.TreeAnswer.{TreeAnswer}
use Rattle.verdict_request.specs.TreeAnswer as trees

-- ---- the request's refusal

-- "mode (1 read, 2 write)"
unfoldable pub bad_mode : ℕ → Bool
bad_mode mode = not (eqb mode 1 or eqb mode 2)

-- "Version, id and origin have at most 32 bytes"
unfoldable pub bad_origin : Str → Bool
bad_origin origin = ltb max_short_string (length origin) or stray origin

-- 20 and 21: "user or mode not as a table allows; origin likewise"; else what the path gets
abbrev pub refusal_or : ℕ → Str → ℕ → Str → ℕ
refusal_or path user mode origin =
    20 when (bad_user user or bad_mode mode)
    else 21 when bad_origin origin
    else path

-- 22: "path text"
unfoldable pub request_refusal : Str → ℕ → Str → Str → ℕ
request_refusal user mode origin text = refusal_or (22 when absent (read_text text) else clear) user mode origin

-- ---- the request

abbrev pub asked : Str → ℕ → Str → Path → Request
asked user mode origin p = record { user = user; mode = mode; origin = origin; path = p }

-- "A request has a user, a mode, an origin and path text."
unfoldable pub request : Str → ℕ → Str → Str → Request
request user mode origin text = asked user mode origin (or_nothing (read_text text))

-- ---- the single-path verdict

-- "The answer is the action and that rule's number. With no match: deny, by default, no rule."
unfoldable pub decided_by : Option Numbered → PathAnswer
decided_by none = path.Default
decided_by (some n) = whether n.rule.permit then path.Permit (record { 0 = n.number }) else path.Deny (record { 0 = n.number })

-- the table's refusal, the request's, or the verdict: "text before request"
unfoldable pub path_answer : Checked → ℕ → Option Numbered → PathAnswer
path_answer (checked.Refused n l) number d = path.Refused n l
path_answer checked.Accepted number d = whether eqb number clear then decided_by d else path.Refused number 0

-- the call, on texts
unfoldable pub path_verdict : Str → Str → ℕ → Str → Str → PathAnswer
path_verdict table user mode origin text =
    path_answer (check table) (request_refusal user mode origin text) (decider (table_of table) (request user mode origin text))

-- ---- the tree verdict

-- "with MIXED that number comes beside it"
unfoldable pub spread : Tree → TreeAnswer
spread ALL = trees.All
spread NONE = trees.None
spread (MIXED n) = trees.Mixed (record { 0 = n.number })

-- the same order of refusals
unfoldable pub tree_answer : Checked → ℕ → Tree → TreeAnswer
tree_answer (checked.Refused n l) number w = trees.Refused n l
tree_answer checked.Accepted number w = whether eqb number clear then spread w else trees.Refused number 0

-- the call, on texts
unfoldable pub tree_verdict : Str → Str → ℕ → Str → Str → TreeAnswer
tree_verdict table user mode origin text =
    tree_answer (check table) (request_refusal user mode origin text) (tree (table_of table) (request user mode origin text))
