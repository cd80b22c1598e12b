-- What the programs on an explanation need and answer.
use Rattle.std.specs.Prelude.{ℕ, ◌+◌, ◌≤◌, ◌≡◌, List, length}
use Rattle.std.proofs.Math.Option.{some}
use Rattle.limits.specs.Limits.{max_string}
use Rattle.text.specs.String.{Str}
use Rattle.path.specs.Path.{Path}
use Rattle.path_read.specs.TextReader.{read_text}
use Rattle.table.specs.Text.{check, table_of}
use Rattle.table.specs.Checked.{Accepted}
use Rattle.verdict_judge.specs.Rules.{Placed}
use Rattle.verdict_request.specs.Calls.{asked}
use Rattle.verdict_explain.specs.Ranking.{RuleNumbers}
use Rattle.cli_explained.specs.Explained.{match_lines}

-- the longest line
abbrev pub max_ranked_line : ℕ
max_ranked_line = 161 + max_string

-- the first m of `order` are numbers of n rules, which can be read
pub record Rankable (f starts : List ℕ) (n : ℕ) (order : List ℕ) (m : ℕ) : Type 0 where
  pub placed : Placed f starts n
  pub listed : RuleNumbers order n m
  pub held : n ≤ length order

-- the lines of the rules that match were made, if the table is accepted and the path reads
abbrev pub ListsMatches : Str → Str → ℕ → Str → Str → Str → Type 0
ListsMatches text user mode origin s lines =
    check text ≡ Accepted → (p : Path) → read_text s ≡ some p → lines ≡ match_lines (table_of text) (asked user mode origin p)
