-- What the programs answer that go through the lines of a text.
use Rattle.std.specs.Prelude.{ℕ, suc, ◌≤◌, ◌<◌, ◌≡◌, true, length, drop}
use Rattle.text.specs.String.{Str}
use Rattle.text_search.specs.Search.{until, is}
use Rattle.cli_refusal.specs.Entry.{up_to_line, entry}

-- the line after the one at `at` begins at `next`
pub record Next (text : Str) (at next : ℕ) : Type 0 where
  pub past : at < next
  pub within : next ≤ length text
  pub rest : drop next text ≡ drop (suc (until (is 10) (drop at text))) (drop at text)

-- what follows `key` in the first line that begins with it stands at `at`
pub record EntryAt (text key : Str) (at : ℕ) : Type 0 where
  pub within : at ≤ length text
  pub there : up_to_line (drop at text) ≡ entry true key text
