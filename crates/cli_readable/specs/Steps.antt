-- What the programs answer that go through a log run by run.
use Rattle.std.specs.Prelude.{ℕ, ◌≤◌, ◌<◌, ◌≡◌, false, length}
use Rattle.text.specs.String.{Str}
use Rattle.readable_log.specs.declared.Run.{Run}

-- a run over lines of the text, `most` at most, stays within it, and comes further unless it stops
pub record Advances (text : Str) (most : ℕ) (r : Run) : Type 0 where
  pub few : r.count ≤ most
  pub inside : r.next ≤ length text
  pub goes : r.stopped ≡ false → 0 < length text → 0 < most → 0 < r.next
