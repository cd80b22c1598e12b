-- The answers of the programs that read and store step by step.
use Rattle.std.specs.Prelude.{◌≡◌, ℕ, ◌+◌, List, length, Option, Some, None}
use Rattle.text.specs.Frame.{Parsed, got, unread}
use Rattle.text.specs.Fill.{put}

-- where a reading ends, as programs answer it
unfoldable pub end_of : {A : Type 0} → Parsed A → Option ℕ
end_of (got a t) = Some t
end_of unread = None

-- s was stored into d from `at` on, up to `end`, and nothing else
pub record Wrote (d : List ℕ) (at : ℕ) (s : List ℕ) (d' : List ℕ) (end : ℕ) : Type 0 where
  pub ends : end ≡ at + length s
  pub same : d' ≡ put d at s
