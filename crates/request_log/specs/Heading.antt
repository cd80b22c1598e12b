-- A request in two parts: its heading, which is all before its path, and the path. Programs read them apart, since many lines of a log have one heading.
use Rattle.std.specs.Prelude.{ℕ, ◌+◌, ◌∷◌, ◌++◌, length, Option, Some, None}
use Rattle.text.specs.String.{Str}
use Rattle.text.specs.Refusal.{clear}
use Rattle.text.specs.Frame.{Parsed, got, unread, Reader, ◌>>=◌, ret, byte, string, string_bytes}
use Rattle.verdict_request.specs.Calls.{refusal_or}
use Rattle.refusal.specs.Refusal.{code}
use Rattle.request_log.specs.declared.Heading.{Heading}

pub record Head : Type 0 where
  pub mode : ℕ
  pub user : Str
  pub origin : Str

-- "mode, S user, S origin"
unfoldable pub heading : Reader Head
heading = do
  mode ← byte
  user ← string
  origin ← string
  ret (record { mode = mode; user = user; origin = origin })

-- and its bytes
unfoldable pub head_bytes : Head → Str
head_bytes h = h.mode ∷ (string_bytes h.user ++ string_bytes h.origin)

-- 20 or 21
unfoldable pub head_refusal : Head → ℕ
head_refusal h = refusal_or clear h.user h.mode h.origin

-- the answer: its number, where the origin stands, and where the path
pub data Told : Type 0 where
  At : (number origin path : ℕ) → Told
  Unread : Told

unfoldable pub headed : Parsed Head → Told
headed (got h t) = At (head_refusal h) (2 + length h.user) t
headed unread = Unread

-- as the programs have it
abbrev pub told : Option Heading → Told
told (Some h) = At (code h.refusal) h.origin h.path
told None = Unread
