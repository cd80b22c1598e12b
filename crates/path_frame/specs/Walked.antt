-- The answers of the programs that walk over path bytes, said of what is read there.
use Rattle.std.specs.Prelude.{ℕ, Option, Some, None}
use Rattle.text.specs.Frame.{Parsed, got, unread}
use Rattle.refusal.specs.Refusal.{code}
use Rattle.path.specs.Path.{Key}
use Rattle.path_frame.specs.declared.Key.{Key as Read}
use Rattle.path_frame.specs.declared.Walked.{Walked}

-- the number of what was read, and where reading goes on
unfoldable pub walked : {A : Type 0} → (A → ℕ) → Parsed A → Parsed ℕ
walked g (got a t) = got (g a) t
walked g unread = unread

-- the same, as programs answer it
unfoldable pub walk_said : Option Walked → Parsed ℕ
walk_said (Some w) = got (code w.refusal) w.next
walk_said None = unread

-- a key, as programs answer it
unfoldable pub key_said : Option Read → Parsed Key
key_said (Some k) = got (record { name = k.name.now; value = k.value.now }) k.next
key_said None = unread
