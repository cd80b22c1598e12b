-- Frames: what each kind of frame holds, and how it reads.
use Rattle.std.specs.Prelude.{ℕ, eqb, length}
use Rattle.std.proofs.Math.Option.{Option, none, some}
use Rattle.text.specs.Test.{◌or◌, whether◌then◌else◌}
use Rattle.text.specs.String.{Str}
use Rattle.text.specs.Frame.{Parsed, got, unread, Reader, ◌>>=◌, ret, byte, run, string}
use Rattle.path.specs.Bytes.{path}
use Rattle.table.specs.Table.{Member, Rule}

-- a frame that was read; of a version its string and its time
pub data Entry : Type 0 where
  version : Str → Str → Entry
  group : Str → Entry
  member : Member → Entry
  rule : Rule → Entry

-- nothing reads: an unknown kind or code byte
unfoldable pub unknown : {A : Type 0} → Reader A
unknown f at = unread

-- one of two code bytes
unfoldable pub code : ℕ → ℕ → Reader ℕ
code a b = do
  n ← byte
  whether eqb n a or eqb n b then ret n else unknown

-- "S version, 8 bytes creation time, high byte first"
unfoldable pub version_body : Reader Entry
version_body = do
  v ← string
  t ← run 8
  ret (version v t)

-- "S name"
unfoldable pub group_body : Reader Entry
group_body = do
  n ← string
  ret (group n)

-- "S group, S user"
unfoldable pub member_body : Reader Entry
member_body = do
  g ← string
  u ← string
  ret (member (record { group = g; user = u }))

-- "action (0 deny, 1 permit), mode (1 read, 2 write), subject (0 user, 1 group), S subject name, S id, S origin, path"
unfoldable pub rule_body : Reader Rule
rule_body = do
  action ← code 0 1
  mode ← code 1 2
  kind ← code 0 1
  subject ← string
  id ← string
  origin ← string
  p ← path
  ret (record { permit = eqb action 1; mode = mode; by_group = eqb kind 1; subject = subject; id = id; origin = origin; path = p })

unfoldable pub rule_entry : Reader Entry
rule_entry = do
  r ← rule_body
  ret (rule r)

-- "after the kind byte", by the kind
unfoldable pub body : ℕ → Reader Entry
body k =
    whether eqb k 1 then version_body
    else whether eqb k 2 then group_body
    else whether eqb k 3 then member_body
    else whether eqb k 4 then rule_entry
    else unknown

-- a frame, from its kind byte on
unfoldable pub entry : Reader Entry
entry = do
  k ← byte
  body k

-- what was read, where it is the whole frame
unfoldable pub whole : {A : Type 0} → Str → Parsed A → Option A
whole f (got a t) = whether eqb t (length f) then some a else none
whole f unread = none

-- what a frame holds; none where it gets 3: "unknown kind or code byte, frame too short or long"
unfoldable pub entry_of : Str → Option Entry
entry_of f = whole f (entry f 0)
