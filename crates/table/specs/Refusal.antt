-- The refusal numbers 2 to 9 of a line, judged against the lines before it: a predicate for each, and the smallest that holds.
use Rattle.std.specs.Prelude.{ℕ, Bool, false, not, List, [], ◌∷◌, ◌++◌, eqb, ltb, leb, length}
use Rattle.std.proofs.Math.Option.{Option, none, some}
use Rattle.text.specs.Test.{◌and◌, ◌or◌, whether◌then◌else◌, all, any}
use Rattle.text.specs.Byte.{is_print}
use Rattle.text.specs.String.{Str, same}
use Rattle.text.specs.Refusal.{◌when◌else◌, clear}
use Rattle.limits.specs.Limits.{max_groups, max_members, max_rules, max_short_string}
use Rattle.path.specs.Refusal.{unsized, over_limit, stray_byte, misplaced, key_twice}
use Rattle.table_line.specs.Lines.{frame}
use Rattle.table.specs.Table.{Member, Rule}
use Rattle.table.specs.Frame.{Entry, version, group, member, rule, entry_of}

-- what a line is: not a hex line, a hex line whose frame does not read, or one that holds an entry
pub data Line : Type 0 where
  not_hex : Line
  unreadable : Line
  reads : Entry → Line

unfoldable pub framed : Option Entry → Line
framed none = unreadable
framed (some e) = reads e

unfoldable pub decoded : Option Str → Line
decoded none = not_hex
decoded (some f) = framed (entry_of f)

unfoldable pub line_of : Str → Line
line_of l = decoded (frame l)

-- what the lines before a line tell: the kind of the last of them (0 where there is none), the groups, the members and the rules
pub record Earlier : Type 0 where
  pub kind : ℕ
  pub groups : List Str
  pub members : List Member
  pub rules : List Rule

-- the kind byte
unfoldable pub kind_of : Entry → ℕ
kind_of (version v t) = 1
kind_of (group n) = 2
kind_of (member m) = 3
kind_of (rule r) = 4

-- ---- 4: "Exactly one 01 line, the first; kinds never fall from line to line."

-- of the kind before, 0 on the first line, and the kind
unfoldable pub out_of_order : ℕ → ℕ → Bool
out_of_order last kind = whether eqb last 0 then not (eqb kind 1) else (eqb kind 1 or ltb kind last)

-- ---- 5: "a limit passed, or an empty string that may not be"

-- "Version, id and origin have at most 32 bytes; .. only origin may be empty."
unfoldable pub unsized_short : Str → Bool
unsized_short s = eqb (length s) 0 or ltb max_short_string (length s)

-- "At most 64 groups, 512 members, 256 rules": so many stand before already
unfoldable pub past_limit : Earlier → Entry → Bool
past_limit b (version v t) = unsized_short v
past_limit b (group n) = unsized n or leb max_groups (length b.groups)
past_limit b (member m) = (unsized m.group or unsized m.user) or leb max_members (length b.members)
past_limit b (rule r) =
    ((unsized r.subject or unsized_short r.id) or (ltb max_short_string (length r.origin) or leb max_rules (length b.rules))) or over_limit r.path

-- ---- 6: "a byte outside its set"

-- "other strings use bytes 0x20 to 0x7E"
unfoldable pub stray : Str → Bool
stray s = not (all is_print s)

-- in any string or path of the frame
unfoldable pub strays : Entry → Bool
strays (version v t) = stray v
strays (group n) = stray n
strays (member m) = stray m.group or stray m.user
strays (rule r) = (stray r.subject or (stray r.id or stray r.origin)) or stray_byte r.path

-- ---- 7: "wildcard misplaced, or `...`"

unfoldable pub misplaces : Entry → Bool
misplaces (version v t) = false
misplaces (group n) = false
misplaces (member m) = false
misplaces (rule r) = misplaced r.path

-- ---- 8: "group name, member in a group, rule id, or key in an element twice"

unfoldable pub same_member : Member → Member → Bool
same_member m n = same m.group n.group and same m.user n.user

unfoldable pub same_id : Rule → Rule → Bool
same_id r s = same r.id s.id

unfoldable pub repeats : Earlier → Entry → Bool
repeats b (version v t) = false
repeats b (group n) = any (same n) b.groups
repeats b (member m) = any (same_member m) b.members
repeats b (rule r) = any (same_id r) b.rules or key_twice r.path

-- ---- 9: "group not listed"

unfoldable pub listed : List Str → Str → Bool
listed groups n = any (same n) groups

unfoldable pub unlisted : Earlier → Entry → Bool
unlisted b (version v t) = false
unlisted b (group n) = false
unlisted b (member m) = not (listed b.groups m.group)
unlisted b (rule r) = r.by_group and not (listed b.groups r.subject)

-- ---- the smallest that holds

-- "4 to 9 are judged only where the frame reads"
unfoldable pub refusal : Earlier → Line → ℕ
refusal b not_hex = 2
refusal b unreadable = 3
refusal b (reads e) =
    4 when out_of_order b.kind (kind_of e)
    else 5 when past_limit b e
    else 6 when strays e
    else 7 when misplaces e
    else 8 when repeats b e
    else 9 when unlisted b e
    else clear

-- ---- what the lines before a line tell

-- before the first line
unfoldable pub first : Earlier
first = record { kind = 0; groups = []; members = []; rules = [] }

-- with one entry more
unfoldable pub with : Earlier → Entry → Earlier
with b (version v t) = record { kind = 1; groups = b.groups; members = b.members; rules = b.rules }
with b (group n) = record { kind = 2; groups = b.groups ++ (n ∷ []); members = b.members; rules = b.rules }
with b (member m) = record { kind = 3; groups = b.groups; members = b.members ++ (m ∷ []); rules = b.rules }
with b (rule r) = record { kind = 4; groups = b.groups; members = b.members; rules = b.rules ++ (r ∷ []) }

-- after one line more
unfoldable pub after : Earlier → Line → Earlier
after b not_hex = b
after b unreadable = b
after b (reads e) = with b e
