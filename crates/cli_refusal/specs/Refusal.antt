-- A refusal in words.
use Rattle.std.specs.Prelude.{ℕ, ◌+◌, ◌/◌, ◌%◌, [], ◌∷◌, ◌++◌, eqb, true}
use Prim.Native.String.{String}
use Rattle.text.specs.Test.{whether◌then◌else◌}
use Rattle.text.specs.String.{Str, bytes, joined}
use Rattle.text_make.specs.Decimal.{decimal}
use Rattle.cli_refusal.specs.Entry.{entry}

abbrev pub line : String → Str
line s = bytes s ++ bytes "\n"

-- what each number means
unfoldable pub meanings : Str
meanings =
    joined line (
    "01 the table text is over 32,768 bytes" ∷
    "02 not a hex line: an even, nonzero count of digits 0-9a-f, then LF" ∷
    "03 unknown kind or code byte, or the frame is too short or too long" ∷
    "04 order of kinds: one version line first, then groups, members, rules" ∷
    "05 a limit passed, or an empty string that may not be empty" ∷
    "06 a byte outside its set" ∷
    "07 a wildcard misplaced, or an element named ..." ∷
    "08 group name, member in a group, rule id, or key in an element twice" ∷
    "09 the group is not listed" ∷
    "11 the store is shorter than 65,536 bytes" ∷
    "12 a rotation is on already" ∷
    "13 no rotation is on" ∷
    "14 there is no candidate" ∷
    "15 not a record: its kind, its slot, a length, or a candidate while no rotation is on" ∷
    "16 the record is of the other kind" ∷
    "20 user or mode not as a table allows: a user's name has 1 to 64 bytes that print" ∷
    "21 origin not as a table allows: it has at most 32 bytes that print" ∷
    "22 not a path, as text (/ or /NAME[KEY=VALUE]..) or as bytes, within the limits of a rule's" ∷
    "23 the result does not fit the buffer" ∷
    "30 the policy is over 16,384 bytes" ∷
    "31 not one JSON value, in printable bytes, nested to depth 16 at most" ∷
    "32 a member name twice in one object" ∷
    "33 not the schema of a policy" ∷
    "34 a backslash in a string" ∷
    "35 a limit passed, or empty where that is not allowed" ∷
    "36 an asterisk elsewhere than at one end of a pattern" ∷
    "37 a barred or ill-spelt header key" ∷
    "38 a rule name twice in a list" ∷
    "40 identity or path over 256 bytes, or a byte of it does not print" ∷
    "41 header lines ill-formed, over 8,192 bytes together, or a byte of a value does not print" ∷
    "50 the log has more than 1,000,000 lines" ∷
    "51 not a line of a log: mode, user, origin and path of a good request, in hex digits, then LF" ∷
    []
    )

-- the two digits of a number, and a space
unfoldable pub key : ℕ → Str
key n = (48 + n / 10 % 10) ∷ (48 + n % 10) ∷ bytes " "

-- the words of the line that begins with the number
unfoldable pub meaning : ℕ → Str
meaning n = entry true (key n) meanings

-- where the refusal carries a line: there is no line 0
unfoldable pub place : ℕ → Str
place l = whether eqb l 0 then [] else bytes " at line " ++ decimal l

-- `refused 2 at line 3: not a hex line: ..`
unfoldable pub refusal : ℕ → ℕ → Str
refusal number l = bytes "refused " ++ decimal number ++ place l ++ bytes ": " ++ meaning number ++ bytes "\n"
