-- Texts of rule tables with their answers, by computation.
use mathlib.Core.Path.{◌≡◌, refl}
use mathlib.Core.List.{List, [], ◌∷◌, ◌++◌}
use Prim.Native.Nat.{ℕ, ◌+◌, ◌*◌}
use Prim.Native.String.{String}
use Rattle.text.specs.Test.{◌and◌, ◌or◌, whether◌then◌else◌, all, any, twice}
use Rattle.text.specs.String.{Str, bytes, same}
use Rattle.text.specs.Frame.{◌>>=◌, ret, byte, run, string, times}
use Rattle.path.specs.Bytes.{key, element, path}
use Rattle.path.specs.Refusal.{unsized, key_over, elem_over, over_limit, outside_name, outside_value, key_stray, elem_stray, stray_byte, half_wild, key_misplaced, elem_misplaced, misplaced, key_twice}
use Rattle.table_line.specs.Lines.{onto, lines, pair, pairs, nonempty, frame}
use Rattle.table.specs.Frame.{unknown, code, version_body, group_body, member_body, rule_body, rule_entry, body, entry, whole, entry_of}
use Rattle.table.specs.Refusal.{framed, decoded, line_of, kind_of, out_of_order, unsized_short, past_limit, stray, strays, misplaces, same_member, same_id, repeats, listed, unlisted, refusal, first, with, after}
use Rattle.table.specs.Text.{unless, judge, check, all_told, table, table_of}
use Rattle.table.specs.Group.{lists, numbered, memberships, groups_of, counted, bad_user, count_for, group_count}
use Rattle.table.specs.Checked.{Checked}
use Rattle.table.specs.Checked.{Accepted, Refused}
use Rattle.table.specs.Counted.{Counted, Count, NoGroup, Declined}

-- answers as numbers, to compare them in lists
unfoldable check_word : Checked → ℕ
check_word Accepted = 0
check_word (Refused n l) = n + 256 * l

unfoldable count_word : Counted → ℕ
count_word (Count n g) = 256 * n + 65536 * (g.0 + 1)
count_word NoGroup = 0
count_word (Declined n l) = n + 256 * l

-- a text of whole lines
abbrev rows : List String → Str
rows [] = []
rows (l ∷ ls) = bytes l ++ 10 ∷ rows ls

abbrev t0 : String
t0 = "010276310000000000000001"

-- the answer word of a check: number + 256 * line
abbrev word : List String → ℕ
word ls = check_word (check (rows ls))

-- the table of E to K, and a table with its 01 line only
good : List ℕ
good = word (t0 ∷ "020167" ∷ "0301670175" ∷ "04010101016701720001016101016b012a" ∷ []) ∷ word (t0 ∷ []) ∷ []

-- empty text, an empty line, a line that lacks its LF, an odd count of digits, a capital digit
hex : List ℕ
hex = word [] ∷ word ("" ∷ []) ∷ check_word (check (rows (t0 ∷ []) ++ bytes "020167")) ∷ word ("010" ∷ []) ∷ word (t0 ∷ "02014A" ∷ []) ∷ []

-- an unknown kind, an unknown code byte, a frame too short, too long, an unreadable first line
frames : List ℕ
frames = word (t0 ∷ "05" ∷ []) ∷ word (t0 ∷ "04020100017501720000" ∷ []) ∷ word (t0 ∷ "0202" ∷ []) ∷ word (t0 ∷ "02016700" ∷ []) ∷ word ("02" ∷ []) ∷ []

-- a first line that is not 01, a second 01, a kind that falls
order : List ℕ
order = word ("020167" ∷ []) ∷ word (t0 ∷ t0 ∷ []) ∷ word (t0 ∷ "020167" ∷ "0301670175" ∷ "020168" ∷ []) ∷ []

-- an empty name, a byte outside its set, `*` in an element name, half a wildcard, `...`, and `..`, which is fine
strings : List ℕ
strings =
    word (t0 ∷ "0200" ∷ []) ∷ word (t0 ∷ "02017f" ∷ []) ∷ word (t0 ∷ "04010100017501720001012a00" ∷ [])
    ∷ word (t0 ∷ "0401010001750172000101610101780261" ∷ []) ∷ word (t0 ∷ "04010100017501720001016101017802612a" ∷ [])
    ∷ word (t0 ∷ "04010100017501720001032e2e2e00" ∷ []) ∷ word (t0 ∷ "04010100017501720001022e2e00" ∷ []) ∷ []

-- a group, a member, an id, a key twice; a group that is not listed; an id twice in a rule whose origin has a bad byte
against : List ℕ
against =
    word (t0 ∷ "020167" ∷ "020167" ∷ []) ∷ word (t0 ∷ "020167" ∷ "0301670175" ∷ "0301670175" ∷ [])
    ∷ word (t0 ∷ "04010100017501720000" ∷ "04010100017501720000" ∷ []) ∷ word (t0 ∷ "040101000175017200010161020178012a01780131" ∷ [])
    ∷ word (t0 ∷ "0301670175" ∷ []) ∷ word (t0 ∷ "04010101016701720000" ∷ []) ∷ word (t0 ∷ "04010100017501720000" ∷ "0401010001750172010a00" ∷ []) ∷ []

checked :
    (good ≡ 0 ∷ 0 ∷ [])
    × (hex ≡ 260 ∷ 258 ∷ 514 ∷ 258 ∷ 514 ∷ [])
    × (frames ≡ 515 ∷ 515 ∷ 515 ∷ 515 ∷ 259 ∷ [])
    × (order ≡ 260 ∷ 516 ∷ 1028 ∷ [])
    × (strings ≡ 517 ∷ 518 ∷ 519 ∷ 515 ∷ 519 ∷ 519 ∷ 0 ∷ [])
    × (against ≡ 776 ∷ 1032 ∷ 776 ∷ 520 ∷ 521 ∷ 521 ∷ 774 ∷ [])
unfolding good hex frames order strings against ◌and◌ ◌or◌ whether◌then◌else◌ all any twice same ◌>>=◌ ret byte run string
    times key element path unsized key_over elem_over over_limit outside_name outside_value key_stray elem_stray stray_byte
    half_wild key_misplaced elem_misplaced misplaced key_twice onto lines pair pairs nonempty frame unknown code version_body
    group_body member_body rule_body rule_entry body entry whole entry_of framed decoded line_of kind_of out_of_order
    unsized_short past_limit stray strays misplaces same_member same_id repeats listed unlisted refusal first with after unless judge check check_word
checked = (refl, refl, refl, refl, refl, refl)

-- ---- groups of a user

abbrev five : List String
five = t0 ∷ "020167" ∷ "020168" ∷ "020169" ∷ "0301680175" ∷ "0301690175" ∷ "0301670176" ∷ []

-- u is in groups 1 and 2, v in group 0, w in none; a user that no table allows; the table's refusal comes first
count : Str → List String → ℕ
count user ls = count_word (group_count (rows ls) user)

counts : List ℕ
counts = count (bytes "u") five ∷ count (bytes "v") five ∷ count (bytes "w") five ∷ count [] five ∷ count [] ("" ∷ []) ∷ []

counted_right : counts ≡ 131584 ∷ 65792 ∷ 0 ∷ 20 ∷ 258 ∷ []
unfolding count counts ◌and◌ ◌or◌ whether◌then◌else◌ all any twice same ◌>>=◌ ret byte run string times key element path
    unsized key_over elem_over over_limit outside_name outside_value key_stray elem_stray stray_byte half_wild key_misplaced
    elem_misplaced misplaced key_twice onto lines pair pairs nonempty frame unknown code version_body group_body member_body
    rule_body rule_entry body entry whole entry_of framed decoded line_of kind_of out_of_order unsized_short past_limit stray
    strays misplaces same_member same_id repeats listed unlisted refusal first with after unless judge check check_word
    all_told table table_of lists numbered memberships
    groups_of counted bad_user count_for group_count count_word
counted_right = refl
