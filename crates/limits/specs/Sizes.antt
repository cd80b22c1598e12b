-- Every size that follows from the limits, for programs and what is said of them.
use Rattle.std.specs.Prelude.{ℕ, ◌+◌, ◌*◌, ◌/◌, List, [], ◌∷◌}
use Rattle.limits.specs.Limits.{max_table_text, max_groups, max_members, max_rules, max_elements, max_keys, max_short_string, max_string}
use Rattle.limits.specs.Limits.{max_policy_text, max_depth, max_list_rules, max_entries, max_policy_string, max_request_string, max_header_lines}
use Rattle.limits.specs.Limits.{slot_length, store_length, max_log_lines}

-- ---- rule table text

-- the lines of a text decoded: two digits are a byte
abbrev pub max_table_bytes : ℕ
max_table_bytes = max_table_text / 2

-- ---- path bytes: "The longest path bytes are 9,377"

-- a string after its length byte
abbrev pub max_string_bytes : ℕ
max_string_bytes = 1 + max_string

-- a key: name and value
abbrev pub max_key_bytes : ℕ
max_key_bytes = 2 * max_string_bytes

-- the keys of an element after their count
abbrev pub max_keys_bytes : ℕ
max_keys_bytes = 1 + max_keys * max_key_bytes

abbrev pub max_elem_bytes : ℕ
max_elem_bytes = max_string_bytes + max_keys_bytes

-- the elements after their count
abbrev pub max_path_bytes : ℕ
max_path_bytes = 1 + max_elements * max_elem_bytes

-- ---- path text: "the longest path text 13,520"

-- a value whose every byte is escaped
abbrev pub max_value_text : ℕ
max_value_text = 2 * max_string

-- `[name=value]`
abbrev pub max_key_text : ℕ
max_key_text = 3 + (max_string + max_value_text)

-- `/name`, then its keys
abbrev pub max_elem_text : ℕ
max_elem_text = 1 + max_string + max_keys * max_key_text

abbrev pub max_path_text : ℕ
max_path_text = max_elements * max_elem_text

-- ---- the readable form of a table (the command line)

-- a string in brackets, its every byte escaped
abbrev pub max_quoted : ℕ
max_quoted = 2 + max_value_text

-- a line of any kind: a path, and less than 480 bytes before it
abbrev pub max_readable_line : ℕ
max_readable_line = max_path_text + 480

-- an accepted table: its lines are so much longer at most than those of the text
abbrev pub max_readable_text : ℕ
max_readable_text = max_table_text + (12 + 4 * max_groups + 6 * max_members + 29 * max_rules)

-- ---- logs

-- the frame of a good line: mode, user and origin, and the path after them
abbrev pub max_heading : ℕ
max_heading = 1 + max_string_bytes + (1 + max_short_string)

abbrev pub max_log_frame : ℕ
max_log_frame = max_heading + max_path_bytes

-- its digits, and LF
abbrev pub max_log_line : ℕ
max_log_line = 2 * max_log_frame + 1

-- a count for each rule, and six for the grid
abbrev pub report_lines : ℕ
report_lines = max_rules + 6

-- each of at most 1,000,000, with LF
abbrev pub max_report : ℕ
max_report = report_lines * 8

-- ---- the definitions' side of `constants`: the limits, then the sizes, in the same order

abbrev pub all : List ℕ
all =
    max_table_text ∷ max_groups ∷ max_members ∷ max_rules ∷ max_elements ∷ max_keys ∷ max_short_string ∷ max_string
    ∷ max_policy_text ∷ max_depth ∷ max_list_rules ∷ max_entries ∷ max_policy_string
    ∷ max_request_string ∷ max_header_lines
    ∷ slot_length ∷ store_length ∷ max_log_lines
    ∷ max_table_bytes
    ∷ max_string_bytes ∷ max_key_bytes ∷ max_keys_bytes ∷ max_elem_bytes ∷ max_path_bytes
    ∷ max_value_text ∷ max_key_text ∷ max_elem_text ∷ max_path_text
    ∷ max_quoted ∷ max_readable_line ∷ max_readable_text
    ∷ max_heading ∷ max_log_frame ∷ max_log_line ∷ report_lines ∷ max_report ∷ []
