-- Every limit of the rules, once, beside its sentence. `src/lib.rt` has the same numbers for programs (`max_keys` is `MAX_KEYS` there), and `all` of Sizes
-- ties the two.
use Rattle.std.specs.Prelude.{ℕ, ◌*◌}

-- ---- rule table text

-- "At most 32,768 bytes."
abbrev pub max_table_text : ℕ
max_table_text = 32768

-- "At most 64 groups, 512 members, 256 rules, 16 elements, 4 keys an element."
abbrev pub max_groups : ℕ
max_groups = 64

abbrev pub max_members : ℕ
max_members = 512

abbrev pub max_rules : ℕ
max_rules = 256

abbrev pub max_elements : ℕ
max_elements = 16

abbrev pub max_keys : ℕ
max_keys = 4

-- "Version, id and origin have at most 32 bytes; other strings 64"
abbrev pub max_short_string : ℕ
max_short_string = 32

abbrev pub max_string : ℕ
max_string = 64

-- ---- policy text

-- "Text is at most 16,384 bytes"
abbrev pub max_policy_text : ℕ
max_policy_text = 16384

-- "objects and lists may nest to depth 16, the outermost being depth 1"
abbrev pub max_depth : ℕ
max_depth = 16

-- "At most 64 rules a list, 32 entries in any other list, 256 bytes a string"
abbrev pub max_list_rules : ℕ
max_list_rules = 64

abbrev pub max_entries : ℕ
max_entries = 32

abbrev pub max_policy_string : ℕ
max_policy_string = 256

-- ---- RPC requests

-- 40: "identity or path over 256 bytes"
abbrev pub max_request_string : ℕ
max_request_string = 256

-- 41: "over 8,192 bytes together"
abbrev pub max_header_lines : ℕ
max_header_lines = 8192

-- ---- rotation

-- "the store is two slots of 32,768 bytes"
abbrev pub slot_length : ℕ
slot_length = 32768

abbrev pub store_length : ℕ
store_length = 2 * slot_length

-- ---- logs

-- 50: the log line "that is number 1,000,001"
abbrev pub max_log_lines : ℕ
max_log_lines = 1000000
