-- Where the parts of a frame stand, for programs and for what is said of them: `rule_body` of Frame is the format. The programs' names of the same are in
-- src/lib.rt (`RULE_MODE` for `rule_mode`).
use Rattle.std.specs.Prelude.{ℕ, ◌+◌}

-- the kind bytes
abbrev pub kind_version : ℕ
kind_version = 1

abbrev pub kind_group : ℕ
kind_group = 2

abbrev pub kind_member : ℕ
kind_member = 3

abbrev pub kind_rule : ℕ
kind_rule = 4

-- where a frame goes on after its kind byte
abbrev pub after_kind : ℕ
after_kind = 1

-- the first byte of the string there: that of a version, of a group's name, of a member's group
abbrev pub first_name : ℕ
first_name = after_kind + 1

-- the parts of a rule, from there on: its action, its mode, whether its subject is a group, and the length byte of its subject's name
abbrev pub rule_action : ℕ
rule_action = 0

abbrev pub rule_mode : ℕ
rule_mode = 1

abbrev pub rule_subject_kind : ℕ
rule_subject_kind = 2

abbrev pub rule_subject : ℕ
rule_subject = 3

-- the same in the frame of a rule, and the first byte of its subject's name
abbrev pub frame_subject_kind : ℕ
frame_subject_kind = after_kind + rule_subject_kind

abbrev pub frame_subject : ℕ
frame_subject = after_kind + rule_subject

abbrev pub frame_subject_name : ℕ
frame_subject_name = frame_subject + 1
