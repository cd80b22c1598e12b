-- Classes of bytes, and hex digits.
use Rattle.std.specs.Prelude.{ℕ, ◌-◌, Bool, cond, ◌&&◌, ◌||◌, ◌==◌, nat_le}

-- from lo to hi, both included
abbrev pub within : ℕ → ℕ → ℕ → Bool
within lo hi b = nat_le lo b && nat_le b hi

abbrev pub is_digit : ℕ → Bool
is_digit b = within 48 57 b

-- "digits 0-9a-f"
abbrev pub is_hex : ℕ → Bool
is_hex b = is_digit b || within 97 102 b

-- what a hex digit stands for; 16 for any other byte
abbrev pub hex_value : ℕ → ℕ
hex_value b = cond (is_digit b) (b - 48) (cond (within 97 102 b) (b - 87) 16)

-- "letters, digits and -_.:"
abbrev pub is_name : ℕ → Bool
is_name b = within 65 90 b || within 97 122 b || is_digit b || b == 45 || b == 95 || b == 46 || b == 58

-- "bytes 0x20 to 0x7E"
abbrev pub is_print : ℕ → Bool
is_print b = within 32 126 b

-- *
abbrev pub is_star : ℕ → Bool
is_star b = b == 42
