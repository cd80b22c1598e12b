-- For programs: the ranking of rules (`better`, specs/Order) up to their ids, as one number.
use Rattle.std.specs.Prelude.{ℕ, ◌+◌, ◌*◌, Bool, length}
use Rattle.table.specs.Table.{Rule}
use Rattle.verdict.specs.Order.{definites, one_unless}

-- more than a rule has definite keys: it has fewer bytes, since positions in the bytes of a table fit 16 bits
abbrev pub key_radix : ℕ
key_radix = 65536

-- more than the rank of a rule of fewer than 65,536 elements
abbrev pub top_rank : ℕ
top_rank = 65536 * key_radix * 4

-- grows with each part, the first weighing most
unfoldable pub rank_by : ℕ → ℕ → Bool → Bool → ℕ
rank_by elements keys group permit = ((elements * key_radix + keys) * 2 + one_unless group) * 2 + one_unless permit

unfoldable pub rank : Rule → ℕ
rank r = rank_by (length r.path) (definites r.path) r.by_group r.permit
