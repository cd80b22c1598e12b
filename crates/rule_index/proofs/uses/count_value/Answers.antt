-- `count_value` stores within the places.
use native.Mathlib.Omega.{arith}
use Rattle.text_hash.proofs.Mixing.{place_within}
use Rattle.rule_index.proofs.uses.count_value.Goals as goal

pub place_at-p-requires : goal.place_at-p-requires
place_at-p-requires c = (c.requires.0, c.requires.2)

pub offset_bounds-uses-p : goal.offset_bounds-uses-p
offset_bounds-uses-p c = omega (arith, place_within _ _ 512 _ c.place_at-p.ensures (omega arith))

pub bounds-uses-p : goal.bounds-uses-p
bounds-uses-p c =
    omega (arith, c.requires.1, place_within _ _ 512 _ c.place_at-p.ensures (omega arith))

pub offset_bounds-uses-p-then-uses-p-lt65535 : goal.offset_bounds-uses-p-then-uses-p-lt65535
offset_bounds-uses-p-then-uses-p-lt65535 c = omega (arith, place_within _ _ 512 _ c.place_at-p.ensures (omega arith))

pub bounds-uses-p-then-uses-p-lt65535 : goal.bounds-uses-p-then-uses-p-lt65535
bounds-uses-p-then-uses-p-lt65535 c =
    omega (arith, c.requires.1, place_within _ _ 512 _ c.place_at-p.ensures (omega arith))

pub bounds-uses-p-then-uses-p-lt65535-2 : goal.bounds-uses-p-then-uses-p-lt65535-2
bounds-uses-p-then-uses-p-lt65535-2 c =
    omega (arith, c.requires.1, place_within _ _ 512 _ c.place_at-p.ensures (omega arith))
