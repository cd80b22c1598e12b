-- The lines on a user's groups, one after another.
use Prim.Native.Nat.{ℕ, ◌+◌}
use native.Mathlib.Omega.{arith}
use native.Mathlib.Numerals.{add-one}
use mathlib.Core.Path.{◌≡◌, refl, sym, ap, ◌∙◌}
use mathlib.Core.Bool.{true, false}
use mathlib.Core.List.{List, [], ◌∷◌, ◌++◌, append-nil, append_assoc}
use Rattle.text.specs.Test.{whether◌then◌else◌}
use Rattle.text.specs.String.{Str}
use Rattle.table.specs.Group.{numbered}
use Rattle.table_membership.specs.Set.{has_of, numbers_in}
use Rattle.table_membership.proofs.Numbers.{numbers_more}
use Rattle.cli_answers.specs.Rows.{group_line, group_lines}

lines_append : (text : Str) (ns ms : List ℕ) → group_lines text (ns ++ ms) ≡ group_lines text ns ++ group_lines text ms
unfolding group_lines
lines_append text [] ms = refl
lines_append text (n ∷ ns) ms =
    rw (lines_append text ns ms) (sym (append_assoc (group_line text (record { 0 = n })) (group_lines text ns) (group_lines text ms)))

pub no_lines : (text : Str) (set : ℕ) → group_lines text (numbers_in set 0 0) ≡ []
unfolding group_lines numbers_in
no_lines text set = refl

-- the lines of the groups below n, and then that of group n, if the set has it
module _ (text : Str) (set n : ℕ) where
  one_more : group_lines text (numbers_in set (n + 1) 0) ≡ group_lines text (numbers_in set n 0) ++ group_lines text (numbered (has_of set n) n [])
  one_more =
      let z : 0 + n ≡ n = omega arith in
      let m : numbers_in set (n + 1) 0 ≡ numbers_in set n 0 ++ numbered (has_of set n) n [] = rw (add-one n) (rw z at (numbers_more set n 0)) in
      ap (group_lines text) m ∙ lines_append text (numbers_in set n 0) (numbered (has_of set n) n [])

  pub listed_line : has_of set n ≡ true → group_lines text (numbers_in set (n + 1) 0) ≡ group_lines text (numbers_in set n 0) ++ group_line text (record { 0 = n })
  unfolding group_lines numbered whether◌then◌else◌
  listed_line t = one_more ∙ rw (t, append-nil (group_line text (record { 0 = n })))

  pub unlisted_line : has_of set n ≡ false → group_lines text (numbers_in set (n + 1) 0) ≡ group_lines text (numbers_in set n 0)
  unfolding group_lines numbered whether◌then◌else◌
  unlisted_line t = one_more ∙ rw (t, append-nil (group_lines text (numbers_in set n 0)))
