-- `add_id` adds the bytes of the id.
use native.Mathlib.Omega.{arith}
use Rattle.verdict_judge.proofs.Parts.{rule_room, id_room, id_in}
use mathlib.Core.Path.{◌≡◌}
use mathlib.Core.List.{List}
use Prim.Native.Nat.{ℕ, ◌+◌}
use Rattle.table.specs.Layout.{rule_subject}
use Rattle.table_place.specs.Place.{str_end}
use Rattle.table_rows.specs.Rules.{id_at}
use Rattle.cli_explained.proofs.add_id.Goals as goal

at_id : (f : List ℕ) (s i : ℕ) → i ≡ str_end f (s + rule_subject) → i ≡ id_at f s
unfolding id_at
at_id f s i e = e

pub overflow_add-s : goal.overflow_add-s
overflow_add-s g c = let e = rule_room _ _ c.requires.0 in omega arith

pub str_end-i-requires : goal.str_end-i-requires
str_end-i-requires g c = let e = rule_room _ _ c.requires.0 in omega arith

pub overflow_add-a : goal.overflow_add-a
overflow_add-a g c = let d = id_room _ _ _ c.requires.0 (at_id _ _ _ c.str_end-i.ensures) in omega arith

pub str_end-e-requires : goal.str_end-e-requires
str_end-e-requires g c = let e = rule_room _ _ c.requires.0 in rw (at_id _ _ _ c.str_end-i.ensures) (omega arith)

pub slice_bounds-push_up_to-count : goal.slice_bounds-push_up_to-count
slice_bounds-push_up_to-count g c = let d = id_room _ _ _ c.requires.0 (at_id _ _ _ c.str_end-i.ensures) in omega arith

pub slice_bounds-push_up_to-start : goal.slice_bounds-push_up_to-start
slice_bounds-push_up_to-start g c = let d = id_room _ _ _ c.requires.0 (at_id _ _ _ c.str_end-i.ensures) in omega arith

pub slice_bounds-push_up_to-end : goal.slice_bounds-push_up_to-end
slice_bounds-push_up_to-end g c = let d = id_room _ _ _ c.requires.0 (at_id _ _ _ c.str_end-i.ensures) in omega arith

pub returns-clause-added : goal.returns-clause-added
returns-clause-added g c = rw (← id_in _ _ _ _ (at_id _ _ _ c.str_end-i.ensures) c.str_end-e.ensures) c.push_up_to.ensures.added
