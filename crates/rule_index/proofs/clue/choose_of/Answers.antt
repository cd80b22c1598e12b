use mathlib.Core.Path.{refl}
use mathlib.Core.Logic.{inl}
use Rattle.table_place.proofs.Cursor.{keys_room}
use Rattle.rule_index.proofs.Values.{chosen_next, values_rest}
use Rattle.rule_index.proofs.clue.choose_of.Goals as goal

pub loop-left-init : goal.loop-left-init
loop-left-init c = (c.requires.0, inl refl, λ s m. m)

pub str_end-v-requires : goal.str_end-v-requires
str_end-v-requires c = (keys_room _ _ _ c.loop-left-test.true (c.loop-left.invariant.0)).0

pub choose-best-requires : goal.choose-best-requires
choose-best-requires c =
    (rw (c.str_end-v.ensures) (keys_room _ _ _ c.loop-left-test.true (c.loop-left.invariant.0)).1, c.requires.1, c.requires.2)

pub str_end-q-requires : goal.str_end-q-requires
str_end-q-requires c =
    rw (c.str_end-v.ensures) (keys_room _ _ _ c.loop-left-test.true (c.loop-left.invariant.0)).1

pub loop-left-preserved : goal.loop-left-preserved
loop-left-preserved c = (
  rw (c.str_end-q.ensures, c.str_end-v.ensures)
      (keys_room _ _ _ c.loop-left-test.true (c.loop-left.invariant.0)).2,
  chosen_next _ _ _ c.loop-left-test.true (c.loop-left.invariant.0) _ (c.loop-left.invariant.2) _
      c.str_end-v.ensures _ _ _ (c.loop-left.invariant.1) c.choose-best.ensures,
  λ s m. c.loop-left.invariant.2 s (values_rest _ _ _ c.loop-left-test.true _
      (rw (c.str_end-q.ensures, c.str_end-v.ensures)) s m),
)

pub returns : goal.returns
returns c = c.loop-left.invariant.1
