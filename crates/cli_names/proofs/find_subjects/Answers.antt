use native.Mathlib.Omega.{arith}
use mathlib.Core.Path.{refl}
use Rattle.cli_names.proofs.Gathering.{finding_start, finding_turn, finding_done, subject_laid, subject_room}
use Rattle.cli_names.proofs.find_subjects.Goals as goal

pub loop-i-init : goal.loop-i-init
loop-i-init c = finding_start _ _ _ _

pub overflow_cast-s : goal.overflow_cast-s
overflow_cast-s c = omega (arith, c.type_inv.starts c.loop-i.i)

pub overflow_add-by_user : goal.overflow_add-by_user
overflow_add-by_user c =
    omega (arith, subject_room _ _ _ c.requires.rules c.loop-i.i c.loop-i-test.true)

pub bounds-f-s : goal.bounds-f-s
bounds-f-s c =
    omega (arith, subject_room _ _ _ c.requires.rules c.loop-i.i c.loop-i-test.true)

pub overflow_add-s : goal.overflow_add-s
overflow_add-s c =
    omega (arith, subject_room _ _ _ c.requires.rules c.loop-i.i c.loop-i-test.true)

pub overflow_cast-s-in-loop-i : goal.overflow_cast-s-in-loop-i
overflow_cast-s-in-loop-i c =
    omega (arith, c.requires.short, subject_room _ _ _ c.requires.rules c.loop-i.i c.loop-i-test.true)

pub loop-i-preserved : goal.loop-i-preserved
loop-i-preserved c =
    finding_turn _ _ _ _ _ _ _ c.loop-i.invariant c.loop-i-test.true c.requires.room
    _ refl _ refl (subject_laid _ _ _ c.requires.rules _ c.loop-i-test.true) _ _ c.push_where-m.ensures

pub returns : goal.returns
returns c = (
  finding_done _ _ _ _ _ _ _ c.loop-i.invariant c.loop-i-test.false,
  omega (arith, c.loop-i.invariant.few, c.loop-i.invariant.within),
  c.loop-i.invariant.long,
)
