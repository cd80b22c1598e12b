-- The first record is one, and factory is in force.
use mathlib.Core.Path.{◌≡◌, refl}
use mathlib.Core.Bool.{Bool, true, false}
use Rattle.text.specs.Test.{◌and◌, ◌or◌, whether◌then◌else◌}
use Rattle.rotation.specs.State.{given, off, bad_kind, bad_slot, bad_length, bad_record, in_force}
use Rattle.cli_record.specs.Factory.{factory_record, StartsFromFactory}

or_none_lem : (b : Bool) → (b or false or false or false or false) ≡ b
unfolding ◌or◌
or_none_lem true = refl
or_none_lem false = refl

pub starts_from_factory : StartsFromFactory
unfolding factory_record bad_record bad_slot bad_length off given in_force ◌and◌ whether◌then◌else◌
starts_from_factory = record { is_record = λ kind. or_none_lem (bad_kind (factory_record kind)); in_force_lem = λ kind. refl }
