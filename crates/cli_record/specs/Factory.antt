-- The first record of a rotation.
use Rattle.std.specs.Prelude.{ℕ, ◌≡◌}
use Rattle.rotation.specs.State.{no_length, bad_kind, bad_record, in_force, Factory}
use Rattle.rotation.specs.declared.Record.{Record}

-- no live text, no rotation, no candidate
unfoldable pub factory_record : ℕ → Record
factory_record kind = record { kind = kind; live_slot = 0; live_len = no_length; rotating = 0; candidate_len = no_length }

-- of a kind that there is, it is a record, and factory is in force
pub record StartsFromFactory : Type 0 where
  pub is_record : (kind : ℕ) → bad_record (factory_record kind) ≡ bad_kind (factory_record kind)
  pub in_force_lem : (kind : ℕ) → in_force (factory_record kind) ≡ Factory
