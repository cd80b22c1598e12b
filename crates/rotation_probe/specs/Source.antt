-- What the programs answer step by step: where the text in force lies in the store.
use Rattle.std.specs.Prelude.{ℕ, ◌+◌, Option, Some, None, Result, Ok, Err}
use Rattle.refusal.specs.Refusal.{number}
use Rattle.refusal.specs.declared.Refusal.{Refusal}
use Rattle.rotation.specs.State.{slot_start, InForce}
use Rattle.rotation.specs.State as force
use Rattle.rotation.specs.declared.Record.{Record}
use Rattle.rotation_probe.specs.Probe.{probed}
use Rattle.rotation_probe.specs.declared.force.Part.{Part}

-- the record's refusal; no text; or the part of the store that holds the text in force
pub data Source : Type 0 where
  Refused : ℕ → Source
  Factory : Source
  Lies : (start end : ℕ) → Source

-- as the programs have it
abbrev pub source_as : Result (Option Part) Refusal → Source
source_as (Err r) = Refused (number r)
source_as (Ok None) = Factory
source_as (Ok (Some p)) = Lies p.start p.end

-- the part of the store that holds it
unfoldable pub placed : InForce → Source
placed (force.Text slot len) = Lies (slot_start slot) (slot_start slot + len)
placed force.Factory = Factory

unfoldable pub source_of : ℕ → Record → ℕ → Source
source_of kind r n = probed Refused placed kind r n
