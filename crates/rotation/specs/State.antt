-- What a record and a store say. "The record has a kind (1 policy, 2 table), the live slot and its length or none, whether a rotation is on, and
-- the candidate's length or none."
use Rattle.std.specs.Prelude.{ℕ, ◌*◌, Bool, not, eqb, ltb, take, drop, Option, Some, None}
use Rattle.limits.specs.Limits.{slot_length, store_length}
use Rattle.text.specs.Test.{◌and◌, ◌or◌, whether◌then◌else◌}
use Rattle.text.specs.String.{Str}
use Rattle.text.specs.Refusal.{◌when◌else◌}
use Rattle.rotation.specs.declared.Kind.{Kind}
use Rattle.rotation.specs.declared.Kind.TheVariants.{Policy, Table}
use Rattle.rotation.specs.declared.Record.{Record}
use Rattle.rotation.specs.declared.SlotText.{SlotText}

-- the number that stands for no length
abbrev pub no_length : ℕ
no_length = 4294967295

-- there is a length; 0 is one
unfoldable pub given : ℕ → Bool
given len = not (eqb len no_length)

-- a length as the programs have it
unfoldable pub length_of : ℕ → Option ℕ
length_of len = whether given len then Some len else None

-- a kind as the programs have it, and its number
abbrev pub kind_number : Kind → ℕ
kind_number Policy = 1
kind_number Table = 2

unfoldable pub kind_of : ℕ → Option Kind
kind_of n = whether eqb n 1 then Some Policy else whether eqb n 2 then Some Table else None

-- no rotation is on
unfoldable pub off : Record → Bool
off r = eqb r.rotating 0

unfoldable pub on : Record → Bool
on r = not (off r)

-- ---- the refusals that every call shares

-- 11: "store shorter than 65,536 bytes"
unfoldable pub short_store : ℕ → Bool
short_store n = ltb n store_length

unfoldable pub bad_kind : Record → Bool
bad_kind r = not (eqb r.kind 1 or eqb r.kind 2)

-- the live slot counts only where something is live
unfoldable pub bad_slot : Record → Bool
bad_slot r = given r.live_len and ltb 1 r.live_slot

unfoldable pub bad_length : ℕ → Bool
bad_length len = given len and ltb slot_length len

-- 15: "record: kind not 1 or 2, slot over 1, length over 32,768, candidate while off"
unfoldable pub bad_record : Record → Bool
bad_record r = bad_kind r or bad_slot r or bad_length r.live_len or bad_length r.candidate_len or off r and given r.candidate_len

-- "Calls on the record: 11, then 15, then" the call's own number
unfoldable pub record_refusal : Record → ℕ → ℕ → ℕ
record_refusal r n own = 11 when short_store n else 15 when bad_record r else own

-- ---- the slots

-- "the store is two slots of 32,768 bytes"
abbrev pub slot_start : ℕ → ℕ
slot_start slot = slot * slot_length

-- "the slot that isn't live (slot 0 if none is live)"
unfoldable pub candidate_slot : Record → ℕ
candidate_slot r = whether given r.live_len and eqb r.live_slot 0 then 1 else 0

-- the text of that length at the start of a slot
unfoldable pub text_in : Str → ℕ → ℕ → Str
text_in store slot len = take len (drop (slot_start slot) store)

-- what a probe judges by: the text of that length in that slot, or no text
pub data InForce : Type 0 where
  Text : ℕ → ℕ → InForce
  Factory : InForce

-- as the programs have it
abbrev pub force_of : Option SlotText → InForce
force_of (Some t) = Text t.slot t.len
force_of None = Factory

-- "what is in force: the candidate, else the live text, else factory"
unfoldable pub in_force : Record → InForce
in_force r =
    whether given r.candidate_len then Text (candidate_slot r) r.candidate_len
    else whether given r.live_len then Text r.live_slot r.live_len
    else Factory

-- ---- the record where no rotation is on

-- that slot and length live, "no candidate, rotation off"
unfoldable pub at_rest : Record → ℕ → ℕ → Record
at_rest r slot len = record { kind = r.kind; live_slot = slot; live_len = len; rotating = 0; candidate_len = no_length }
