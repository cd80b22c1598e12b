-- Demand 1: any bytes at all may be given to any public call, and a refused one leaves whatever it was lent as it stood: a refused upload the record
-- and both slots, byte for byte.
-- That every call ends, reads and stores nothing but what it is lent and does nothing undefined is what the prover shows of each function; the exported
-- ones ask nothing of their caller (no `requires`), so they are shown for any bytes. What is stated here is about the definitions that their contracts cite.
use Rattle.std.specs.Prelude.{◌%◌, ◌^◌, ◌≡◌}
use Rattle.burgee.specs.Calls.{PublicCall, word, before, after}

-- a word with a number in bits 0 to 7 is a refusal
abbrev pub Refuses : PublicCall → Type 0
Refuses c = word c % 2 ^ 8 ≡ 0 → ⊥

-- the demand
abbrev pub AnyBytes : Type 0
AnyBytes = (c : PublicCall) → Refuses c → after c ≡ before c
