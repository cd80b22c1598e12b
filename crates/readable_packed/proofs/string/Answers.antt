-- `string` stores the string, which stands in brackets, with its length byte.
use Rattle.readable_parts.specs.Steps.{stops}
use Rattle.readable_packed.proofs.Packing.{string_past, string_unpacked, string_packs, value_fits}
use Rattle.readable_packed.proofs.string.Goals as goal

pub returns-then-s-at : goal.returns-then-s-at
returns-then-s-at c = stops (string_past _ _ c.if-s-at.true)

pub returns-then-s-at-ne91 : goal.returns-then-s-at-ne91
returns-then-s-at-ne91 c = stops (string_unpacked _ _ c.if-s-at-ne91.true)

pub read_value-requires : goal.read_value-requires
read_value-requires c =
    value_fits _ _ _ _ c.requires.0 c.if-s-at.false

pub returns : goal.returns
returns c =
    string_packs _ _ c.if-s-at-ne91.false c.read_value.ensures
