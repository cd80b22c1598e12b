-- `add` equals its definition.
use Rattle.text_set.proofs.Sets.{added_here, added_among}
use Rattle.text_set.proofs.add.Goals as goal

pub returns-then-keys-p-eq0 : goal.returns-then-keys-p-eq0
returns-then-keys-p-eq0 c = added_here _ _ _ _ _ c.if-keys-p-eq0.true

pub returns-else-keys-p-eq0 : goal.returns-else-keys-p-eq0
returns-else-keys-p-eq0 c =
    added_among _ _ _ _ _ c.if-keys-p-eq0.false _ c.insert.ensures
