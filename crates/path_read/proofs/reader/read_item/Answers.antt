-- `read_item` equals its definition.
use mathlib.Core.Path.{sym}
use Rattle.path_read.proofs.Reading.{item_past, item_end, item_plain, item_mark, item_bad}
use Rattle.path_read.proofs.reader.read_item.Goals as goal

pub returns-then-text-at : goal.returns-then-text-at
returns-then-text-at c = sym (item_past _ _ c.if-text-at.true)

pub returns-then-b-eq93 : goal.returns-then-b-eq93
returns-then-b-eq93 c =
    sym (item_end c.args.text.now c.args.at c.if-b-eq93.true)

pub returns-then-b-ne92 : goal.returns-then-b-ne92
returns-then-b-ne92 c =
    sym (item_plain _ _ c.if-text-at.false c.if-b-eq93.false c.if-b-ne92.true)

pub returns-then-c : goal.returns-then-c
returns-then-c c =
    rw c.byte_at-c.ensures (sym (item_mark c.args.text.now c.args.at
    c.if-text-at.false c.if-b-eq93.false c.if-b-ne92.false (rw (← c.byte_at-c.ensures) c.if-c.true)))

pub returns : goal.returns
returns c =
    sym (item_bad c.args.text.now c.args.at c.if-text-at.false
    c.if-b-eq93.false c.if-b-ne92.false (rw (← c.byte_at-c.ensures) c.if-c.false))
