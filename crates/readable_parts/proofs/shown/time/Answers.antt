-- `time` stores the digits of the 8 bytes with which the frame ends.
use Rattle.readable_parts.specs.Steps.{stops}
use Rattle.readable_parts.proofs.Showing.{time_unshown, time_fits, time_puts}
use Rattle.readable_parts.proofs.Rest.{tail}
use Rattle.readable_parts.proofs.shown.time.Goals as goal

pub returns-then-f-at-ne8 : goal.returns-then-f-at-ne8
returns-then-f-at-ne8 c = stops (time_unshown _ _ c.if-f-at-ne8.true)

pub write_hex-end-requires : goal.write_hex-end-requires
write_hex-end-requires c =
    rw (tail c.args.f.now c.args.at c.requires.1)
    (time_fits c.args.f.now c.args.at c.args.out.now c.args.to
    c.requires.0 c.if-f-at-ne8.false)

pub returns : goal.returns
returns c =
    time_puts _ _ _ _ _ _ c.if-f-at-ne8.false (rw (tail c.args.f.now c.args.at
    c.requires.1) at c.write_hex-end.ensures)
