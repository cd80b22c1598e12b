-- `transcribe` stores the bytes of the good path whose text it is given.
use Rattle.path_read.proofs.Answers.{empty_transcribed, none_transcribed, part_transcribed, whole_transcribed}
use Rattle.path_read.proofs.reader.transcribe.Goals as goal

pub returns-then-text-eq0 : goal.returns-then-text-eq0
returns-then-text-eq0 c = empty_transcribed _ c.requires.1 _ _ c.if-text-eq0.true

pub returns-in_err-next : goal.returns-in_err-next
returns-in_err-next c =
    rw c.from_residual.ensures (none_transcribed _ c.requires.1 _ _ c.if-text-eq0.false _
    c.read_elements.ensures c.in_err-next.was)

pub returns-else-next-text : goal.returns-else-next-text
returns-else-next-text c =
    part_transcribed _ c.requires.1 _ _ c.if-text-eq0.false _
    c.read_elements.ensures _ c.in_ok-next.was c.if-next-text.false

pub returns-then-next-text : goal.returns-then-next-text
returns-then-next-text c =
    whole_transcribed _ c.requires.1 _ _ c.if-text-eq0.false _
    c.read_elements.ensures _ c.in_ok-next.was c.if-next-text.true c.requires.0
