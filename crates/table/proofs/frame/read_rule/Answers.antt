-- `read_rule` equals its definition.
use borrow.Author.Tests.{not-true, not-false}
use Rattle.path_frame.specs.Walked.{walk_said}
use Rattle.table.proofs.Rules.{read_short, read_wrong, read_subjectless, read_idless, read_originless, read_pathless, read_off, read_rule}
use Rattle.table.proofs.frame.read_rule.Goals as goal

pub returns-then-f-lt-FRAME_SUBJECT : goal.returns-then-f-lt-FRAME_SUBJECT
returns-then-f-lt-FRAME_SUBJECT c = read_short _ c.requires c.if-f-lt-FRAME_SUBJECT.true

pub returns-then-not-known : goal.returns-then-not-known
returns-then-not-known c =
    read_wrong _ c.requires c.if-f-lt-FRAME_SUBJECT.false (not-true _ c.if-not-known.true-raw)

pub returns-in_err-subject : goal.returns-in_err-subject
returns-in_err-subject c =
    rw c.from_residual.ensures
    (read_subjectless _ c.requires c.if-f-lt-FRAME_SUBJECT.false (not-false _ c.if-not-known.false-raw) _ c.string_end.ensures c.in_err-subject.was)

pub returns-in_err-id : goal.returns-in_err-id
returns-in_err-id c =
    rw c.from_residual-in_err-id.ensures
    (read_idless _ c.requires c.if-f-lt-FRAME_SUBJECT.false (not-false _ c.if-not-known.false-raw) _
    c.string_end.ensures _ c.in_ok-subject.was _ c.string_end-2.ensures c.in_err-id.was)

pub returns-in_err-origin : goal.returns-in_err-origin
returns-in_err-origin c =
    rw c.from_residual-in_err-origin.ensures
    (read_originless _ c.requires c.if-f-lt-FRAME_SUBJECT.false (not-false _ c.if-not-known.false-raw) _
    c.string_end.ensures _ c.in_ok-subject.was _ c.string_end-2.ensures
    _ c.in_ok-id.was _ c.string_end-3.ensures c.in_err-origin.was)

pub returns-in_default : goal.returns-in_default
unfolding walk_said
returns-in_default c =
    read_pathless _ c.requires c.if-f-lt-FRAME_SUBJECT.false (not-false _ c.if-not-known.false-raw) _
    c.string_end.ensures _ c.in_ok-subject.was _ c.string_end-2.ensures
    _ c.in_ok-id.was _ c.string_end-3.ensures _ c.in_ok-origin.was c.in_default.ensures

pub returns-then-path-f : goal.returns-then-path-f
unfolding walk_said
returns-then-path-f c =
    read_off _ c.requires c.if-f-lt-FRAME_SUBJECT.false (not-false _ c.if-not-known.false-raw) _
    c.string_end.ensures _ c.in_ok-subject.was _ c.string_end-2.ensures _ c.in_ok-id.was _
    c.string_end-3.ensures _ c.in_ok-origin.was _ _ c.in-Some.ensures c.if-path-f.true

pub returns : goal.returns
unfolding walk_said
returns c =
    read_rule _ c.requires c.if-f-lt-FRAME_SUBJECT.false (not-false _ c.if-not-known.false-raw) _
    c.string_end.ensures _ c.in_ok-subject.was _ c.string_end-2.ensures _ c.in_ok-id.was _
    c.string_end-3.ensures _ c.in_ok-origin.was _ _ c.in-Some.ensures c.if-path-f.false
