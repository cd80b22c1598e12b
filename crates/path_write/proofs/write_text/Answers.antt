-- `write_text` answers and leaves what the definitions say: the text is stored where it is asked for if there is surely room, and is made apart otherwise.
use borrow.Author.Tests.{not-true, not-false}
use native.Mathlib.Omega.{arith}
use mathlib.Core.Path.{sym, ◌∙◌}
use Rattle.path_read.proofs.Answers.{refused, stored_there}
use Rattle.path_write.proofs.Texts.{text_bad, text_good, text_fits, text_room}
use Rattle.path_write.proofs.write_text.Goals as goal

pub returns-then-not-is_path : goal.returns-then-not-is_path
returns-then-not-is_path c =
    refused c.args.out.now _ (text_bad c.args.f.now _ c.is_path.ensures (not-true _ c.if-not-is_path.true-raw))

pub write_path-n-requires : goal.write_path-n-requires
write_path-n-requires c =
    record {
      reads = (text_fits c.args.f.now _ c.is_path.ensures (not-false _ c.if-not-is_path.false-raw)).0;
      room = omega (
        arith,
        text_room c.args.f.now _ c.is_path.ensures c.args.out.now
            (not-false _ c.if-not-is_path.false-raw) c.if-f-out.true,
      );
    }

pub returns-then-f-out : goal.returns-then-f-out
returns-then-f-out c =
    stored_there c.args.out.now _ _ (text_good c.args.f.now _
    c.is_path.ensures (not-false _ c.if-not-is_path.false-raw))
    (text_room c.args.f.now _ c.is_path.ensures c.args.out.now
    (not-false _ c.if-not-is_path.false-raw) c.if-f-out.true) _ _ c.write_path-n.ensures

pub write_apart-requires : goal.write_apart-requires
write_apart-requires c =
    sym (not-false _ c.if-not-is_path.false-raw) ∙ c.is_path.ensures
