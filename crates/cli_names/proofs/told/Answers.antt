-- `told` tells what the definition says of the positions.
use native.Mathlib.Omega.{arith}
use mathlib.Core.Path.{◌∙◌}
use Rattle.cli_names.proofs.Users.{none_yet, told_member, told_subject, told_is, told_fits}
use Rattle.cli_names.proofs.told.Goals as goal

pub returns-then-find-members : goal.returns-then-find-members
returns-then-find-members c = c.new.ensures ∙ told_member _ _ _ _ _ _ _ _ c.find.ensures c.if-find-members.true

pub returns-then-find-s : goal.returns-then-find-s
returns-then-find-s c =
    c.new-then-find-s.ensures ∙ told_subject _ _ _ _ _ _ _ _ _ c.find_subjects-s.ensures.0 _ c.find-2.ensures c.if-find-s.true

pub gather-n-requires : goal.gather-n-requires
gather-n-requires c =
    record {
      names = record {
        laid = c.find_subjects-s.ensures.0.laid;
        room = omega (
          arith,
          c.find_subjects-s.ensures.1,
          c.find_subjects-s.ensures.2,
          c.requires.0.few.1,
        );
      };
      laid = c.gather-m.ensures.stand.laid;
      room = omega (
        arith,
        c.gather-m.ensures.count,
        c.gather-m.ensures.long,
        c.find_subjects-s.ensures.1,
        c.requires.0.few.0,
        c.requires.0.few.1,
      );
    }

pub sentence-requires : goal.sentence-requires
sentence-requires c = (
  record {
    laid = c.gather-n.ensures.stand.laid;
    room = omega (
      arith,
      c.gather-n.ensures.count,
      c.gather-n.ensures.long,
      c.gather-m.ensures.count,
      c.gather-m.ensures.long,
      c.find_subjects-s.ensures.1,
      c.requires.0.few.0,
      c.requires.0.few.1,
    );
  },
  omega (
    arith,
    told_fits c.args.f.now c.args.users.now c.args.members
        c.args.starts.now c.args.rules c.args.grouped c.args.user.now _ _
        c.find_subjects-s.ensures.0 _ _ c.find.ensures
        c.if-find-members.false c.find-2.ensures c.if-find-s.false
        _ _ _ (none_yet _ _) c.gather-m.ensures.stand _ _ c.gather-n.ensures.stand
        c.requires.1 c.requires.0.few.0 c.requires.0.few.1 c.find_subjects-s.ensures.1,
  ),
)

pub returns : goal.returns
returns c =
    rw (told_is c.args.f.now c.args.users.now c.args.members
    c.args.starts.now c.args.rules c.args.grouped c.args.user.now _ _
    c.find_subjects-s.ensures.0 _ _ c.find.ensures
    c.if-find-members.false c.find-2.ensures c.if-find-s.false
    _ _ _ (none_yet _ _) c.gather-m.ensures.stand _ _ c.gather-n.ensures.stand) at c.sentence.ensures
