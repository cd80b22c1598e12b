-- `sentence` makes the parts one after another.
use mathlib.Core.List.{append_assoc}
use native.Mathlib.Omega.{arith}
use mathlib.Core.Path.{ap}
use mathlib.Core.Bool.{true}
use lib.ListN.{length, length-append}
use Rattle.table_rows.specs.Strings.{strings_in}
use Rattle.cli_names.specs.Names.{listed, sentence}
use Rattle.cli_names.proofs.Listing.{sentence_room}
use Rattle.cli_names.proofs.sentence.Goals as goal

pub push_str-requires : goal.push_str-requires
push_str-requires c = (omega arith, omega (arith, sentence_room _ _ _ _ c.requires.1, ap length c.of-text.ensures))

pub push_str-requires-2 : goal.push_str-requires-2
push_str-requires-2 c = (
  omega arith,
  omega (
    arith,
    sentence_room _ _ _ _ c.requires.1,
    ap length c.of-text.ensures,
    ap length c.push_str.ensures,
    length-append c.of-text.result c.args.user.now,
    ap length c.grouping.ensures,
  ),
)

pub add_names-requires : goal.add_names-requires
add_names-requires c = (
  c.requires.0,
  omega (
    arith,
    sentence_room _ _ _ _ c.requires.1,
    ap length c.of-text.ensures,
    ap length c.push_str.ensures,
    length-append c.of-text.result c.args.user.now,
    ap length c.push_str-2.ensures,
    length-append c.push_str.new.self c.grouping.result.now,
    ap length c.grouping.ensures,
  ),
)

pub push_str-requires-3 : goal.push_str-requires-3
push_str-requires-3 c = (
  omega arith,
  omega (
    arith,
    sentence_room _ _ _ _ c.requires.1,
    ap length c.of-text.ensures,
    ap length c.push_str.ensures,
    length-append c.of-text.result c.args.user.now,
    ap length c.push_str-2.ensures,
    length-append c.push_str.new.self c.grouping.result.now,
    ap length c.grouping.ensures,
    ap length c.add_names.ensures,
    length-append c.push_str-2.new.self (listed true (strings_in c.args.f.now c.args.places.now c.args.n 0)),
  ),
)

pub returns : goal.returns
unfolding sentence
returns c =
    simp (append_assoc, c.of-text.ensures, c.push_str.ensures, c.push_str-2.ensures, c.grouping.ensures, c.add_names.ensures, c.push_str-3.ensures)
