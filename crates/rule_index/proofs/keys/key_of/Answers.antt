-- `key_of` makes the key of a rule by one of its clues.
use native.Mathlib.Omega.{arith}
use mathlib.Core.Path.{◌≡◌, sym}
use Prim.Native.Nat.{◌<◌}
use Rattle.verdict.specs.Rank.{top_rank, rank}
use Rattle.text_hash.proofs.Mixing.{place_within}
use Rattle.table_rows.specs.Rules.{rule_in}
use Rattle.verdict_judge.specs.Place.{rule}
use Rattle.verdict_judge.proofs.Parts.{rule_room}
use Rattle.rule_index.proofs.Keying.{subject_small, key_made}
use Rattle.rule_index.proofs.keys.key_of.Goals as goal

pub read-path-requires : goal.read-path-requires
read-path-requires c =
    let own = c.args.own in rw c.path_at-at.ensures (rule_room own.bytes.now own.at own.inside).4

pub rank_of-w-requires-clause-path : goal.rank_of-w-requires-clause-path
unfolding rule_in
rank_of-w-requires-clause-path c = rw c.path_at-at.ensures at c.read-path.ensures.path

pub clue_at-requires : goal.clue_at-requires
clue_at-requires c =
    let own = c.args.own in
    (rw c.path_at-at.ensures (rule_room own.bytes.now own.at own.inside).4, c.requires.2, c.requires.1)

pub place_at-c-requires : goal.place_at-c-requires
place_at-c-requires c = (c.clue_at.ensures.0, c.requires.1)

pub overflow_add-b : goal.overflow_add-b
overflow_add-b c =
    let own = c.args.own in
    omega (arith, subject_small own.bytes.now own.at c.args.seed _ c.subject_place.ensures, place_within _ _ 512 _ c.place_at-c.ensures (omega arith))

pub overflow_sub-result-2 : goal.overflow_sub-result-2
overflow_sub-result-2 c = omega (arith, c.rank_of-w.ensures.below)

pub returns : goal.returns
returns c =
    let own = c.args.own in
    let low : rank (rule own) < top_rank = rw (sym c.rank_of-w.ensures.rank) c.rank_of-w.ensures.below in
    key_made own.bytes.now own.at c.args.seed _ _ _ _ _ _ c.path_at-at.ensures c.rank_of-w.ensures.rank low
    c.requires.0 (c.clue_at.ensures.1) c.place_at-c.ensures c.subject_place.ensures
