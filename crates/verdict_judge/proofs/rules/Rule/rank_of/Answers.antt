use mathlib.Core.Path.{◌≡◌, sym, ap, ◌∙◌}
use Prim.Native.Nat.{◌<◌}
use lib.ListN.{length}
use native.Mathlib.Omega.{arith}
use Rattle.path.specs.Path.{Path}
use Rattle.verdict.specs.Rank.{rank, rank_by}
use Rattle.table_place.proofs.Cursor.{length_elems}
use Rattle.verdict_judge.specs.Place.{rule}
use Rattle.verdict.proofs.Order.{unless_small}
use Rattle.verdict_judge.proofs.Parts.{keys_below}
use Rattle.verdict_judge.proofs.rules.Rule.rank_of.Goals as goal

pub rank-requires : goal.rank-requires
rank-requires c =
    let own = c.args.self in
    (omega (arith, c.requires.few), rw (c.count_keys.ensures, c.requires.path) (keys_below own.bytes.now own.at own.inside own.short))

pub returns-clause-rank : goal.returns-clause-rank
unfolding rank
returns-clause-rank c =
    let p = c.args.path in
    let n : p.count ≡ length (rule c.args.self).path =
    sym (length_elems p.bytes.now p.count p.at) ∙ ap length c.requires.path in
    rw (sym n, sym c.requires.path, sym c.count_keys.ensures, sym c.is_by_group.ensures, sym c.is_permit.ensures) c.rank.ensures

pub returns-clause-below : goal.returns-clause-below
unfolding rank_by
returns-clause-below c =
    let own = c.args.self in
    let k : c.count_keys.result < 65536 =
    rw (c.count_keys.ensures, c.requires.path) (keys_below own.bytes.now own.at own.inside own.short) in
    let g = unless_small c.is_by_group.result in
    let p = unless_small c.is_permit.result in
    rw c.rank.ensures (omega (arith, c.requires.few))
