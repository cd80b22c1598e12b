-- `index` sorts the keys, which stay keys of the rules.
use native.Mathlib.Omega.{arith}
use Rattle.rule_index.proofs.Sorting.{keys_bounded, indexed}
use Rattle.rule_index.proofs.keys.index.Goals as goal

pub mark_first-requires : goal.mark_first-requires
mark_first-requires c =
    let R = c.args.rules in (
      R.few,
      omega (arith, c.requires.0, c.make.ensures.len_unchanged, c.sort.ensures.0.size),
      c.requires.2,
      keys_bounded _ R.bytes.now R.starts.now _ _ _
          (omega (arith, c.requires.0, c.make.ensures.len_unchanged)) (c.make.ensures.keyed) (c.sort.ensures.0),
    )

pub returns : goal.returns
returns c =
    let R = c.args.rules in
    indexed _ R.bytes.now R.starts.now _ _ _
    (omega (arith, c.requires.0, c.make.ensures.len_unchanged)) (c.make.ensures.keyed)
    (c.sort.ensures.0) _ (c.mark_first.ensures.0) (c.mark_first.ensures.1)
