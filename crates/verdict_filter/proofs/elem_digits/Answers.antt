use native.Mathlib.Omega.{arith}
use mathlib.Core.Path.{ap, ◌∙◌}
use Rattle.table_place.specs.Place.{elem_in}
use Rattle.table_place.proofs.Cursor.{elem_room}
use Rattle.verdict_filter.specs.Bloom.{digits}
use Rattle.verdict_filter.proofs.Turns.{elem_is}
use Rattle.verdict_filter.proofs.elem_digits.Goals as goal

pub hash_at-requires : goal.hash_at-requires
hash_at-requires c =
    let own = c.args.own in let e = elem_room own.bytes.now own.at own.inside in (c.requires.0, omega (arith, c.requires.1), omega arith)

pub returns : goal.returns
unfolding elem_in
returns c =
    c.unite.ensures ∙ elem_is _ _ _ _ _ (c.digits-name.ensures ∙ ap digits c.hash_at.ensures)
    (rw (c.no_keys.ensures, c.keys.ensures) at c.keys_digits.ensures)
