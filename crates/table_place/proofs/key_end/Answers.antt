use native.Mathlib.Omega.{arith}
use mathlib.Core.Path.{ap, ◌∙◌}
use Rattle.table_place.specs.Place.{str_end}
use Rattle.table_place.proofs.Cursor.{str_grows}
use Rattle.table_place.proofs.key_end.Goals as goal

pub str_end-requires : goal.str_end-requires
str_end-requires c =
    omega (arith, str_grows c.args.f.now (str_end c.args.f.now c.args.at))

pub str_end-requires-2 : goal.str_end-requires-2
str_end-requires-2 c = rw c.str_end.ensures c.requires

pub returns : goal.returns
returns c =
    c.str_end-2.ensures ∙ ap (str_end c.args.f.now) c.str_end.ensures
