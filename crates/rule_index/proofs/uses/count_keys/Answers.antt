use native.Mathlib.Omega.{arith}
use Rattle.table_place.specs.Place.{str_end}
use Rattle.table_place.proofs.Cursor.{str_grows}
use Rattle.rule_index.proofs.uses.count_keys.Goals as goal

pub str_end-requires : goal.str_end-requires
str_end-requires c =
    let k = c.in-Some.k in let i = k.inside in omega (arith, str_grows k.bytes.now (str_end k.bytes.now k.at))

pub count_value-requires : goal.count_value-requires
count_value-requires c = (rw c.str_end.ensures c.in-Some.k.inside, omega (arith, c.requires.0), c.requires.1)
