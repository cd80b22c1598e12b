use native.Mathlib.Omega.{arith}
use mathlib.Core.Path.{sym}
use Rattle.table_place.specs.Place.{str_end}
use Rattle.table_place.proofs.Cursor.{str_grows}
use Rattle.verdict_compare.proofs.Keys.{wild_in}
use Rattle.verdict_compare.proofs.place.Key.is_wild.Goals as goal

pub str_end-requires : goal.str_end-requires
str_end-requires c =
    let own = c.args.self in let inside = own.inside in omega (arith, str_grows own.bytes.now (str_end own.bytes.now own.at))

pub is_star-requires : goal.is_star-requires
is_star-requires c = rw c.str_end.ensures c.args.self.inside

pub returns : goal.returns
returns c = sym (wild_in _ _ _ _ c.str_end.ensures c.is_star.ensures)
