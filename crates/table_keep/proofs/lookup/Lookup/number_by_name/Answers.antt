-- `number_by_name` equals its definition.
use native.Mathlib.Omega.{arith}
use mathlib.Core.Path.{sym, ◌∙◌}
use Rattle.table_rows.proofs.Grow.{number_is}
use Rattle.table_keep.proofs.Names.{name_absent, name_present}
use Rattle.table_keep.proofs.Members.{place_small}
use Rattle.table_keep.proofs.lookup.Lookup.number_by_name.Goals as goal

pub returns-then-s-count : goal.returns-then-s-count
returns-then-s-count c =
    name_absent _ _ _ _ _ c.args.self.groups.named _ c.find-s.ensures c.if-s-count.true

pub offset_bounds-names-at : goal.offset_bounds-names-at
offset_bounds-names-at c =
    let h = name_present _ _ _ _ _ c.args.self.groups.named _ c.find-s.ensures c.if-s-count.false in omega (arith, h)

pub bounds-names-at : goal.bounds-names-at
bounds-names-at c =
    let h = name_present _ _ _ _ _ c.args.self.groups.named _ c.find-s.ensures c.if-s-count.false in omega (arith, h)

pub returns-then-is_named : goal.returns-then-is_named
returns-then-is_named c =
    number_is _ _ _ _ _ c.args.self.groups.distinct.distinct (sym c.is_named.ensures ∙ c.if-is_named.true)

pub overflow_cast-result-2 : goal.overflow_cast-result-2
overflow_cast-result-2 c =
    omega (arith, place_small _ _ _ _ _ c.find-i.ensures, c.args.self.groups.few)
