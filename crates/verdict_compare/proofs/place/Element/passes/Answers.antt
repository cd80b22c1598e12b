use native.Mathlib.Omega.{arith}
use mathlib.Core.Path.{sym, ◌∙◌}
use Rattle.table_place.proofs.Cursor.{keys_nil}
use Rattle.verdict_compare.proofs.Elems.{elem_name, elem_keys, elem_keyless}
use Rattle.verdict_compare.proofs.place.Element.passes.Goals as goal

pub returns-then-not-has_name_of : goal.returns-then-not-has_name_of
returns-then-not-has_name_of c =
    sym (elem_name _ _ c.args.cover (sym c.has_name_of.ensures ∙ c.if-not-has_name_of.true))

pub returns-then-own-eq0 : goal.returns-then-own-eq0
returns-then-own-eq0 c =
    let own = c.keys-own.result in
    sym (elem_keyless _ _ c.args.cover (sym c.has_name_of.ensures ∙ c.if-not-has_name_of.false)
    (sym c.keys-own.ensures ∙ keys_nil own.bytes.now own.count own.at (omega (arith, c.if-own-eq0.true))))

pub returns : goal.returns
returns c =
    rw (c.no_keys.ensures, c.keys-own.ensures, c.keys.ensures) at c.pass.ensures
    ∙ sym (elem_keys _ _ c.args.cover (sym c.has_name_of.ensures ∙ c.if-not-has_name_of.false))
