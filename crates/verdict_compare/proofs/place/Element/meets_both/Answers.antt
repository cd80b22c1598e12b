use mathlib.Core.Path.{sym, ◌∙◌}
use Rattle.verdict_compare.proofs.Elems.{both_name, both_keys}
use Rattle.verdict_compare.proofs.place.Element.meets_both.Goals as goal

pub returns-then-not-has_name_of : goal.returns-then-not-has_name_of
returns-then-not-has_name_of c =
    sym (both_name _ _ _ (sym c.has_name_of.ensures ∙ c.if-not-has_name_of.true))

pub returns : goal.returns
returns c =
    rw (c.keys.ensures, c.keys-2.ensures, c.keys-3.ensures) at c.pass.ensures
    ∙ sym (both_keys _ _ _ (sym c.has_name_of.ensures ∙ c.if-not-has_name_of.false))
