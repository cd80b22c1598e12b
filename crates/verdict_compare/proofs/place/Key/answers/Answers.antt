use native.Mathlib.Omega.{arith}
use mathlib.Core.Path.{refl, sym, ◌∙◌}
use Rattle.table_place.specs.Place.{str_end}
use Rattle.table_place.proofs.Cursor.{str_grows}
use Rattle.verdict_compare.proofs.Keys.{answers_name, answers_value, answers_other}
use Rattle.verdict_compare.proofs.place.Key.answers.Goals as goal

pub same_at-requires : goal.same_at-requires
same_at-requires c =
    let g = c.args.self in let f = c.args.other in let i = g.inside in let j = f.inside in
    (omega (arith, str_grows g.bytes.now (str_end g.bytes.now g.at)), omega (arith, str_grows f.bytes.now (str_end f.bytes.now f.at)))

pub returns-then-not-same_at : goal.returns-then-not-same_at
returns-then-not-same_at c =
    sym (answers_name _ _ _ _ c.args.cover (sym c.same_at.ensures ∙ c.if-not-same_at.true))

pub str_end-b-requires : goal.str_end-b-requires
str_end-b-requires c =
    let g = c.args.self in let i = g.inside in omega (arith, str_grows g.bytes.now (str_end g.bytes.now g.at))

pub str_end-a-requires : goal.str_end-a-requires
str_end-a-requires c =
    let f = c.args.other in let i = f.inside in omega (arith, str_grows f.bytes.now (str_end f.bytes.now f.at))

pub same_at-requires-2 : goal.same_at-requires-2
same_at-requires-2 c =
    rw (c.str_end-b.ensures, c.str_end-a.ensures) (c.args.self.inside, c.args.other.inside)

pub returns-then-same_at : goal.returns-then-same_at
returns-then-same_at c =
    sym (answers_value _ _ _ _ (sym c.same_at.ensures ∙ c.if-not-same_at.false) _ _ c.str_end-b.ensures c.str_end-a.ensures
    c.args.cover (sym c.same_at-2.ensures ∙ c.if-same_at.true))

pub is_star-requires : goal.is_star-requires
is_star-requires c =
    rw c.str_end-b.ensures c.args.self.inside

pub returns-then-not-cover : goal.returns-then-not-cover
returns-then-not-cover c =
    sym (answers_other _ _ _ _ (sym c.same_at.ensures ∙ c.if-not-same_at.false) _ _ c.str_end-b.ensures c.str_end-a.ensures
    c.args.cover (sym c.same_at-2.ensures ∙ c.if-same_at.false) _ c.is_star.ensures ∙ rw c.if-not-cover.true)

pub returns-else-not-cover : goal.returns-else-not-cover
returns-else-not-cover c =
    sym (answers_other _ _ _ _ (sym c.same_at.ensures ∙ c.if-not-same_at.false) _ _ c.str_end-b.ensures c.str_end-a.ensures
    c.args.cover (sym c.same_at-2.ensures ∙ c.if-same_at.false) _ refl ∙ rw c.if-not-cover.false)
