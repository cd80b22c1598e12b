-- `code` stores the code byte of the word.
use Rattle.readable_parts.specs.Steps.{stops}
use Rattle.readable_packed.proofs.Packing.{code_first, code_second, code_other}
use mathlib.Core.Path.{sym, ◌∙◌}
use Rattle.readable_packed.proofs.code.Goals as goal

pub stands_at-requires : goal.stands_at-requires
stands_at-requires c = c.requires.1

pub returns-then-stands_at : goal.returns-then-stands_at
returns-then-stands_at c =
    code_first _ _ _ _ _ _ _ c.requires.0 (sym c.stands_at.ensures ∙ c.if-stands_at.true)

pub stands_at-requires-2 : goal.stands_at-requires-2
stands_at-requires-2 c = c.requires.1

pub returns-then-stands_at-2 : goal.returns-then-stands_at-2
returns-then-stands_at-2 c =
    code_second _ _ _ _ _ _ _ c.requires.0 (sym c.stands_at.ensures ∙ c.if-stands_at.false)
    (sym c.stands_at-2.ensures ∙ c.if-stands_at-2.true)

pub returns : goal.returns
returns c =
    stops (code_other _ _ _ _ _ c.args.out.now _ c.requires.0
    (sym c.stands_at.ensures ∙ c.if-stands_at.false) (sym c.stands_at-2.ensures ∙ c.if-stands_at-2.false))
