use mathlib.Core.Path.{sym, ap₂, ◌∙◌}
use Rattle.verdict_filter.specs.Bloom.{unite}
use Rattle.verdict_filter.proofs.Laws.{not_both}
use Rattle.verdict_tree.proofs.search.Search.covers_joined.Goals as goal

pub returns-else-is_within : goal.returns-else-is_within
returns-else-is_within c =
    let h = c.requires.prepared.filtered in
    let one = h.1 _ c.requires.inside.0 c.requires.fit.0 in
    let two = h.1 _ c.requires.inside.1 c.requires.fit.1 in
    c.if-is_within.false
    ∙ sym (not_both h.0 _ _ _ (λ e. c.is_within.ensures c.if-is_within.false (ap₂ unite one two ∙ e ∙ sym two)))
