-- `find` equals its definition.
use native.Mathlib.Omega.{arith}
use Rattle.text_sorted.specs.Spans.{span_in}
use Rattle.text_set.proofs.Sets.{met_empty, met_first, met_sorted}
use Rattle.text_set.proofs.find.Goals as goal

pub overflow_cast-k : goal.overflow_cast-k
overflow_cast-k c =
    omega (arith, c.type_inv.keys c.args.p)

pub returns-then-k-eq0 : goal.returns-then-k-eq0
returns-then-k-eq0 c = met_empty _ _ _ _ _ c.if-k-eq0.true

pub slice_bounds-is_same-count : goal.slice_bounds-is_same-count
slice_bounds-is_same-count c =
    (c.requires.0.within _ c.requires.1).0

pub slice_bounds-is_same-start : goal.slice_bounds-is_same-start
slice_bounds-is_same-start c =
    (c.requires.0.within _ c.requires.1).0

pub slice_bounds-is_same-end : goal.slice_bounds-is_same-end
slice_bounds-is_same-end c =
    (c.requires.0.within _ c.requires.1).1

pub returns-then-is_same : goal.returns-then-is_same
unfolding span_in
returns-then-is_same c =
    met_first _ _ _ _ _ c.if-k-eq0.false _ c.is_same.ensures c.if-is_same.true

pub returns : goal.returns
unfolding span_in
returns c =
    met_sorted _ _ _ _ _ c.if-k-eq0.false _ c.is_same.ensures c.if-is_same.false _ c.find.ensures
