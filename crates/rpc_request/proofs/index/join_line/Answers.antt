-- `join_line` stores what its definition says.
use native.Mathlib.Omega.{arith}
use mathlib.Core.Path.{refl, sym, ◌∙◌}
use lib.ListN.{length-set}
use Rattle.rpc_request.proofs.Lines.{line_there, tail_long}
use Rattle.rpc_request.proofs.Values.{line_passed, line_kept, line_added}
use Rattle.rpc_request.proofs.index.join_line.Goals as goal

pub returns-then-not-is_same : goal.returns-then-not-is_same
returns-then-not-is_same c =
    line_passed _ _ c.byte_from-c.ensures c.requires.0 _ _ _ (sym c.is_same.ensures ∙ c.if-not-is_same.true)

pub overflow_sub-start : goal.overflow_sub-start
overflow_sub-start c =
    omega (arith, line_there _ _ c.byte_from-c.ensures c.requires.0)

pub slice_bounds-copy-count : goal.slice_bounds-copy-count
slice_bounds-copy-count c =
    omega (arith, line_there _ _ c.byte_from-c.ensures c.requires.0)

pub slice_bounds-copy-start : goal.slice_bounds-copy-start
slice_bounds-copy-start c =
    omega (arith, line_there _ _ c.byte_from-c.ensures c.requires.0)

pub copy-requires : goal.copy-requires
copy-requires c =
    omega (
      arith,
      line_there _ _ c.byte_from-c.ensures c.requires.0,
      tail_long _ _ c.byte_from-c.ensures c.requires.0,
      c.requires.1,
      c.requires.2,
    )

pub overflow_sub-comma : goal.overflow_sub-comma
overflow_sub-comma c =
    omega (arith, line_there _ _ c.byte_from-c.ensures c.requires.0, c.requires.1)

pub bounds-out-comma : goal.bounds-out-comma
bounds-out-comma c =
    omega (
      arith,
      line_there _ _ c.byte_from-c.ensures c.requires.0,
      line_kept _ _ c.byte_from-c.ensures c.requires.0 c.args.key.now
          c.args.out.now c.args.at _ _ _ refl refl refl c.requires.1 c.requires.2 _
          c.copy.ensures,
      c.requires.1,
      c.requires.2,
    )

pub shape_of-out : goal.shape_of-out
shape_of-out c =
    simp length-set (line_kept _ _ c.byte_from-c.ensures c.requires.0 c.args.key.now
    c.args.out.now c.args.at _ _ _ refl refl refl c.requires.1 c.requires.2 _ c.copy.ensures)

pub returns : goal.returns
returns c =
    line_added _ _ c.byte_from-c.ensures c.requires.0 _ _ _ _ _ _ refl refl refl c.requires.1
    c.requires.2 _ c.copy.ensures (sym c.is_same.ensures ∙ c.if-not-is_same.false)
