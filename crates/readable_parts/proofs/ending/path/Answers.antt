-- `path` stores the path with which a frame or a line ends.
use native.Mathlib.Omega.{arith}
use mathlib.Core.Path.{ap}
use Rattle.path_read.specs.Calls.{filled_of}
use Rattle.readable_parts.specs.Steps.{stops, path_for}
use Rattle.readable_parts.proofs.Rest.{path_bound, rest_past, rest_stops, rest_size, rest_puts}
use Rattle.readable_parts.proofs.ending.path.Goals as goal

pub returns-then-s-at : goal.returns-then-s-at
returns-then-s-at c = stops (rest_past _ _ _ c.if-s-at.true)

pub returns-in_default : goal.returns-in_default
returns-in_default c =
    stops (rest_stops (path_for c.args.direction) _ _ c.if-s-at.false c.args.out.now
    c.args.to _ c.requires (path_bound c.args.direction) _ c.convert.ensures.0 _ (ap filled_of c.in_default.is))

pub overflow_add-result : goal.overflow_add-result
overflow_add-result c =
    omega (
      arith,
      c.requires,
      rest_size (path_for c.args.direction) c.args.s.now c.args.at c.if-s-at.false
          c.args.out.now c.args.to _ c.requires (path_bound c.args.direction) _
          c.convert.ensures.0 _ (ap filled_of c.in-Ok.is),
    )

pub returns : goal.returns
returns c =
    rest_puts (path_for c.args.direction) _ _ c.if-s-at.false _ _ _ c.requires
    (path_bound c.args.direction) _ c.convert.ensures.0 _ (ap filled_of c.in-Ok.is) _ c.convert.ensures.1
