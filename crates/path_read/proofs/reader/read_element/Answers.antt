-- `read_element` stores the name, and then the keys, where all are good.
use native.Mathlib.Omega.{arith}
use mathlib.Core.Path.{refl}
use Rattle.limits.specs.Sizes.{max_string_bytes, max_keys_bytes}
use Rattle.path.specs.Walk.{name_refusal, good}
use Rattle.path_read.specs.Steps.{nothing}
use Rattle.path_read.proofs.Storing.{stored_to, stored_not, string_longer, room_less, room_end, room_then}
use Rattle.path_read.proofs.Judging.{pass_got, element_misnamed, element_dots, element_stores}
use Rattle.path_read.proofs.reader.read_element.Goals as goal

pub read_name-requires : goal.read_name-requires
read_name-requires c =
    (room_less _ _ _ _ _ _ c.requires max_string_bytes 1 (omega arith) (omega arith), refl, refl)

pub returns-in_err-next : goal.returns-in_err-next
returns-in_err-next c =
    rw c.from_residual.ensures (nothing (element_misnamed _ _ (stored_not c.read_name.ensures c.in_err-next.was)))

pub slice_bounds-is_dots-count : goal.slice_bounds-is_dots-count
slice_bounds-is_dots-count c =
    let u = stored_to c.read_name.ensures c.in_ok-next.was in
    omega (arith, u.3.near, string_longer _ _ _ _ _ u.2)

pub slice_bounds-is_dots-start : goal.slice_bounds-is_dots-start
slice_bounds-is_dots-start c =
    let u = stored_to c.read_name.ensures c.in_ok-next.was in
    omega (arith, u.3.near, string_longer _ _ _ _ _ u.2)

pub slice_bounds-is_dots-end : goal.slice_bounds-is_dots-end
slice_bounds-is_dots-end c =
    let u = stored_to c.read_name.ensures c.in_ok-next.was in
    u.3.inside

pub returns-then-is_dots : goal.returns-then-is_dots
returns-then-is_dots c =
    let u = stored_to c.read_name.ensures c.in_ok-next.was in
    let g = pass_got (good name_refusal) _ u.1 in
    nothing (element_dots _ _ _ _ _ g.0 c.is_dots.ensures c.if-is_dots.true)

pub read_keys-requires : goal.read_keys-requires
read_keys-requires c =
    let u = stored_to c.read_name.ensures c.in_ok-next.was in
    room_then _ _ _ _ _ _ c.requires max_string_bytes 1 _ _ u.3 (omega (arith, u.2.ends)) max_keys_bytes 1 _ _ _
    u.2 (omega arith) (omega arith) (omega arith) (omega arith) u.3.inside

pub returns : goal.returns
returns c =
    let u = stored_to c.read_name.ensures c.in_ok-next.was in
    let g = pass_got (good name_refusal) _ u.1 in
    element_stores _ _ _ _ g.0 g.1 _ c.is_dots.ensures c.if-is_dots.false _ _ _ _ _ _ u.2
    u.3 (room_end _ _ _ _ _ _ c.requires max_string_bytes 1 _ _ u.3 (omega (arith, u.2.ends))
    (omega arith) (omega arith)) c.read_keys.ensures
