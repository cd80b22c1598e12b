-- `read_key` stores the name, and then the value, where both are good.
use native.Mathlib.Omega.{arith}
use mathlib.Core.Path.{refl, sym, ◌∙◌}
use Rattle.limits.specs.Sizes.{max_string_bytes}
use Rattle.path_read.specs.Steps.{nothing}
use Rattle.path_read.proofs.Sound.{inside}
use Rattle.path_read.proofs.Storing.{stored_to, stored_not, room_less, room_end, room_then}
use Rattle.path_read.proofs.Judging.{key_misnamed, key_ends, key_stores}
use Rattle.path_read.proofs.reader.read_key.Goals as goal

pub read_name-requires : goal.read_name-requires
read_name-requires c =
    (room_less _ _ _ _ _ _ c.requires max_string_bytes 1 (omega arith) (omega arith), refl, refl)

pub returns-in_err-next : goal.returns-in_err-next
returns-in_err-next c =
    rw c.from_residual.ensures (nothing (key_misnamed _ _ (stored_not c.read_name.ensures c.in_err-next.was)))

pub returns-then-byte_at-ne61 : goal.returns-then-byte_at-ne61
returns-then-byte_at-ne61 c =
    let u = stored_to c.read_name.ensures c.in_ok-next.was in
    nothing (key_ends _ _ _ _ u.1 (λ z. c.if-byte_at-ne61.true (c.byte_at.ensures ∙ z)))

pub overflow_add-next : goal.overflow_add-next
overflow_add-next c =
    omega (arith, inside c.args.text.now c.in_ok-next.field-0.next 61 (omega arith) (sym c.byte_at.ensures ∙ c.if-byte_at-ne61.false))

pub read_good_value-requires : goal.read_good_value-requires
read_good_value-requires c =
    let u = stored_to c.read_name.ensures c.in_ok-next.was in
    room_then _ _ _ _ _ _ c.requires max_string_bytes 1 _ _ u.3 (omega (arith, u.2.ends)) max_string_bytes 1 _ _ _
    u.2 (omega arith) (omega arith) (omega arith) (omega arith)
    (omega (
      arith,
      inside c.args.text.now c.in_ok-next.field-0.next 61 (omega arith) (sym c.byte_at.ensures ∙ c.if-byte_at-ne61.false),
    ))

pub returns : goal.returns
returns c =
    let u = stored_to c.read_name.ensures c.in_ok-next.was in
    key_stores _ _ _ _ u.1 (sym c.byte_at.ensures ∙ c.if-byte_at-ne61.false) _ _ _ _ _ _ u.2 u.3
    (room_end _ _ _ _ _ _ c.requires max_string_bytes 1 _ _ u.3 (omega (arith, u.2.ends)) (omega arith)
    (omega arith)) c.read_good_value.ensures
