-- `pack` answers and leaves what the definitions say.
use native.Mathlib.Omega.{arith}
use Prim.Native.Nat.{ℕ}
use mathlib.Core.Path.{◌≡◌, sym, ap, ◌∙◌}
use lib.Seq.{length-take-le}
use Rattle.std.specs.Prelude.{Err}
use Rattle.readable.specs.Texts.{ended_of}
use Rattle.readable.proofs.Calling.{pack_unread, pack_full, pack_size, pack_made}
use Rattle.readable.proofs.pack.Goals as goal

pub convert_lines-requires : goal.convert_lines-requires
convert_lines-requires c = λ z. let y : ◌≡◌ {A = ℕ} 0 1 = cc in omega (arith, y)

pub slice_bounds-table-end : goal.slice_bounds-table-end
slice_bounds-table-end c =
    omega (
      arith,
      pack_size _ c.args.out.now _ _ _ c.convert_lines.ensures.0
          c.convert_lines.ensures.1 (omega arith) _ (ap ended_of c.in-Ok.is),
    )

pub slice_bounds-hand_out-end : goal.slice_bounds-hand_out-end
slice_bounds-hand_out-end c =
    sym (length-take-le _ _ (omega (
      arith,
      pack_size _ c.args.out.now _ _ _ c.convert_lines.ensures.0
          c.convert_lines.ensures.1 (omega arith) _ (ap ended_of c.in-Ok.is),
    )))

pub returns-in-Ok : goal.returns-in-Ok
returns-in-Ok c =
    pack_made _ _ _ _ _ c.convert_lines.ensures.0 c.convert_lines.ensures.1
    (omega arith) _ (ap ended_of c.in-Ok.is) _ _ c.hand_out.ensures

pub returns-in-Err-Unread : goal.returns-in-Err-Unread
returns-in-Err-Unread c =
    rw c.in-Err-Unread.field-0-is (pack_unread _ _ _ _ _ c.convert_lines.ensures.0 c.convert_lines.ensures.1 (omega arith) _ (ap ended_of (c.in-Err-Unread.is ∙ ap Err c.in-Err-Unread.field-0-is)))

pub returns-in-Err-Full : goal.returns-in-Err-Full
returns-in-Err-Full c =
    pack_full _ _ _ _ _ c.convert_lines.ensures.0 c.convert_lines.ensures.1 (omega arith) (ap ended_of (c.in-Err-Full.is ∙ ap Err c.in-Err-Full.field-0-is))
