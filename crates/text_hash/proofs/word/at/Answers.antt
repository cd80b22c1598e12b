use native.Mathlib.Omega.{arith}
use Prim.Native.Nat.{◌+◌, ◌*◌}
use lib.ListN.{get_or-eq_default}
use Rattle.text_hash.proofs.word.at.Goals as goal

pub returns : goal.returns
returns c =
    let past = get_or-eq_default c.args.t.now 0 {n = 4 * c.args.k + 3} (omega (arith, c.if-t-i-ge4.false)) in (
      omega (arith, past, c.byte.ensures.0, c.byte-2.ensures.0, c.byte-3.ensures.0),
      omega (arith, c.byte.ensures.1, c.byte-2.ensures.1, c.byte-3.ensures.1),
    )
