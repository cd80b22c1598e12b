-- `read_apart` answers and leaves what the definitions say: the bytes are made apart, and copied where they fit.
use native.Mathlib.Omega.{arith}
use lib.ListN.{length-take, length-replicate}
use Prim.Native.Nat.{ℕ}
use Rattle.path_read.proofs.Answers.{refused, unfit, filled, transcribed_to, transcribed_not}
use Rattle.path_read.proofs.reader.read_apart.Goals as goal

pub transcribe-requires : goal.transcribe-requires
transcribe-requires g c =
    (record { starts = omega arith; fits = λ n f h. omega (arith, c.requires.room n f (omega (arith, h)), length-replicate {A = ℕ} g.row.N 0) }, c.requires.no_root)

pub returns-in_default : goal.returns-in_default
returns-in_default g c =
    refused c.args.out.now _ (transcribed_not c.transcribe.ensures c.in_default.is)

pub returns-then-out-end : goal.returns-then-out-end
returns-then-out-end g c =
    let u = transcribed_to c.transcribe.ensures c.in-Some.is in
    unfit c.args.out.now _ u.0 u.1 _ _ _ u.2 c.if-out-end.true

pub slice_bounds-copy-end : goal.slice_bounds-copy-end
slice_bounds-copy-end g c =
    let u = transcribed_to c.transcribe.ensures c.in-Some.is in omega (arith, u.3)

pub copy-requires : goal.copy-requires
copy-requires g c = simp length-take (omega arith)

pub returns : goal.returns
returns g c =
    let u = transcribed_to c.transcribe.ensures c.in-Some.is in
    filled c.args.out.now _ u.0 u.1 _ _ _ u.2 c.if-out-end.false _ c.copy.ensures

pub whole_as_slice-transcribe : goal.whole_as_slice-transcribe
whole_as_slice-transcribe g c = omega (arith, c.requires.small)

pub shared_whole_as_front-copy : goal.shared_whole_as_front-copy
shared_whole_as_front-copy g c =
    let u = transcribed_to c.transcribe.ensures c.in-Some.is in
    (omega (arith, u.3, length-replicate {A = ℕ} g.row.N 0), omega (arith, c.requires.small))
