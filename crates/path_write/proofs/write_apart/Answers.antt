-- `write_apart` answers and leaves what the definitions say: the text is made apart, and copied where it fits.
use native.Mathlib.Omega.{arith}
use mathlib.Core.Path.{refl, sym}
use mathlib.Core.Bool.{true}
use lib.ListN.{length-take, length-replicate}
use lib.Seq.{length-take-le}
use Prim.Native.Nat.{ℕ}
use Rattle.limits.specs.Sizes.{max_path_text}
use Rattle.path_read.proofs.Answers.{unfit, filled}
use Rattle.path_write.proofs.Texts.{text_good, text_fits}
use Rattle.path_write.proofs.write_apart.Goals as goal

pub write_path-n-requires : goal.write_path-n-requires
write_path-n-requires c =
    let h = text_fits c.args.f.now true c.requires refl in record { reads = h.0; room = omega (arith, h.1) }

pub returns-then-out-n : goal.returns-then-out-n
returns-then-out-n c =
    unfit c.args.out.now _ _ (text_good c.args.f.now true c.requires refl) _ _ _
    c.write_path-n.ensures c.if-out-n.true

pub slice_bounds-text-end : goal.slice_bounds-text-end
slice_bounds-text-end c =
    let h = text_fits c.args.f.now true c.requires refl in
    omega (arith, h.1, c.write_path-n.ensures.ends, c.write_path-n.auto.out, length-replicate {A = ℕ} max_path_text 0)

pub slice_bounds-copy-end : goal.slice_bounds-copy-end
slice_bounds-copy-end c =
    sym (length-take-le _ _ (let h = text_fits c.args.f.now true c.requires refl in
    omega (arith, h.1, c.write_path-n.ensures.ends, c.write_path-n.auto.out, length-replicate {A = ℕ} max_path_text 0)))

pub copy-requires : goal.copy-requires
copy-requires c = simp length-take (omega arith)

pub returns : goal.returns
returns c =
    filled c.args.out.now _ _ (text_good c.args.f.now true c.requires refl) _ _ _
    c.write_path-n.ensures c.if-out-n.false _ c.copy.ensures
