-- Bytes of a buffer moved to its start.
use Prim.Native.Nat.{ℕ, ◌+◌, ◌-◌, ◌≤◌, ◌<◌}
use native.Mathlib.Omega.{arith}
use native.Mathlib.Numerals.{add-one}
use mathlib.Core.Path.{◌≡◌, refl, sym, ap, ◌∙◌}
use mathlib.Core.List.{List, [], ◌∷◌, ◌++◌}
use lib.ListN.{length, take, drop, get_or, set, length-set, length-drop, length-append, take-append-drop}
use lib.Seq.{take-suc, take_all, take-append_seam, length-take-le, take-set-le, drop-set-lt, drop-drop, get_or-take, get_or-drop, get_or-set_same}
use Rattle.std.specs.List.{copy_within}
use Rattle.cli_show.specs.Counts.{IsPrefixLen}
use Rattle.text.specs.Frame.{part}
use Rattle.text.specs.Fill.{put}
use Rattle.text.specs.Steps.{Wrote}
use Rattle.text.proofs.Filling.{wrote_long, put_take}
use Rattle.cli_parts.specs.Parts.{KeptFirst}

module _ (d : List ℕ) (from to : ℕ) where
  module _ (h : from ≤ to) (k : to ≤ length d) where
    part_long : length (part d from to) ≡ to - from
    part_long = length-take-le (to - from) (drop from d) (omega (arith, length-drop from d))

    pub kept_ends : to - from ≡ 0 + length (part d from to)
    kept_ends = omega (arith, part_long)

    -- the library's move to the start
    pub kept_is : copy_within d from to 0 ≡ put d 0 (part d from to)
    unfolding put
    kept_is = let e : 0 + length (part d from to) ≡ 0 + (to - from) = omega (arith, part_long) in rw e refl

    pub moved_within : (buf : List ℕ) (i : ℕ) → Wrote d 0 (part d from to) buf i → i ≤ length buf
    moved_within buf i v = omega (arith, v.ends, part_long, wrote_long d 0 (part d from to) buf i v (omega (arith, part_long)))

    -- and stand first, whatever stands behind them
    pub moved_first : (buf : List ℕ) (i : ℕ) (behind : List ℕ) (n : ℕ) → Wrote d 0 (part d from to) buf i → KeptFirst d from to (take i buf ++ behind) (i + n)
    moved_first buf i behind n v =
        let w = part d from to in
        let l : 0 + length w ≤ length d = omega (arith, part_long) in
        let e : i ≡ to - from = omega (arith, v.ends, part_long) in
        let f : take i buf ≡ w = ap (λ (k : ℕ). take k buf) v.ends ∙ ap (take (0 + length w)) v.same ∙ put_take d 0 w l in
        let g : to - from ≡ length w = sym part_long in
        record { among = omega (arith, e); first = rw f (ap (λ (k : ℕ). take k (w ++ behind)) g ∙ take-append_seam w behind) }

-- bytes behind those that were moved
pub behind : (k n : ℕ) (xs ys zs : List ℕ) → k ≤ length xs → n ≤ length ys → IsPrefixLen (k + n) (take k xs ++ (ys ++ zs))
behind k n xs ys zs h l =
    let e : k + n ≤ length (take k xs ++ (ys ++ zs)) = omega (arith, length-append (take k xs) (ys ++ zs), length-append ys zs, length-take-le k xs h) in
    (e, sym (length-take-le (k + n) (take k xs ++ (ys ++ zs)) e))
