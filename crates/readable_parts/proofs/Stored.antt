-- What an answer of the programs on parts tells.
use mathlib.Core.Path.{◌≡◌, sym, ap, ◌∙◌}
use mathlib.Core.List.{List}
use Prim.Native.Nat.{ℕ, ◌≤◌}
use native.Mathlib.Omega.{arith}
use lib.ListN.{length, take}
use lib.Seq.{take_at}
use Rattle.text.specs.String.{Str}
use Rattle.text.specs.Frame.{got, unread, Reader}
use Rattle.text.specs.Fill.{put}
use Rattle.text.specs.Steps.{Wrote}
use Rattle.path_read.specs.declared.reader.Stored.{Stored}
use Rattle.std.specs.Prelude.{Some, None}
use Rattle.std.proofs.lemmas.Option.{same_Some, none-some}
use Rattle.path_read.specs.Steps.{MaybeStored}
use Rattle.readable_parts.specs.Steps.{Puts, puts, stops}

module _ {most : ℕ} {r : Reader Str} {s : Str} {at : ℕ} {d : List ℕ} {to : ℕ} {d' : List ℕ} where
  pub put_to : {q : MaybeStored} {o : Stored} → Puts most r s at d to d' q → q ≡ Some o
      → (w : Str) × (r s at ≡ got w o.next) × Wrote d to w d' o.end × (length w ≤ most) × (o.next ≤ length s)
  put_to {o = o} (puts {w = w} {t = t} {end = e} i v b l) h =
      let g : record { next = t; end = e } ≡ o = same_Some _ _ h in
      let j : t ≡ o.next = ap (λ (u : Stored). u.next) g in
      let k : e ≡ o.end = ap (λ (u : Stored). u.end) g in
      (w, i ∙ ap (got w) j, rw k at v, b, rw j at l)
  put_to (stops i) h = absurd (none-some _ h)

  pub put_not : {q : MaybeStored} → Puts most r s at d to d' q → q ≡ None → r s at ≡ unread
  put_not (puts i v b l) h = absurd (none-some _ (sym h))
  put_not (stops i) h = i

  -- the same of another reader that reads the same there, and of a greater bound
  pub put_by : (r' : Reader Str) (more : ℕ) {q : MaybeStored} → Puts most r s at d to d' q → r' s at ≡ r s at → most ≤ more → Puts more r' s at d to d' q
  put_by r' more (puts i v b l) e h = puts (e ∙ i) v (omega arith) l
  put_by r' more (stops i) e h = stops (e ∙ i)

-- the front of a buffer whose start was filled
pub front : (d w d' : List ℕ) (end : ℕ) → Wrote d 0 w d' end → take end d' ≡ w
unfolding put
front d w d' end v = let i : end ≡ length w = omega (arith, v.ends) in rw v.same (take_at w _ end (sym i))
