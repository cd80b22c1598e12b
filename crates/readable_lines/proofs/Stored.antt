-- What an answer of the programs on lines tells.
use mathlib.Core.Path.{◌≡◌, refl, sym, ap, ◌∙◌}
use mathlib.Core.List.{List, ◌∷◌}
use mathlib.Core.Option.{Option, none, some}
use Prim.Native.Nat.{ℕ, ◌≤◌, ◌<◌}
use native.Mathlib.Omega.{arith}
use lib.ListN.{length, drop}
use Rattle.text.specs.String.{Str}
use Rattle.text.specs.Steps.{Wrote}
use Rattle.table_line.specs.Lines.{lines}
use Rattle.path_read.specs.declared.reader.Stored.{Stored}
use Rattle.std.specs.Prelude.{Some, None}
use Rattle.std.specs.Prelude as program
use Rattle.std.proofs.lemmas.Option.{same_Some, none-some}
use Rattle.path_read.specs.Steps.{MaybeStored}
use Rattle.readable_lines.specs.Steps.{max_made_frame, Fills, fills, nothing, Lays, lays, fails}

pub filled_to : {o : Option Str} {d d' : List ℕ} {q : program.Option ℕ} {end : ℕ} → Fills o d d' q → q ≡ Some end → (w : Str) × (o ≡ some w) × Wrote d 0 w d' end × (end ≤ max_made_frame)
filled_to {end = end} (fills {w = w} {end = e} v b) h = let k : e ≡ end = same_Some _ _ h in (w, refl, rw k at v, rw k at b)
filled_to nothing h = absurd (none-some _ h)

pub filled_not : {o : Option Str} {d d' : List ℕ} {q : program.Option ℕ} → Fills o d d' q → q ≡ None → o ≡ none
filled_not (fills v b) h = absurd (none-some _ (sym h))
filled_not nothing h = refl

module _ {g : Str → Option Str} {text : Str} {from : ℕ} {d d' : List ℕ} where
  pub laid_to : {q : MaybeStored} {o : Stored} → Lays g text from d d' q → q ≡ Some o
      → (l : Str) × (w : Str) × (lines (drop from text) ≡ l ∷ lines (drop o.next text)) × (g l ≡ some w) × Wrote d 0 w d' o.end × (o.end ≤ length d) × (from < o.next) × (o.next ≤ length text)
  laid_to {o = o} (lays {l = l} {w = w} {next = n} {end = e} i j v b x y) h =
      let r : record { next = n; end = e } ≡ o = same_Some _ _ h in
      let k : e ≡ o.end = ap (λ (u : Stored). u.end) r in
      let m : n ≡ o.next = ap (λ (u : Stored). u.next) r in
      (l, w, i ∙ ap (λ (z : ℕ). l ∷ lines (drop z text)) m, j, rw k at v, rw k at b, rw m at x, rw m at y)
  laid_to (fails i j) h = absurd (none-some _ h)

  pub laid_not : {q : MaybeStored} → Lays g text from d d' q → q ≡ None → (l : Str) × (ls : List Str) × (lines (drop from text) ≡ l ∷ ls) × (g l ≡ none)
  laid_not (lays i j v b x y) h = absurd (none-some _ (sym h))
  laid_not (fails {l = l} {ls = ls} i j) h = (l, ls, i, j)
