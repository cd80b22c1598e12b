-- A name that is stored at the start of a buffer of its own, and added to the text.
use Prim.Native.Nat.{ℕ, ◌≤◌}
use native.Mathlib.Omega.{arith}
use borrow.Author.Tests.{ltb-false}
use mathlib.Core.Path.{◌≡◌, sym, ◌∙◌}
use mathlib.Core.List.{List}
use lib.Dec.{ltb}
use lib.ListN.{length, take}
use lib.Seq.{length-take-le}
use Rattle.limits.specs.Limits.{max_string}
use Rattle.text.specs.Test.{whether◌then◌else◌}
use Rattle.text.specs.String.{Str}
use Rattle.text.specs.Steps.{Wrote}
use Rattle.text.proofs.Tests.{by}
use Rattle.text.proofs.Filling.{wrote_long}
use Rattle.readable_parts.proofs.Stored.{front}
use Rattle.table_facts.specs.Facts.{name_of, stored_of}
use Rattle.table_facts.specs.declared.Row.{Row}
use Rattle.table.specs.Text.{check, table_of}
use Rattle.text_make.specs.Text.{up_to}
use Rattle.cli_answers.specs.Lines.{name_in}

short_fits : (d : List ℕ) (s : Str) → length d ≡ max_string → stored_of d s ≡ up_to max_string s
unfolding stored_of up_to
short_fits d s l = rw l

short_length : (s : Str) → length (up_to max_string s) ≤ max_string
unfolding up_to whether◌then◌else◌
short_length s = by (ltb max_string (length s)) (λ u. rw u (omega arith)) (λ u. rw u (omega (arith, ltb-false max_string (length s) u)))

-- z is the buffer as it was, and b as it is with the name
module _ (text : Str) (row : Row) (z b : List ℕ) (n : ℕ) (l : length z ≡ max_string) (w : Wrote z 0 (stored_of z (name_of (check text) (table_of text) row)) b n) where
  pub name_there : take n b ≡ name_in text row
  unfolding name_in
  name_there = front z _ b n w ∙ short_fits z _ l

  stored : length (stored_of z (name_of (check text) (table_of text) row)) ≤ max_string
  stored = rw (short_fits z (name_of (check text) (table_of text) row) l) (short_length _)

  pub name_length : n ≤ max_string
  name_length = omega (arith, w.ends, stored)

  pub name_room : n ≤ length b
  name_room = omega (arith, name_length, l, wrote_long z 0 _ b n w (omega (arith, stored)))

  pub name_taken : n ≡ length (take n b)
  name_taken = sym (length-take-le n b name_room)
