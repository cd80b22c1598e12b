-- What reading or writing a path leaves in a buffer that has room for it, and the line that is made of it.
use Prim.Native.Nat.{ℕ, ◌+◌, ◌*◌, ◌≤◌}
use native.Mathlib.Omega.{arith}
use borrow.Author.Tests.{le-leb}
use mathlib.Core.Path.{◌≡◌, refl, sym, ap}
use mathlib.Core.Bool.{true}
use mathlib.Core.List.{List, ◌++◌}
use mathlib.Core.Option.{Option, none, some}
use lib.Dec.{leb}
use lib.ListN.{length, take}
use lib.Seq.{length-take-le}
use Rattle.limits.specs.Sizes.{max_path_bytes, max_path_text}
use Rattle.text.specs.Test.{whether◌then◌else◌}
use Rattle.text.specs.String.{Str, bytes}
use Rattle.text.specs.Steps.{Wrote}
use Rattle.text.proofs.Filling.{wrote_long}
use Rattle.path_read.specs.Calls.{bytes_for, text_for, answer, lent}
use Rattle.path_read.specs.Steps.{Delivers}
use Rattle.path_read.specs.Filled.{Filled}
use Rattle.path_read.specs.Filled.{Length, Refused}
use Rattle.path_read.proofs.Longest.{bytes_bound, text_bound}
use Rattle.readable_parts.specs.Parts.{hex_text}
use Rattle.readable_parts.proofs.Digits.{hex_length}
use Rattle.readable_parts.proofs.Stored.{front}
use Rattle.std.specs.Prelude.{Ok, Err}
use Rattle.cli_answers.specs.Paths.{hex_line, plain_line, bytes_line, text_line, line_answer}

-- ---- where there is room for the result

-- what was made at the start of d, and answered: a string and its length; or, where there is none, nothing and 22
data Made : Option Str → List ℕ → List ℕ → Filled → Type 0 where
  made : {s d d' : List ℕ} {n : ℕ} → Wrote d 0 s d' n → length s ≤ length d → Made (some s) d d' (Length n)
  nothing : {d : List ℕ} → Made none d d (Refused 22)

delivered : (o : Option Str) (d d' : List ℕ) (r : Filled) → ((s : Str) → o ≡ some s → length s ≤ length d) → Delivers d o d' r → Made o d d' r
unfolding answer lent whether◌then◌else◌
delivered none d d' r h v = rw (v.0, v.1) nothing
delivered (some s) d d' r h v =
    let l : length s ≤ length d = h s refl in
    let c : leb (length s) (length d) ≡ true = le-leb _ _ l in
    let e : r ≡ Length (length s) = rw c at v.0 in
    let w : Wrote d 0 s d' (length s) = record { ends = omega arith; same = rw c at v.1 } in
    rw e (made w l)

made_line : {o : Option Str} {d d' : List ℕ} {r : Filled} (n : ℕ) → Made o d d' r → r ≡ Length n → (s : Str) × (o ≡ some s) × Wrote d 0 s d' n × (length s ≤ length d)
made_line n (made {s = s} {n = m} w l) e = let i : m ≡ n = cc in (s, refl, rw i at w, l)
made_line n nothing e = let z : ◌≡◌ {A = ℕ} 0 1 = cc in absurd (omega arith)

made_nothing : {o : Option Str} {d d' : List ℕ} {r : Filled} (n : ℕ) → Made o d d' r → r ≡ Refused n → (o ≡ none) × (d' ≡ d) × (n ≡ 22)
made_nothing n (made w l) e = let z : ◌≡◌ {A = ℕ} 0 1 = cc in absurd (omega arith)
made_nothing n nothing e = let i : n ≡ 22 = cc in (refl, refl, i)

-- a string that was made, where it stands
record Stands (o : Option Str) (d d' : List ℕ) (n : ℕ) : Type 0 where
  pub string : Str
  pub is : o ≡ some string
  pub there : take n d' ≡ string
  pub long : n ≡ length string
  pub room : n ≤ length d'

stands : {o : Option Str} {d d' : List ℕ} {r : Filled} (n : ℕ) → Made o d d' r → r ≡ Length n → Stands o d d' n
stands {d = d} {d' = d'} n m e =
    let a = made_line n m e in
    record {
      string = a.0;
      is = a.1;
      there = front d a.0 d' n a.2;
      long = omega (arith, a.2.ends);
      room = omega (arith, a.2.ends, a.3, wrote_long d 0 a.0 d' n a.2 (omega (arith, a.3)));
    }

-- ---- bytes in hex

module _ (text z z' : List ℕ) (r : Filled) (l : length z ≡ max_path_bytes) (v : Delivers z (bytes_for text) z' r) where
  read : Made (bytes_for text) z z' r
  read = delivered (bytes_for text) z z' r (λ s e. omega (arith, l, bytes_bound text s e)) v

  module _ (n : ℕ) (e : r ≡ Length n) where
    bytes_stand : Stands (bytes_for text) z z' n
    bytes_stand = stands n read e

    pub read_room : n ≤ length z'
    read_room = bytes_stand.room

    pub read_taken : n ≡ length (take n z')
    read_taken = sym (length-take-le n z' read_room)

    digits_few : length (hex_text (take n z')) ≤ 2 * max_path_bytes
    digits_few = omega (arith, hex_length (take n z'), read_taken, bytes_stand.long, bytes_bound text bytes_stand.string bytes_stand.is)

    module _ (d : List ℕ) (k : length d ≡ 2 * max_path_bytes) where
      pub hex_room : 0 + length (hex_text (take n z')) ≤ length d
      hex_room = omega (arith, digits_few, k)

      module _ (d' : List ℕ) (p : ℕ) (w : Wrote d 0 (hex_text (take n z')) d' p) where
        pub hex_end : p ≤ length d'
        hex_end = omega (arith, w.ends, hex_room, wrote_long d 0 _ d' p w hex_room)

        pub hex_few : length (take p d') ≤ 2 * max_path_bytes
        hex_few = omega (arith, length-take-le p d' hex_end, w.ends, digits_few)

        pub hex_line_is : take p d' ++ bytes "\n" ≡ hex_line (take n z')
        unfolding hex_line
        hex_line_is = ap (λ (s : Str). s ++ bytes "\n") (front d _ d' p w)

    pub hex_made : Ok (hex_line (take n z')) ≡ line_answer (bytes_line text)
    unfolding bytes_line line_answer
    hex_made = rw (bytes_stand.is, bytes_stand.there)

  pub hex_nothing : (n : ℕ) → r ≡ Refused n → Err n ≡ line_answer (bytes_line text)
  unfolding bytes_line line_answer
  hex_nothing n e = let a = made_nothing n read e in rw (a.0, a.2)

-- ---- text

module _ (f z z' : List ℕ) (r : Filled) (l : length z ≡ max_path_text) (v : Delivers z (text_for f) z' r) where
  written : Made (text_for f) z z' r
  written = delivered (text_for f) z z' r (λ s e. omega (arith, l, text_bound f s e)) v

  module _ (n : ℕ) (e : r ≡ Length n) where
    text_stands : Stands (text_for f) z z' n
    text_stands = stands n written e

    pub text_room : n ≤ length z'
    text_room = text_stands.room

    pub text_few : length (take n z') ≤ max_path_text
    text_few = omega (arith, length-take-le n z' text_room, text_stands.long, text_bound f text_stands.string text_stands.is)

    pub text_made : Ok (take n z' ++ bytes "\n") ≡ line_answer (text_line f)
    unfolding text_line plain_line line_answer
    text_made = rw (text_stands.is, text_stands.there)

  pub text_nothing : (n : ℕ) → r ≡ Refused n → Err n ≡ line_answer (text_line f)
  unfolding text_line line_answer
  text_nothing n e = let a = made_nothing n written e in rw (a.0, a.2)
