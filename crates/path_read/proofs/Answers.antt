-- The answers of the calls, and what they leave in the lent buffer.
use mathlib.Core.Path.{◌≡◌, refl, sym, ap, ◌∙◌}
use mathlib.Core.Bool.{Bool, true, false}
use mathlib.Core.List.{List, [], ◌∷◌}
use mathlib.Core.Option.{Option, none, some}
use Prim.Native.Nat.{ℕ, ◌+◌, ◌-◌, ◌/◌, ◌≤◌, ◌<◌}
use native.Mathlib.Omega.{arith}
use borrow.Author.Tests.{le-leb, lt-leb, eq-eqb, ne_eqb}
use lib.Dec.{leb}
use lib.ListN.{length, take, set}
use lib.Seq.{take_at}
use Rattle.limits.specs.Sizes.{max_path_bytes}
use Rattle.text.specs.Test.{◌and◌, whether◌then◌else◌}
use Rattle.text.specs.String.{Str, bytes, same, joined}
use Rattle.text.specs.Frame.{got, unread}
use Rattle.text.specs.Fill.{put}
use Rattle.text.specs.Steps.{Wrote}
use Rattle.text.proofs.Filling.{wrote_byte}
use Rattle.path.specs.Path.{Path}
use Rattle.path.specs.Bytes.{counted, elem_bytes, path_bytes}
use Rattle.path.specs.Spells.{whole}
use Rattle.path_read.specs.TextReader.{elements, read_text}
use Rattle.path_read.specs.Calls.{bytes_for, answer, lent}
use Rattle.path_read.specs.Steps.{max_growth, good_elements, Room, MaybeStored, Stores, Transcribed, filled_up, not_filled}
use Rattle.path_read.specs.Filled.{Length, Refused}
use Rattle.path_read.specs.declared.reader.Stored.{Stored}
use Rattle.std.specs.Prelude.{Some, None}
use Rattle.std.specs.Prelude as program
use Rattle.std.proofs.lemmas.Option.{same_Some, none-some}
use Rattle.path_read.proofs.Storing.{stored_to, stored_not, room_end}
use Rattle.path_read.proofs.Judging.{elements_bad, elements_good}

-- ---- the answer, and the lent bytes

module _ (out : List ℕ) (o : Option Str) where
  pub refused : o ≡ none → (Refused 22 ≡ answer out o) × (out ≡ lent out o)
  unfolding answer lent
  refused e = (rw e, rw e)

  -- the result was stored into the lent bytes themselves
  pub stored_there : (s : Str) → o ≡ some s → length s ≤ length out → (out' : List ℕ) (n : ℕ) → Wrote out 0 s out' n → (Length n ≡ answer out o) × (out' ≡ lent out o)
  unfolding answer lent whether◌then◌else◌
  stored_there s e h out' n w =
      let l : leb (length s) (length out) ≡ true = le-leb (length s) (length out) h in
      let i : n ≡ length s = omega (arith, w.ends) in
      (rw (e, l) (ap Length i), rw (e, l) w.same)

  -- n bytes of `made` are the result
  module _ (s : Str) (e : o ≡ some s) (z made : List ℕ) (n : ℕ) (w : Wrote z 0 s made n) where
    is_length : n ≡ length s
    is_length = omega (arith, w.ends)

    pub unfit : length out < n → (Refused 23 ≡ answer out o) × (out ≡ lent out o)
    unfolding answer lent whether◌then◌else◌
    unfit h =
        let l : leb (length s) (length out) ≡ false = lt-leb (length s) (length out) (omega (arith, is_length)) in
        (rw (e, l), rw (e, l))

    pub made_is : take n made ≡ s
    unfolding put
    made_is = rw w.same (take_at s _ n (sym is_length))

    pub filled : n ≤ length out → (out' : List ℕ) → out' ≡ put out 0 (take n made) → (Length n ≡ answer out o) × (out' ≡ lent out o)
    unfolding answer lent whether◌then◌else◌
    filled h out' i =
        let l : leb (length s) (length out) ≡ true = le-leb (length s) (length out) (omega (arith, is_length)) in
        (rw (e, l) (ap Length is_length), rw (e, l) (i ∙ ap (put out 0) made_is))

-- ---- reading

-- the root
pub root_bytes : (s : Str) (b : Bool) → b ≡ same s (bytes "/") → b ≡ true → bytes_for s ≡ some (0 ∷ [])
unfolding bytes_for read_text whether◌then◌else◌ path_bytes counted joined
root_bytes s b i e = rw (sym i ∙ e)

module _ (out : List ℕ) where
  pub root_unfit : length out ≡ 0 → (Refused 23 ≡ answer out (some (0 ∷ []))) × (out ≡ lent out (some (0 ∷ [])))
  unfolding answer lent whether◌then◌else◌
  root_unfit z = let l : leb 1 (length out) ≡ false = lt-leb 1 (length out) (omega arith) in (rw l, rw l)

  pub root_filled : (length out ≡ 0 → ⊥) → (Length 1 ≡ answer out (some (0 ∷ []))) × (set out 0 0 ≡ lent out (some (0 ∷ [])))
  root_filled z = stored_there out (some (0 ∷ [])) (0 ∷ []) refl (omega (arith, z)) (set out 0 0) 1 (wrote_byte out 0 0 (omega (arith, z)))

-- any other text
module _ (s : Str) (n : same s (bytes "/") ≡ false) where
  empty_bytes : length s ≡ 0 → bytes_for s ≡ none
  unfolding bytes_for read_text whether◌then◌else◌
  empty_bytes z = rw (n, eq-eqb (length s) 0 z)

  module _ (m : length s ≡ 0 → ⊥) where
    no_bytes : good_elements s 0 ≡ unread → bytes_for s ≡ none
    unfolding bytes_for read_text elements whether◌then◌else◌
    no_bytes e = rw (n, ne_eqb (length s) 0 m, elements_bad s e)

    module _ (p : Path) (t : ℕ) (e : good_elements s 0 ≡ got p t) where
      part_bytes : (t ≡ length s → ⊥) → bytes_for s ≡ none
      unfolding bytes_for read_text elements whole whether◌then◌else◌ ◌and◌
      part_bytes h = rw (n, ne_eqb (length s) 0 m, (elements_good s p t e).0, ne_eqb t (length s) h)

      good_bytes : t ≡ length s → bytes_for s ≡ some (path_bytes p)
      unfolding bytes_for read_text elements whole whether◌then◌else◌ ◌and◌
      good_bytes h = let g = elements_good s p t e in rw (n, ne_eqb (length s) 0 m, g.0, eq-eqb t (length s) h, g.1)

  module _ (d d' : List ℕ) where
    pub empty_transcribed : length s ≡ 0 → Transcribed (bytes_for s) d d' None
    empty_transcribed z = rw (empty_bytes z) not_filled

    module _ (m : length s ≡ 0 → ⊥) (r : MaybeStored) (x : Stores max_path_bytes max_growth (counted elem_bytes) good_elements s 0 d 0 d' r) where
      pub none_transcribed : r ≡ None → Transcribed (bytes_for s) d d' None
      none_transcribed e = rw (no_bytes m (stored_not x e)) not_filled

      module _ (v : Stored) (e : r ≡ Some v) where
        pub part_transcribed : (v.next ≡ length s → ⊥) → Transcribed (bytes_for s) d d' None
        part_transcribed h = let u = stored_to x e in rw (part_bytes m u.0 v.next u.1 h) not_filled

        whole_wrote : (p : Path) → Wrote d 0 (counted elem_bytes p) d' v.end → (v.end ≡ length (path_bytes p)) × (d' ≡ put d 0 (path_bytes p))
        unfolding path_bytes
        whole_wrote p w = (omega (arith, w.ends), w.same)

        pub whole_transcribed : v.next ≡ length s → Room max_path_bytes max_growth s 0 d 0 → Transcribed (bytes_for s) d d' (Some v.end)
        whole_transcribed h k =
            let u = stored_to x e in
            let w = whole_wrote u.0 u.2 in
            rw (good_bytes m u.0 v.next u.1 h)
            (filled_up w.0 (room_end max_path_bytes max_growth s 0 d 0 k max_path_bytes max_growth v.next v.end u.3 (omega arith) (omega arith) (omega arith)) w.1)

-- what a transcription tells
pub transcribed_to : {o : Option Str} {d d' : List ℕ} {r : program.Option ℕ} {end : ℕ} → Transcribed o d d' r → r ≡ Some end → (f : Str) × (o ≡ some f) × Wrote d 0 f d' end × (end ≤ length d)
transcribed_to {end = end} (filled_up {f = f} {end = n} l h e) i =
    let k : n ≡ end = same_Some _ _ i in
    (f, refl, record { ends = sym k ∙ l ∙ (let z : length f ≡ 0 + length f = omega arith in z); same = e }, rw k at h)
transcribed_to not_filled i = absurd (none-some _ i)

pub transcribed_not : {o : Option Str} {d d' : List ℕ} {r : program.Option ℕ} → Transcribed o d d' r → r ≡ None → o ≡ none
transcribed_not (filled_up l h e) i = absurd (none-some _ (sym i))
transcribed_not not_filled i = refl
