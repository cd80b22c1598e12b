-- Looking up a line.
use Prim.Native.Nat.{ℕ, suc, ◌+◌, ◌-◌, ◌≤◌, ◌<◌}
use native.Mathlib.Omega.{arith}
use borrow.Author.Tests.{leb-true}
use mathlib.Core.Path.{◌≡◌, refl, sym, ap, ◌∙◌}
use mathlib.Core.Bool.{true, false}
use mathlib.Core.List.{List, [], ◌∷◌}
use lib.Dec.{eqb, leb}
use lib.ListN.{length, take, drop, length-drop, drop_of_length-le}
use lib.Seq.{drop-drop, take_all, length-take-le}
use Rattle.text.specs.Test.{◌and◌, whether◌then◌else◌}
use Rattle.text.specs.String.{Str}
use Rattle.text.proofs.Tests.{by}
use Rattle.text_search.specs.Search.{until, is}
use Rattle.text_search.proofs.Searching.{until_fits}
use Rattle.text_affix.specs.Affix.{begins}
use Rattle.cli_refusal.specs.Entry.{up_to_line, entry}
use Rattle.cli_refusal.specs.Steps.{Next, EntryAt}

-- ---- where the next line begins

module _ (text : Str) (at end : ℕ) (h : at < length text) (e : end ≡ at + until (is 10) (drop at text)) where
  pub next_found : end < length text → Next text at (end + 1)
  next_found l = record {
    past = omega (arith, e);
    within = omega arith;
    rest = let i : end + 1 ≡ at + suc (until (is 10) (drop at text)) = omega (arith, e) in rw (i, ← drop-drop (suc (until (is 10) (drop at text))) at text);
  }

  pub next_none : length text ≤ end → Next text at end
  next_none l =
      let u = until_fits (is 10) (drop at text) in
      let k = length-drop at text in
      record {
        past = omega arith;
        within = omega arith;
        rest = drop_of_length-le text l ∙ sym (drop_of_length-le (drop at text) {i = suc (until (is 10) (drop at text))} (omega arith));
      }

-- ---- the entry of a key

module _ (key : Str) where
  skip : (s : Str) → entry false key s ≡ entry true key (drop (suc (until (is 10) s)) s)
  unfolding entry until ◌and◌ whether◌then◌else◌
  skip [] = refl
  skip (b ∷ s) = by (eqb b 10) (λ u. rw u) (λ u. rw u (skip s))

  unmatched : (s : Str) → begins key s ≡ false → entry true key s ≡ entry false key s
  unfolding entry ◌and◌ whether◌then◌else◌
  unmatched [] h = refl
  unmatched (b ∷ s) h = rw h

  matched : (s : Str) → 0 < length s → begins key s ≡ true → entry true key s ≡ up_to_line (drop (length key) s)
  unfolding entry ◌and◌ whether◌then◌else◌
  matched [] l h = absurd (omega arith)
  matched (b ∷ s) l h = rw h

  begins_long : (s : Str) → begins key s ≡ true → length key ≤ length s
  unfolding begins ◌and◌
  begins_long s h = by (leb (length key) (length s)) (λ u. leb-true _ _ u) (λ u. let z : false ≡ true = rw u at h in absurd (let y : ◌≡◌ {A = ℕ} 0 1 = cc in omega arith))

  -- the search has come to `at`
  module _ (text : Str) (at : ℕ) (g : entry true key text ≡ entry true key (drop at text)) where
    -- as a part of the text
    whole : take (length text - at) (drop at text) ≡ drop at text
    whole = take_all (length text - at) (drop at text) (omega (arith, length-drop at text))

    pub entry_found : at < length text → begins key (take (length text - at) (drop at text)) ≡ true → EntryAt text key (at + length key)
    entry_found l i =
        let h : begins key (drop at text) ≡ true = rw whole at i in
        let k = begins_long (drop at text) h in
        let m = length-drop at text in
        record { within = omega arith; there = ap up_to_line (sym (drop-drop (length key) at text)) ∙ sym (g ∙ matched (drop at text) (omega arith) h) }

    pub entry_turn : (next : ℕ) → begins key (take (length text - at) (drop at text)) ≡ false → Next text at next → entry true key text ≡ entry true key (drop next text)
    entry_turn next i n =
        let h : begins key (drop at text) ≡ false = rw whole at i in
        g ∙ unmatched (drop at text) h ∙ skip (drop at text) ∙ sym (ap (entry true key) n.rest)

    pub entry_none : at ≤ length text → length text ≤ at → EntryAt text key at
    unfolding up_to_line until entry
    entry_none l m = record { within = l; there = sym (g ∙ rw (drop_of_length-le text m) refl) ∙ refl }

pub entry_end : (text key : Str) (from end : ℕ) → EntryAt text key from → end ≡ from + until (is 10) (drop from text) → (from ≤ end) × (end ≤ length text)
entry_end text key from end h i =
    let u = until_fits (is 10) (drop from text) in let k = length-drop from text in let w = h.within in (omega arith, omega arith)

-- what stands at `from`, up to the LF at `end`
module _ (text key : Str) (from end : ℕ) (h : EntryAt text key from) (i : end ≡ from + until (is 10) (drop from text)) where
  pub entry_is : take (end - from) (drop from text) ≡ entry true key text
  unfolding up_to_line
  entry_is = let j : end - from ≡ until (is 10) (drop from text) = omega (arith, i) in rw j h.there

  pub entry_short : length (take (end - from) (drop from text)) ≤ length text
  entry_short =
      let j = entry_end text key from end h i in
      omega (arith, length-take-le (end - from) (drop from text) (omega (arith, length-drop from text, j)), j)
