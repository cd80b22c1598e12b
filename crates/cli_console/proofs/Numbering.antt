-- The lines of a text, by number.
use Prim.Native.Nat.{ℕ, zero, suc, ◌+◌, ◌-◌, ◌≤◌, ◌<◌, min}
use Rattle.std.specs.Prelude.{count_by, ◌==◌, cond, Bool}
use native.Mathlib.Omega.{arith}
use borrow.Author.Tests.{eq-eqb, ne_eqb, eqb-true, eqb-false}
use mathlib.Core.Path.{◌≡◌, refl, sym, ap, ◌∙◌}
use mathlib.Core.List.{[], ◌∷◌}
use lib.Dec.{eqb}
use Rattle.std.proofs.lemmas.List.Sums.{sum_by-cons}
use lib.ListN.{length, drop, take, length-drop, drop_of_length-le}
use Rattle.text.specs.Test.{whether◌then◌else◌}
use Rattle.text.specs.String.{Str}
use Rattle.text.proofs.Tests.{by}
use Rattle.text_search.specs.Search.{until, is}
use Rattle.cli_refusal.specs.Steps.{Next}
use Rattle.cli_console.specs.Quoted.{from_line, unended, line_feed, line_number}
use Rattle.cli_console.specs.Steps.{LineAt}

-- ---- where line n begins

-- past the end there are no more lines
from_none : (n : ℕ) → from_line n [] ≡ []
unfolding from_line until
from_none zero = refl
from_none (suc zero) = refl
from_none (suc (suc n)) = from_none (suc n)

-- one line is passed
turn_once : (s t : Str) (k : ℕ) → 1 < k → t ≡ drop (suc (until (is 10) s)) s → from_line k s ≡ from_line (k - 1) t
unfolding from_line
turn_once s t zero l h = absurd (omega arith)
turn_once s t (suc zero) l h = absurd (omega arith)
turn_once s t (suc (suc k)) l h = let e : suc (suc k) - 1 ≡ suc k = omega arith in rw (e, h)

first_line_lem : (s : Str) (k : ℕ) → k ≤ 1 → from_line k s ≡ s
unfolding from_line
first_line_lem s zero l = refl
first_line_lem s (suc zero) l = refl
first_line_lem s (suc (suc k)) l = absurd (omega arith)

-- line `line` begins at `at`, and so line n is as far from there on
pub record Passing (text : Str) (n at line : ℕ) : Type 0 where
  pub within : at ≤ length text
  pub rest : from_line n text ≡ from_line (n + 1 - line) (drop at text)

pub none_passed : (text : Str) (n : ℕ) → Passing text n 0 1
none_passed text n = let e : n + 1 - 1 ≡ n = omega arith in record { within = omega arith; rest = rw e }

module _ {text : Str} {n at line : ℕ} (g : Passing text n at line) where
  pub line_turn : {next : ℕ} → line < n → Next text at next → Passing text n next (line + 1)
  line_turn {next} l h =
      let e : n + 1 - line - 1 ≡ n + 1 - (line + 1) = omega arith in
      record { within = h.within; rest = g.rest ∙ turn_once (drop at text) (drop next text) (n + 1 - line) (omega arith) h.rest ∙ ap (λ (k : ℕ). from_line k (drop next text)) e }

  pub line_here : n ≤ line → LineAt text n at
  line_here l = record { within = g.within; there = sym (g.rest ∙ first_line_lem (drop at text) (n + 1 - line) (omega arith)) }

  pub line_none : length text ≤ at → LineAt text n at
  line_none l = let e = drop_of_length-le text l in record { within = g.within; there = sym (g.rest ∙ rw e (from_none (n + 1 - line)) ∙ sym e) }

-- ---- its end

same_distance : (at u k end long : ℕ) → end ≡ at + u → k ≡ long - at → at ≤ long → eqb end long ≡ eqb u k
same_distance at u k end long e f l = by (eqb u k)
    (λ t. let z : u ≡ k = eqb-true _ _ t in rw t (eq-eqb end long (omega arith)))
    (λ t. rw t (ne_eqb end long (λ q. eqb-false u k t (omega arith))))

pub unended_is : {text : Str} {n at : ℕ} → LineAt text n at → (end : ℕ) → end ≡ at + until (is 10) (drop at text) → eqb end (length text) ≡ unended (from_line n text)
unfolding unended
unended_is {text} {n} {at} h end e =
    same_distance at (until (is 10) (drop at text)) (length (drop at text)) end (length text) e (length-drop at text) h.within
    ∙ ap (λ (t : Str). eqb (until (is 10) t) (length t)) h.there

-- ---- the number of a line

number_last : (q : ℕ) (s : Str) → (0 < q → 1 < length s → ⊥) → line_number q s ≡ 1
unfolding line_number
number_last zero s h = refl
number_last (suc q) [] h = refl
number_last (suc q) (b ∷ []) h = refl
number_last (suc q) (b ∷ c ∷ s) h = absurd (h (omega arith) (omega arith))

number_more : (q : ℕ) (b : ℕ) (s : Str) → 0 < length s → line_number (suc q) (b ∷ s) ≡ line_feed b + line_number q s
unfolding line_number
number_more q b [] h = absurd (omega arith)
number_more q b (c ∷ s) h = refl

feed_is : (b : ℕ) → line_feed b ≡ cond (b == 10) 1 0
unfolding line_feed whether◌then◌else◌
feed_is b = refl

counted : (p e : ℕ) (s : Str) → e ≡ min p (length s - 1) → count_by (λ (b : ℕ). b == 10) (take e s) + 1 ≡ line_number p s
counted p zero s h = sym (number_last p s (λ a b. let z : ⊥ = omega arith in z))
counted zero (suc e) s h = absurd (omega arith)
counted (suc p) (suc e) [] h = absurd (omega arith)
counted (suc p) (suc e) (b ∷ s) h =
    let f : ℕ → Bool = λ b. b == 10 in
    let more : count_by f (take (suc e) (b ∷ s)) ≡ cond (b == 10) 1 0 + count_by f (take e s) = sum_by-cons (λ (x : ℕ). cond (x == 10) 1 0) b (take e s) in
    rw (number_more p b s (omega arith), feed_is b) (omega (arith, more, counted p e s (omega arith)))

pub number_is : (p : ℕ) (s : Str) → count_by (λ (b : ℕ). b == 10) (take (min p (length s - 1)) s) + 1 ≡ line_number p s
number_is p s = counted p (min p (length s - 1)) s refl
