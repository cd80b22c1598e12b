-- The line of a figure reads as that figure, and no other line does.
use Prim.Native.Nat.{ℕ, zero, suc, ◌+◌, ◌-◌, ◌/◌, ◌%◌, ◌^◌, ◌≤◌, ◌<◌}
use native.Mathlib.Omega.{arith}
use native.Mathlib.Decide.{dec_lt}
use native.Mathlib.Nat.{pow-zero, pow-suc, div-lt_iff_lt-mul}
use borrow.Author.Tests.{lt-ltb, le-leb, ne_eqb, eqb-true, ltb-true}
use Rattle.text.proofs.Tests.{and_l, and_r, by}
use mathlib.Core.Path.{◌≡◌, sym, ap, ◌∙◌}
use mathlib.Core.Bool.{true, false}
use mathlib.Core.List.{[], ◌∷◌, ◌++◌, append_assoc}
use mathlib.Core.Option.{Option, none, some}
use lib.Dec.{eqb, ltb}
use Rattle.text.specs.Test.{◌and◌, whether◌then◌else◌}
use Rattle.text.specs.Byte.{is_digit}
use Rattle.text.specs.String.{Str}
use Rattle.text_make.specs.Decimal.{digits, decimal}
use Rattle.text_make.proofs.Spelling.{left_none, left_some, last_digit}
use Rattle.season.specs.Report.{figure_line}
use Rattle.season_sum.specs.Reading.{followed, continues, number_from, figure_of}
use Rattle.season_sum.proofs.Numbers.{digit, continued}

-- ---- the line of a figure

is_digit_lem : (d : ℕ) → d < 10 → is_digit (48 + d) ≡ true
is_digit_lem d h = rw (le-leb 48 (48 + d) (omega arith), le-leb (48 + d) 57 (omega arith))

-- one more digit
goes_on : (n : ℕ) (s : Str) → 10 ≤ n → n < 2 ^ 64 → number_from (n / 10) ((48 + n % 10) ∷ s) ≡ number_from n s
unfolding number_from continues ◌and◌ whether◌then◌else◌
goes_on n s h l =
    let e : followed (n / 10) (48 + n % 10) ≡ n = omega arith in
    rw (ne_eqb (48 + n % 10) 10 (omega arith), is_digit_lem (n % 10) (omega arith), lt-ltb 0 (n / 10) (omega arith), e, lt-ltb n (2 ^ 64) l)

one_digit_read : (k n : ℕ) (s : Str) → n < 10 → figure_of (digits (suc k) n ++ s) ≡ number_from n s
unfolding figure_of whether◌then◌else◌
one_digit_read k n s h =
    let z : n / 10 ≡ 0 = omega arith in
    let m : n % 10 ≡ n = omega arith in
    let e : 48 + n - 48 ≡ n = omega arith in
    rw (last_digit k n, z, left_none k, m, is_digit_lem n h, e)

last_digit_read : (k n : ℕ) (s : Str) → 10 ≤ n → n < 2 ^ 64 → ((t : Str) → figure_of (digits k (n / 10) ++ t) ≡ number_from (n / 10) t)
    → figure_of (digits (suc k) n ++ s) ≡ number_from n s
last_digit_read k n s h l f =
    rw (last_digit k n, left_some k (n / 10) (omega arith), append_assoc (digits k (n / 10)) _ s) (f ((48 + n % 10) ∷ s) ∙ goes_on n s h l)

digits_read : (k n : ℕ) (s : Str) → n < 10 ^ suc k → n < 2 ^ 64 → figure_of (digits (suc k) n ++ s) ≡ number_from n s
digits_read zero n s h l = one_digit_read 0 n s (omega (arith, h, pow-suc 10 0, pow-zero 10))
digits_read (suc k) n s h l =
    go (dec_lt n 10)
    (λ t. digits_read k (n / 10) t ((div-lt_iff_lt-mul {k = 10} (omega arith)).1 (omega (arith, h, pow-suc 10 (suc k)))) (omega arith))
  where
    go : Dec (n < 10) → ((t : Str) → figure_of (digits (suc k) (n / 10) ++ t) ≡ number_from (n / 10) t) → figure_of (digits (suc (suc k)) n ++ s) ≡ number_from n s
    go (yes m) f = one_digit_read (suc k) n s m
    go (no m) f = last_digit_read (suc k) n s (omega arith) l f

pub line_read : (n : ℕ) (s : Str) → n < 2 ^ 64 → figure_of (figure_line n ++ s) ≡ some (n, s)
unfolding figure_line decimal number_from whether◌then◌else◌
line_read n s l = rw (append_assoc (digits 20 n) _ s) (digits_read 19 n (10 ∷ s) (omega arith) l)

-- ---- a line that reads

-- a digit more than a number has changes nothing
enough : (k n : ℕ) → n < 10 ^ suc k → digits (suc (suc k)) n ≡ digits (suc k) n
enough zero n h =
    let z : n / 10 ≡ 0 = omega (arith, h, pow-suc 10 0, pow-zero 10) in
    rw (last_digit 1 n, last_digit 0 n, z, left_none 1, left_none 0)
enough (suc k) n h =
    go (dec_lt n 10) (enough k (n / 10) ((div-lt_iff_lt-mul {k = 10} (omega arith)).1 (omega (arith, h, pow-suc 10 (suc k)))))
  where
    go : Dec (n < 10) → digits (suc (suc k)) (n / 10) ≡ digits (suc k) (n / 10) → digits (suc (suc (suc k))) n ≡ digits (suc (suc k)) n
    go (yes m) e =
        let z : n / 10 ≡ 0 = omega arith in
        rw (last_digit (suc (suc k)) n, last_digit (suc k) n, z, left_none (suc (suc k)), left_none (suc k))
    go (no m) e =
        rw (last_digit (suc (suc k)) n, last_digit (suc k) n, left_some (suc (suc k)) (n / 10) (omega arith), left_some (suc k) (n / 10) (omega arith), e)

-- the text of a number with a digit after it
followed_text : (n b : ℕ) → continues n b ≡ true → decimal (followed n b) ≡ decimal n ++ (b ∷ [])
unfolding decimal continues
followed_text n b h =
    let c = continued n b h in
    let p : 0 < n = ltb-true 0 n (and_l (ltb 0 n) _ (and_r (is_digit b) _ h)) in
    let q : followed n b / 10 ≡ n = omega (arith, c.0.high) in
    let r : 48 + followed n b % 10 ≡ b = omega (arith, c.0.low, c.0.high) in
    rw (last_digit 19 (followed n b), q, r, left_some 19 n (omega arith), enough 18 n (omega (arith, c.1)))

number_step : (v b : ℕ) (s : Str) (n : ℕ) (t : Str) → (number_from (followed v b) s ≡ some (n, t) → decimal (followed v b) ++ s ≡ figure_line n ++ t)
    → number_from v (b ∷ s) ≡ some (n, t) → decimal v ++ (b ∷ s) ≡ figure_line n ++ t
unfolding number_from whether◌then◌else◌ figure_line
number_step v b s n t f e = by (eqb b 10) ends more
  where
    ends : eqb b 10 ≡ true → decimal v ++ (b ∷ s) ≡ (decimal n ++ (10 ∷ [])) ++ t
    ends h =
        let d : ◌≡◌ {A = Option (ℕ × Str)} (some (v, s)) (some (n, t)) = rw h at e in
        let q : ◌≡◌ {A = ℕ × Str} (v, s) (n, t) = cc in
        rw (eqb-true b 10 h, ap (λ (p : ℕ × Str). p.0) q, ap (λ (p : ℕ × Str). p.1) q) (sym (append_assoc (decimal n) (10 ∷ []) t))

    more : eqb b 10 ≡ false → decimal v ++ (b ∷ s) ≡ (decimal n ++ (10 ∷ [])) ++ t
    more h = by (continues v b) on off
      where
        on : continues v b ≡ true → decimal v ++ (b ∷ s) ≡ (decimal n ++ (10 ∷ [])) ++ t
        on c = sym (append_assoc (decimal v) (b ∷ []) s) ∙ rw (← followed_text v b c) (f (rw (h, c) at e))

        off : continues v b ≡ false → decimal v ++ (b ∷ s) ≡ (decimal n ++ (10 ∷ [])) ++ t
        off c = let d : ◌≡◌ {A = Option (ℕ × Str)} none (some (n, t)) = rw (h, c) at e in let z : ◌≡◌ {A = ℕ} 0 1 = cc in absurd (omega arith)

number_text : (v : ℕ) (s : Str) (n : ℕ) (t : Str) → number_from v s ≡ some (n, t) → decimal v ++ s ≡ figure_line n ++ t
unfolding number_from
number_text v [] n t e = let z : ◌≡◌ {A = ℕ} 0 1 = cc in absurd (omega arith)
number_text v (b ∷ s) n t e = number_step v b s n t (number_text (followed v b) s n t) e

digit_text : (b : ℕ) → is_digit b ≡ true → decimal (b - 48) ≡ b ∷ []
unfolding decimal
digit_text b h =
    let d = digit b h in
    let z : (b - 48) / 10 ≡ 0 = omega (arith, d.low, d.high) in
    let r : 48 + (b - 48) % 10 ≡ b = omega (arith, d.low, d.high) in
    rw (last_digit 19 (b - 48), z, left_none 19, r)

pub line_only : (s : Str) (n : ℕ) (t : Str) → figure_of s ≡ some (n, t) → s ≡ figure_line n ++ t
unfolding figure_of whether◌then◌else◌
line_only [] n t e = let z : ◌≡◌ {A = ℕ} 0 1 = cc in absurd (omega arith)
line_only (b ∷ s) n t e = by (is_digit b) on off
  where
    on : is_digit b ≡ true → b ∷ s ≡ figure_line n ++ t
    on h = rw (digit_text b h) at (number_text (b - 48) s n t (rw h at e))

    off : is_digit b ≡ false → b ∷ s ≡ figure_line n ++ t
    off h = let d : ◌≡◌ {A = Option (ℕ × Str)} none (some (n, t)) = rw h at e in let z : ◌≡◌ {A = ℕ} 0 1 = cc in absurd (omega arith)
