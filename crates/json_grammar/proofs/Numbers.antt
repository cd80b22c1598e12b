-- The number reader reads the texts of `Number`, where no digit, point or e follows.
use mathlib.Core.Path.{◌≡◌, refl}
use mathlib.Core.Bool.{Bool, true, false}
use mathlib.Core.List.{List, [], ◌∷◌, ◌++◌}
use mathlib.Core.Option.{some}
use Prim.Native.Nat.{ℕ}
use native.Mathlib.Omega.{arith}
use borrow.Author.Tests.{ne_eqb}
use Rattle.text.specs.Test.{◌or◌}
use Rattle.json_grammar.specs.Abnf.{is, one, ◌then◌, seq, first, second, Opt, absent, present}
use Rattle.json_grammar.specs.Grammar.{DIGIT, digit1_9, e_or_E, minus_or_plus, Digits, Int, Frac, Exp, Number}
use Rattle.json_grammar.specs.Parser.{read_digits, read_int, read_frac, read_exp, read_number}
use Rattle.text.proofs.Tests.{by, or_false_l, or_false_r}
use Rattle.json_grammar.proofs.Basics.{split, empty_handed, starts, lit, in_range, Cut, Reads, Apart, Within, starts_within, reads_within, push, skips, leads, mays, may_one, bound_reads}

-- what would carry a number on: after its fraction, after its whole part and fraction
unfoldable pub pointed : ℕ → Bool
pointed c = is 0x2E c or DIGIT c

unfoldable pub numeric : ℕ → Bool
numeric c = e_or_E c or pointed c

-- ---- the classes

digit_pointed : Within DIGIT pointed
unfolding pointed
digit_pointed c e = or_false_r _ _ e

pointed_numeric : Within pointed numeric
unfolding numeric
pointed_numeric c e = or_false_r _ _ e

digit_numeric : Within DIGIT numeric
digit_numeric c e = digit_pointed c (pointed_numeric c e)

pub digit_unsigned : (c : ℕ) → DIGIT c ≡ true → minus_or_plus c ≡ false
unfolding DIGIT minus_or_plus
digit_unsigned c e = let h = in_range 0x30 0x39 c e in rw (ne_eqb c 0x2D (λ z. omega arith), ne_eqb c 0x2B (λ z. omega arith))

nonzero_unsigned : (c : ℕ) → digit1_9 c ≡ true → is 0x2D c ≡ false
unfolding digit1_9
nonzero_unsigned c e = let h = in_range 0x31 0x39 c e in ne_eqb c 0x2D (λ z. omega arith)

nonzero_not_zero : (c : ℕ) → digit1_9 c ≡ true → is 0x30 c ≡ false
unfolding digit1_9
nonzero_not_zero c e = let h = in_range 0x31 0x39 c e in ne_eqb c 0x30 (λ z. omega arith)

e_unpointed : (c : ℕ) → e_or_E c ≡ true → pointed c ≡ false
unfolding e_or_E pointed DIGIT ◌or◌
e_unpointed c e = by (is 0x65 c) (λ h. lit pointed 0x65 c h refl) (λ h. lit pointed 0x45 c (rw h at e) refl)

e_no_digit : (c : ℕ) → e_or_E c ≡ true → DIGIT c ≡ false
e_no_digit c e = digit_pointed c (e_unpointed c e)

point_no_digit : (c : ℕ) → is 0x2E c ≡ true → DIGIT c ≡ false
unfolding DIGIT
point_no_digit c e = lit DIGIT 0x2E c e refl

-- ---- the parts

digits_read : Reads Digits DIGIT read_digits
unfolding read_digits
digits_read = leads DIGIT (skips DIGIT)

frac_read : Reads (Opt Frac) pointed read_frac
unfolding read_frac pointed
frac_read = mays (is 0x2E) (reads_within digit_pointed digits_read) (λ c e. or_false_l _ _ e)

unsigned : Apart minus_or_plus Digits DIGIT
unsigned v (seq (one {c} e) b) t n = digit_unsigned c e

exp_read : Reads (Opt Exp) numeric read_exp
unfolding read_exp numeric
exp_read = mays e_or_E (reads_within digit_numeric (bound_reads (may_one minus_or_plus) digits_read unsigned)) (λ c e. or_false_l _ _ e)

int_sound : (s t : List ℕ) → read_int s ≡ some t → Cut Int s t
unfolding read_int
int_sound [] t e = empty_handed e
int_sound (c ∷ s) t e =
    split (is 0x30 c) e (λ h q. (c ∷ [], first (one h), push c (cc)))
    (λ h q. split (digit1_9 c) q (λ i o. let r = (skips DIGIT).sound s t o in (c ∷ r.0, second (seq (one i) r.1), push c r.2)) (λ i o. empty_handed o))

int_complete : (v : List ℕ) → Int v → (t : List ℕ) → starts DIGIT t ≡ false → read_int (v ++ t) ≡ some t
unfolding read_int
int_complete v (first (one e)) t n = rw e
int_complete v (second (seq {t = w} (one {c} e) r)) t n = rw (nonzero_not_zero c e, e) ((skips DIGIT).complete w r t n)

int_read : Reads Int DIGIT read_int
int_read = record { sound = int_sound; complete = int_complete }

no_point : Apart pointed (Opt Exp) numeric
no_point v absent t n = starts_within pointed_numeric t n
no_point v (present (seq (one {c} e) b)) t n = e_unpointed c e

no_digit : Apart DIGIT (Opt Frac then Opt Exp) numeric
no_digit v (seq absent absent) t n = starts_within digit_numeric t n
no_digit v (seq absent (present (seq (one {c} e) b))) t n = e_no_digit c e
no_digit v (seq (present (seq (one {c} e) b)) x) t n = point_no_digit c e

no_minus : Apart (is 0x2D) (Int then Opt Frac then Opt Exp) numeric
no_minus v (seq (first (one {c} e)) x) t n = lit (is 0x2D) 0x30 c e refl
no_minus v (seq (second (seq (one {c} e) b)) x) t n = nonzero_unsigned c e

pub number_read : Reads Number numeric read_number
unfolding read_number
number_read = bound_reads (may_one (is 0x2D)) (bound_reads int_read (bound_reads frac_read exp_read no_point) no_digit) no_minus
