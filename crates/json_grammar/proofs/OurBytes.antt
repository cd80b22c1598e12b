-- Our bytes: the strings of our bytes are those of the RFC whose every byte is ours, and whatever has no string has our bytes alone.
use mathlib.Core.Path.{◌≡◌, refl}
use mathlib.Core.Bool.{Bool, true, false, ◌||◌}
use mathlib.Core.List.{List, [], ◌∷◌, ◌++◌}
use Prim.Native.Nat.{ℕ, ◌≤◌}
use native.Mathlib.Omega.{arith}
use lib.Dec.{leb}
use borrow.Author.Tests.{leb-true, le-leb}
use Rattle.text.specs.Test.{all}
use Rattle.text.specs.Byte.{within, is_print}
use Rattle.text.proofs.Tests.{and_l, and_r, both}
use Rattle.json_grammar.specs.Abnf.{is, One, one, seq, first, second, Opt, absent, present, Star, done, more}
use Rattle.json_grammar.specs.Grammar.{white, Ws, Sign, sign, DIGIT, digit1_9, e_or_E, minus_or_plus, Digits, Int, Frac, Exp, Number, unescaped, escapable, HEXDIG, Char, plain, escaped, coded, Quoted, quoted}
use Rattle.json_grammar.specs.JsonText.{our_byte}
use Rattle.json_grammar.specs.Parser.{last_plain}
use Rattle.json_grammar.proofs.Basics.{lit, in_range}

either : {X : Type 0} (a b : Bool) → (a || b) ≡ true → (a ≡ true → X) → (b ≡ true → X) → X
either true b e f g = f refl
either false b e f g = g e

-- every byte is ours
pub data Own : List ℕ → Type 0 where
  nothing : Own []
  byte : {c : ℕ} {s : List ℕ} → our_byte c ≡ true → Own s → Own (c ∷ s)

pub own_all : {s : List ℕ} → Own s → all our_byte s ≡ true
unfolding all
own_all nothing = refl
own_all (byte e p) = both _ _ e (own_all p)

pub all_own : (s : List ℕ) → all our_byte s ≡ true → Own s
unfolding all
all_own [] e = nothing
all_own (c ∷ s) e = byte (and_l _ _ e) (all_own s (and_r (our_byte c) _ e))

pub own_both : {s t : List ℕ} → Own s → Own t → Own (s ++ t)
own_both nothing q = q
own_both (byte e p) q = byte e (own_both p q)

pub own_left : (s t : List ℕ) → Own (s ++ t) → Own s
own_left [] t p = nothing
own_left (c ∷ s) t (byte e p) = byte e (own_left s t p)

pub own_right : (s t : List ℕ) → Own (s ++ t) → Own t
own_right [] t p = p
own_right (c ∷ s) t (byte e p) = own_right s t p

-- a class of bytes that are ours
abbrev Ours : (ℕ → Bool) → Type 0
Ours f = (c : ℕ) → f c ≡ true → our_byte c ≡ true

printed : Ours is_print
unfolding our_byte
printed c e = rw e

white_ours : Ours white
unfolding our_byte
white_ours c e = last_of (is_print c) (white c) e
  where
    last_of : (a b : Bool) → b ≡ true → (a || b) ≡ true
    last_of true b h = refl
    last_of false b h = h

of_range : (lo hi : ℕ) → is_print lo ≡ true → is_print hi ≡ true → Ours (within lo hi)
of_range lo hi p q c e =
    let r = in_range lo hi c e in let x = in_range 0x20 0x7E lo p in let y = in_range 0x20 0x7E hi q in
    printed c (rw (le-leb 0x20 c (omega arith), le-leb c 0x7E (omega arith)))

of_byte : (b : ℕ) → is_print b ≡ true → Ours (is b)
of_byte b p c e = lit our_byte b c e (printed b p)

infixl 30 ◌also◌
◌also◌ : {f g : ℕ → Bool} → Ours f → Ours g → Ours (λ c. f c || g c)
◌also◌ {f} {g} a b c e = either (f c) (g c) e (a c) (b c)

digit_ours : Ours DIGIT
unfolding DIGIT
digit_ours = of_range 0x30 0x39 refl refl

nonzero_ours : Ours digit1_9
unfolding digit1_9
nonzero_ours = of_range 0x31 0x39 refl refl

e_ours : Ours e_or_E
unfolding e_or_E
e_ours = of_byte 0x65 refl also of_byte 0x45 refl

sign_ours : Ours minus_or_plus
unfolding minus_or_plus
sign_ours = of_byte 0x2D refl also of_byte 0x2B refl

hex_ours : Ours HEXDIG
unfolding HEXDIG
hex_ours = of_range 0x30 0x39 refl refl also of_range 0x41 0x46 refl refl also of_range 0x61 0x66 refl refl

escape_ours : Ours escapable
unfolding escapable
escape_ours =
    of_byte _ refl also of_byte _ refl also of_byte _ refl also of_byte _ refl also of_byte _ refl also of_byte _ refl also of_byte _ refl
    also of_byte _ refl

plain_ours : Ours (unescaped last_plain)
unfolding unescaped
plain_ours = of_range 0x20 0x21 refl refl also of_range 0x23 0x5B refl refl also of_range 0x5D 0x7E refl refl

-- ---- what has no strings

module _ {f : ℕ → Bool} (ours : Ours f) where
  one_own : {v : List ℕ} → One f v → Own v
  one_own (one {c} e) = byte (ours c e) nothing

  run_own : {v : List ℕ} → Star (One f) v → Own v
  run_own done = nothing
  run_own (more a r) = own_both (one_own a) (run_own r)

  may_own : {v : List ℕ} → Opt (One f) v → Own v
  may_own absent = nothing
  may_own (present a) = one_own a

point_ours : Ours (is 0x2E)
point_ours = of_byte 0x2E refl

digits_own : {v : List ℕ} → Digits v → Own v
digits_own (seq a r) = own_both (one_own digit_ours a) (run_own digit_ours r)

int_own : {v : List ℕ} → Int v → Own v
int_own (first a) = one_own (of_byte 0x30 refl) a
int_own (second (seq a r)) = own_both (one_own nonzero_ours a) (run_own digit_ours r)

frac_own : {v : List ℕ} → Opt Frac v → Own v
frac_own absent = nothing
frac_own (present (seq a r)) = own_both (one_own point_ours a) (digits_own r)

exp_own : {v : List ℕ} → Opt Exp v → Own v
exp_own absent = nothing
exp_own (present (seq a (seq m r))) = own_both (one_own e_ours a) (own_both (may_own sign_ours m) (digits_own r))

pub number_own : {v : List ℕ} → Number v → Own v
number_own (seq m (seq i (seq f e))) = own_both (may_own (of_byte 0x2D refl) m) (own_both (int_own i) (own_both (frac_own f) (exp_own e)))

pub ws_own : {v : List ℕ} → Ws v → Own v
ws_own m = run_own white_ours m

pub mark_own : (b : ℕ) → is_print b ≡ true → {v : List ℕ} → Sign b v → Own v
mark_own b h (sign m n) = own_both (ws_own m) (byte (printed b h) (ws_own n))

-- ---- strings

abbrev pub rfc_last : ℕ
rfc_last = 0x10FFFF

-- a range that reaches as far as c
reach : (lo hi top c : ℕ) → within lo hi c ≡ true → c ≤ top → within lo top c ≡ true
reach lo hi top c e h = let r = in_range lo hi c e in rw (le-leb lo c r.0, le-leb c top h)

-- the last range of `unescaped`, shorter or longer
unescaped_by : (a b c : ℕ) → unescaped a c ≡ true → c ≤ b → unescaped b c ≡ true
unfolding unescaped
unescaped_by a b c e h = go (within 0x20 0x21 c) (within 0x23 0x5B c) (within 0x5D a c) (within 0x5D b c) e (λ x. reach 0x5D a b c x h)
  where
    go : (p q x y : Bool) → (p || q || x) ≡ true → (x ≡ true → y ≡ true) → (p || q || y) ≡ true
    go true q x y e f = refl
    go false true x y e f = refl
    go false false x y e f = f e

-- our bytes end at 0x7E
white_end_lem : (c : ℕ) → white c ≡ true → c ≤ 0x7E
unfolding white
white_end_lem c e =
    either (is 0x20 c || is 0x09 c || is 0x0A c) (is 0x0D c) e
    (λ e. either (is 0x20 c || is 0x09 c) (is 0x0A c) e
    (λ e. either (is 0x20 c) (is 0x09 c) e (λ h. low 0x20 h refl) (λ h. low 0x09 h refl)) (λ h. low 0x0A h refl)) (λ h. low 0x0D h refl)
  where
    low : (b : ℕ) → is b c ≡ true → leb b 0x7E ≡ true → c ≤ 0x7E
    low b h l = leb-true c 0x7E (lit (λ (x : ℕ). leb x 0x7E) b c h l)

ours_end : (c : ℕ) → our_byte c ≡ true → c ≤ 0x7E
unfolding our_byte
ours_end c e = either (is_print c) (white c) e (λ h. (in_range 0x20 0x7E c h).1) (white_end_lem c)

backslash : {s : List ℕ} → Own s → Own (0x5C ∷ s)
backslash p = byte (printed 0x5C refl) p

char_out : {v : List ℕ} → Char last_plain v → Char rfc_last v × Own v
char_out (plain {c} e) = (plain (unescaped_by last_plain rfc_last c e (let h = ours_end c (plain_ours c e) in omega arith)), byte (plain_ours c e) nothing)
char_out (escaped {c} e) = (escaped e, backslash (byte (escape_ours c e) nothing))
char_out (coded {h} {i} {j} {k} a b c d) = (
  coded a b c d,
  backslash (byte (printed 0x75 refl)
      (byte (hex_ours h a) (byte (hex_ours i b) (byte (hex_ours j c) (byte (hex_ours k d) nothing))))),
)

char_in : {v : List ℕ} → Char rfc_last v → Own v → Char last_plain v
char_in (plain {c} e) (byte h p) = plain (unescaped_by rfc_last last_plain c e (ours_end c h))
char_in (escaped e) p = escaped e
char_in (coded a b c d) p = coded a b c d

chars_out : {v : List ℕ} → Star (Char last_plain) v → Star (Char rfc_last) v × Own v
chars_out done = (done, nothing)
chars_out (more a r) = let x = char_out a in let y = chars_out r in (more x.0 y.0, own_both x.1 y.1)

chars_in : {v : List ℕ} → Star (Char rfc_last) v → Own v → Star (Char last_plain) v
chars_in done p = done
chars_in (more {s} {t} a r) p = more (char_in a (own_left s t p)) (chars_in r (own_right s t p))

mark : Own (0x22 ∷ [])
mark = byte (printed 0x22 refl) nothing

pub quoted_out : {v n : List ℕ} → Quoted last_plain v n → Quoted rfc_last v n × Own v
quoted_out (quoted m) = let x = chars_out m in (quoted x.0, own_both mark (own_both x.1 mark))

pub quoted_in : {v n : List ℕ} → Quoted rfc_last v n → Own v → Quoted last_plain v n
quoted_in (quoted {s} m) p = quoted (chars_in m (own_left s _ (own_right (0x22 ∷ []) _ p)))
