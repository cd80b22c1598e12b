-- Forms read forward: where each part of a frame is shown, so are they all, as printable text.
use mathlib.Core.Path.{◌≡◌, refl, sym, ap, ◌∙◌}
use mathlib.Core.Bool.{Bool, true, false, ◌||◌, not}
use mathlib.Core.List.{[], ◌∷◌, ◌++◌, append-nil}
use Prim.Native.Nat.{ℕ, ◌+◌, ◌-◌, ◌≤◌, ◌<◌}
use native.Mathlib.Omega.{arith}
use borrow.Author.Tests.{eq-eqb, lt-ltb, le-leb, not-true}
use lib.Dec.{eqb}
use lib.ListN.{length, drop, length-drop}
use lib.Seq.{drop-length}
use Rattle.limits.specs.Limits.{max_string}
use Rattle.text.specs.Test.{◌and◌, ◌or◌, whether◌then◌else◌, all}
use Rattle.text.specs.Byte.{is_print}
use Rattle.text.specs.String.{Str, same}
use Rattle.text.specs.Frame.{got, Reader, ◌>>=◌, ret, byte, string}
use Rattle.text.proofs.Tests.{by, clash, and_l, and_r}
use Rattle.text.proofs.Codec.{never_got, then_got, got_move}
use Rattle.path.specs.Path.{Path}
use Rattle.path.specs.Bytes.{path, counted, path_bytes}
use Rattle.path.specs.Refusal.{good_path}
use Rattle.path.proofs.Bytes.{path_took}
use Rattle.path_read.specs.Text.{path_text}
use Rattle.path_read.specs.Calls.{text_for}
use Rattle.path_read.proofs.RoundTrip.{good_bytes, no_stray}
use Rattle.table.specs.Frame.{unknown, code}
use Rattle.readable_parts.specs.Parts.{part_of, rest, of_rest, quoted, hex_text, shown_string, shown_time, shown_path, shown_code, shown_plain, shown}
use Rattle.readable_lines.specs.Form.{parts}
use Rattle.readable_parts.proofs.Showing.{is_plain_lem}
use Rattle.readable_laws.proofs.Printing.{print_both, quoted_print, path_print}

-- reads to printable text, up to t
pub record Reads (form f : Str) (at : ℕ) : Type 0 where
  pub text : Str
  pub is : parts shown form f at ≡ got text (length f)
  pub prints : all is_print text ≡ true

pub part_then : (c : ℕ) (cs f : Str) (at : ℕ) (v : Str) (u : ℕ) → part_of shown c f at ≡ got v u → all is_print v ≡ true → Reads cs f u → Reads (c ∷ cs) f at
unfolding parts ◌>>=◌ ret
part_then c cs f at v u e h r = record { text = v ++ r.text; is = rw (e, r.is); prints = print_both v r.text h r.prints }

pub parts_end : (f : Str) → Reads [] f (length f)
parts_end f = record { text = []; is = unfold parts ret in refl; prints = unfold all in refl }

-- bytes that stand for themselves
abbrev is_letter : ℕ → Bool
is_letter c = eqb c 83 || eqb c 84 || eqb c 80 || eqb c 65 || eqb c 77 || eqb c 75

unfoldable pub plain : Str → Bool
plain [] = true
plain (c ∷ cs) = (not (is_letter c) and is_print c) and plain cs

plain_part : (c : ℕ) (f : Str) (at : ℕ) → is_letter c ≡ false → part_of shown c f at ≡ got (c ∷ []) at
unfolding shown shown_plain ret
plain_part c f at l =
    ap (λ (r : Reader Str). r f at)
    (is_plain_lem shown c (λ e. clash refl (rw e at l)) (λ e. clash refl (rw e at l)) (λ e. clash refl (rw e at l)) (λ e. clash refl (rw e at l)) (λ e. clash refl (rw e at l)) (λ e. clash refl (rw e at l))).0

one_print : (c : ℕ) → is_print c ≡ true → all is_print (c ∷ []) ≡ true
unfolding all ◌and◌
one_print c h = rw h

pub plain_then : (xs cs f : Str) (at : ℕ) → plain xs ≡ true → Reads cs f at → Reads (xs ++ cs) f at
unfolding plain
plain_then [] cs f at h r = r
plain_then (c ∷ xs) cs f at h r =
    let a = and_l (not (is_letter c) and is_print c) _ h in
    part_then c (xs ++ cs) f at (c ∷ []) at (plain_part c f at (not-true (is_letter c) (and_l _ _ a))) (one_print c (and_r (not (is_letter c)) _ a)) (plain_then xs cs f at (and_r _ _ h) r)

string_part : (f : Str) (at : ℕ) (v : Str) (u : ℕ) → string f at ≡ got v u → length v ≤ max_string → part_of shown 83 f at ≡ got (quoted v) u
unfolding part_of shown shown_string ◌>>=◌ ret whether◌then◌else◌
string_part f at v u e h = rw (e, le-leb (length v) max_string h)

pub time_part : (f : Str) (at : ℕ) → length f - at ≡ 8 → part_of shown 84 f at ≡ got (hex_text (drop at f)) (length f)
unfolding part_of shown shown_time whether◌then◌else◌
time_part f at h = rw (eq-eqb (length f - at) 8 h)

bytes_long : (p : Path) → 0 < length (path_bytes p)
unfolding path_bytes counted
bytes_long p = omega arith

path_part : (f : Str) (at : ℕ) (p : Path) → path f at ≡ got p (length f) → good_path p ≡ true → part_of shown 80 f at ≡ got (path_text p) (length f)
unfolding part_of shown shown_path of_rest text_for rest whether◌then◌else◌
path_part f at p e g =
    let t = path_took f at p (length f) e in
    let d : drop at f ≡ path_bytes p = t.same ∙ ap (λ (z : Str). path_bytes p ++ z) (drop-length f) ∙ append-nil (path_bytes p) in
    let l : length f - at ≡ length (path_bytes p) = sym (length-drop at f) ∙ ap length d in
    rw (lt-ltb at (length f) (omega (arith, bytes_long p)), d, good_bytes p g)

module _ (n : ℕ) (a b f : Str) (at w p : ℕ) (e : byte f at ≡ got w p) where
  pub first_word : eqb w n ≡ true → shown_code n a b f at ≡ got a p
  unfolding shown_code ◌>>=◌ ret whether◌then◌else◌
  first_word s = rw (e, s)

  pub second_word : eqb w n ≡ false → eqb w (n + 1) ≡ true → shown_code n a b f at ≡ got b p
  unfolding shown_code ◌>>=◌ ret whether◌then◌else◌
  second_word s r = rw (e, s, r)

code_told : (n k : ℕ) (a b f : Str) (at m u : ℕ) → k ≡ n + 1 → code n k f at ≡ got m u → all is_print a ≡ true → all is_print b ≡ true
    → (v : Str) × (shown_code n a b f at ≡ got v u) × (all is_print v ≡ true)
unfolding code ◌>>=◌ ret whether◌then◌else◌ unknown ◌or◌
code_told n k a b f at m u i e x y =
    let c = then_got (byte f at) _ e in
    by (eqb c.0 n)
    (λ s. got_move (λ d q. (v : Str) × (shown_code n a b f at ≡ got v q) × (all is_print v ≡ true)) (rw s at c.3) (a, first_word n a b f at c.0 c.1 c.2 s, x))
    (λ s. by (eqb c.0 k)
    (λ r. got_move (λ d q. (v : Str) × (shown_code n a b f at ≡ got v q) × (all is_print v ≡ true)) (rw (s, r) at c.3)
    (b, second_word n a b f at c.0 c.1 c.2 s (sym (ap (eqb c.0) i) ∙ r), y))
    (λ r. never_got refl (rw (s, r) at c.3)))

-- a string of a frame that is shown
abbrev pub Well : Str → Type 0
Well s = (length s ≤ max_string) × (all is_print s ≡ true)

module _ (f : Str) where
  pub a_string : (cs : Str) (at : ℕ) (v : Str) (u : ℕ) → string f at ≡ got v u → Well v → Reads cs f u → Reads (83 ∷ cs) f at
  a_string cs at v u e w r = part_then 83 cs f at (quoted v) u (string_part f at v u e w.0) (quoted_print v w.1) r

  pub a_code : (c : ℕ) (n k : ℕ) (a b cs : Str) (at x u : ℕ) → part_of shown c ≡ shown_code n a b → k ≡ n + 1 → code n k f at ≡ got x u → all is_print a ≡ true → all is_print b ≡ true
      → Reads cs f u → Reads (c ∷ cs) f at
  a_code c n k a b cs at x u i j e p q r =
      let t = code_told n k a b f at x u j e p q in
      part_then c cs f at t.0 u (ap (λ (z : Reader Str). z f at) i ∙ t.1) t.2 r

  pub a_path : (at : ℕ) (p : Path) → path f at ≡ got p (length f) → good_path p ≡ true → Reads (80 ∷ []) f at
  a_path at p e g = part_then 80 [] f at (path_text p) (length f) (path_part f at p e g) (path_print p (no_stray p g)) (parts_end f)
