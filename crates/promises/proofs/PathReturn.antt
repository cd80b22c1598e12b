-- Path text and path bytes come back, kept.
use mathlib.Core.Path.{◌≡◌, refl, ap}
use mathlib.Core.Bool.{Bool, true, false}
use mathlib.Core.List.{List, [], ◌∷◌, ◌++◌}
use mathlib.Core.Option.{Option, none, some}
use Prim.Native.Nat.{ℕ, zero, suc, ◌+◌, ◌*◌, ◌≤◌, ◌<◌}
use native.Mathlib.Omega.{arith}
use borrow.Author.Tests.{le-leb, lt-leb}
use lib.Dec.{ltb}
use lib.ListN.{length, length-append, drop}
use Rattle.limits.specs.Limits.{max_elements}
use Rattle.text.specs.Test.{◌and◌, ◌or◌, whether◌then◌else◌, any, twice}
use Rattle.text.specs.String.{Str, same, joined}
use Rattle.text.specs.Frame.{string_bytes}
use Rattle.text.specs.Fill.{put}
use Rattle.text.proofs.Tests.{neither}
use Rattle.path.specs.Path.{Key, Elem, Path}
use Rattle.path.specs.Bytes.{counted, key_bytes, elem_bytes, path_bytes}
use Rattle.path.specs.Refusal.{unsized, key_over, elem_over, over_limit, outside_name, outside_value, key_stray, elem_stray, stray_byte, half_wild, key_misplaced, elem_misplaced, misplaced, same_name, key_twice, good_path}
use Rattle.path.specs.Spells.{read_bytes}
use Rattle.path.proofs.Bytes.{bytes_reader}
use Rattle.path_read.specs.Text.{escaped, key_text, elem_text, path_text}
use Rattle.path_read.specs.TextReader.{read_text}
use Rattle.path_read.specs.Calls.{answer, lent}
use Rattle.path_read.specs.Filled.{Length, Refused}
use Rattle.path_read.proofs.RoundTrip.{text_reader, reads_one, read_write, write_read, good_text, good_bytes}
use Rattle.path_read.proofs.Longest.{text_length, bytes_length}
use Rattle.promises.specs.PathReturn.{PathReturn, FillPromise}

-- ---- a longest path

unfoldable copies : {A : Type 0} → ℕ → A → List A
copies zero x = []
copies (suc n) x = x ∷ copies n x

-- a name of 64 letters, the first of them b, and the value of 64 times `\`
long_key : ℕ → Key
long_key b = record { name = b ∷ copies 63 97; value = copies 64 92 }

long_elem : Elem
long_elem = record { name = copies 64 97; keys = long_key 97 ∷ long_key 98 ∷ long_key 99 ∷ long_key 100 ∷ [] }

long_path : Path
long_path = copies 16 long_elem

module _ {A : Type 0} (x : A) where
  none_copied : (f : A → Bool) → f x ≡ false → (n : ℕ) → any f (copies n x) ≡ false
  unfolding any copies
  none_copied f e zero = refl
  none_copied f e (suc n) = neither _ _ e (none_copied f e n)

  joined_copies : (w : A → Str) (k : ℕ) → length (w x) ≡ k → (n : ℕ) → length (joined w (copies n x)) ≡ n * k
  unfolding joined copies
  joined_copies w k e zero = omega arith
  joined_copies w k e (suc n) = omega (arith, length-append (w x) (joined w (copies n x)), e, joined_copies w k e n)

long_limits : elem_over long_elem ≡ false
unfolding long_elem long_key copies elem_over unsized key_over any ◌or◌
long_limits = refl

long_bytes : elem_stray long_elem ≡ false
unfolding long_elem long_key copies elem_stray key_stray outside_name outside_value any ◌or◌
long_bytes = refl

long_stars : elem_misplaced long_elem ≡ false
unfolding long_elem long_key copies elem_misplaced key_misplaced half_wild same any ◌or◌ ◌and◌
long_stars = refl

long_keys : twice same_name long_elem.keys ≡ false
unfolding long_elem long_key copies twice same any ◌or◌ ◌and◌
long_keys = refl

long_few : ltb max_elements (length long_path) ≡ false
unfolding long_path copies
long_few = refl

long_good : good_path long_path ≡ true
unfolding long_path good_path over_limit stray_byte misplaced key_twice ◌or◌
long_good = rw (
  long_few,
  none_copied long_elem elem_over long_limits 16,
  none_copied long_elem elem_stray long_bytes 16,
  none_copied long_elem elem_misplaced long_stars 16,
  none_copied long_elem (λ (e : Elem). twice same_name e.keys) long_keys 16,
)

elem_text_lem : length (elem_text long_elem) ≡ 845
unfolding long_elem long_key copies elem_text key_text joined escaped whether◌then◌else◌
elem_text_lem = refl

elem_bytes_lem : length (elem_bytes long_elem) ≡ 586
unfolding long_elem long_key copies elem_bytes counted key_bytes string_bytes joined
elem_bytes_lem = refl

long_text : length (path_text long_path) ≡ 13520
unfolding long_path path_text copies joined
long_text = joined_copies long_elem elem_text 845 elem_text_lem 16

long_written : length (path_bytes long_path) ≡ 9377
unfolding long_path path_bytes counted
long_written = omega (arith, joined_copies long_elem elem_bytes 586 elem_bytes_lem 16)

-- ---- the promise

pub path_return : PathReturn
path_return = record {
  text_reader = text_reader;
  bytes_reader = bytes_reader;
  one_text = λ s p q. reads_one path_text read_text text_reader;
  one_bytes = λ s p q. reads_one path_bytes read_bytes bytes_reader;
  text_back = read_write;
  bytes_back = write_read;
  every_text = good_text;
  every_bytes = good_bytes;
  longest_text = text_length;
  longest_bytes = bytes_length;
  longest_path = (long_path, long_good, long_text, long_written);
}

-- ---- a lent buffer

module _ (out : Str) (result : Option Str) where
  fits : (s : Str) → result ≡ some s → length s ≤ length out → (answer out result ≡ Length (length s)) × (lent out result ≡ s ++ drop (length s) out)
  unfolding answer lent put whether◌then◌else◌
  fits s e h = let i : 0 + length s ≡ length s = omega arith in rw (e, le-leb _ _ h) (refl, ap (λ (k : ℕ). s ++ drop k out) i)

  unspelled : result ≡ none → answer out result ≡ Refused 22
  unfolding answer
  unspelled e = rw e

  too_long : (s : Str) → result ≡ some s → length out < length s → answer out result ≡ Refused 23
  unfolding answer whether◌then◌else◌
  too_long s e h = rw (e, lt-leb _ _ h)

  pub fill_promise : FillPromise out result
  fill_promise = record { fits = fits; unspelled = unspelled; too_long = too_long }
