-- The bytes of a line as they are shown.
use Prim.Native.Nat.{ℕ, ◌+◌, ◌<◌}
use native.Mathlib.Numerals.{add-one}
use mathlib.Core.Path.{◌≡◌, refl, sym}
use mathlib.Core.Bool.{true, false}
use mathlib.Core.List.{[], ◌∷◌, ◌++◌, append-nil, append_assoc}
use lib.ListN.{length, take, get_or}
use lib.Seq.{take-suc}
use Rattle.text.specs.Test.{whether◌then◌else◌}
use Rattle.text.specs.Byte.{is_print}
use Rattle.text.specs.String.{Str, bytes, joined}
use Rattle.text.specs.Fill.{put}
use Rattle.readable_parts.specs.Parts.{hex_pair, hex_text}
use Rattle.cli_console.specs.Quoted.{shown, quoted}

-- ---- one byte

pub hex_two : (b : ℕ) → length (hex_text (b ∷ [])) ≡ 2
unfolding hex_text joined hex_pair
hex_two b = refl

pub hex_put : (b : ℕ) → put (0 ∷ 0 ∷ []) 0 (hex_text (b ∷ [])) ≡ hex_text (b ∷ [])
unfolding put hex_text joined hex_pair
hex_put b = refl

pub plain_shown : (b : ℕ) → is_print b ≡ true → shown b ≡ b ∷ []
unfolding shown whether◌then◌else◌
plain_shown b t = rw t

pub hex_shown : (b : ℕ) → is_print b ≡ false → shown b ≡ bytes "\\x" ++ hex_text (b ∷ [])
unfolding shown whether◌then◌else◌
hex_shown b t = rw t

-- ---- byte after byte

pub quoted_none : quoted [] ≡ []
unfolding quoted joined
quoted_none = refl

quoted_then : (s : Str) (b : ℕ) → quoted (s ++ (b ∷ [])) ≡ quoted s ++ shown b
unfolding quoted joined
quoted_then [] b = append-nil (shown b)
quoted_then (x ∷ s) b = rw (quoted_then s b) (sym (append_assoc (shown x) (joined shown s) (shown b)))

pub quoted_more : (s : Str) (i : ℕ) → i < length s → quoted (take i s) ++ shown (get_or s i 0) ≡ quoted (take (i + 1) s)
quoted_more s i h = rw (add-one, take-suc s i 0 h, quoted_then (take i s) (get_or s i 0))

-- parts that stand one after another are shown one after another
pub quoted_parts : (s t : Str) → quoted (s ++ t) ≡ quoted s ++ quoted t
unfolding quoted joined
quoted_parts [] t = refl
quoted_parts (x ∷ s) t = rw (quoted_parts s t) (sym (append_assoc (shown x) (joined shown s) (joined shown t)))
