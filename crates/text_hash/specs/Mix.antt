-- A hash of strings, four bytes a turn. Nothing but equal strings having equal hashes is needed of it.
use Rattle.std.specs.Prelude.{ℕ, zero, suc, ◌+◌, ◌*◌, ◌/◌, ◌%◌, ◌<◌, length, get_or}
use Rattle.text.specs.String.{Str}
use Rattle.text_hash.specs.declared.Seed.{Seed}

-- factors with which no product passes 64 bits
abbrev pub Small : Seed → Type 0
Small s = (s.first < 2147483648) × (s.second < 2147483648)

-- four bytes from position i on as a number, the lowest first; 0 for those past the end
abbrev pub word_at : Str → ℕ → ℕ
word_at t i = get_or t i 0 + get_or t (i + 1) 0 * 256 + get_or t (i + 2) 0 * 65536 + get_or t (i + 3) 0 * 16777216

-- 32 bits from the middle of a product
abbrev pub middle : ℕ → ℕ
middle p = p / 65536 % 4294967296

-- n turns on x and y, from word number k on
unfoldable pub mix_from : Seed → Str → ℕ → ℕ → ℕ → ℕ → ℕ
mix_from s t zero k x y = y
mix_from s t (suc n) k x y =
    mix_from s t n (k + 1) (middle ((x + word_at t (4 * k)) * s.first)) (middle ((y + middle ((x + word_at t (4 * k)) * s.first)) * s.second))

-- how many words n bytes take
abbrev pub words_in : ℕ → ℕ
words_in n = (n + 3) / 4

-- from h on
unfoldable pub mix : Seed → ℕ → Str → ℕ
mix s h t = mix_from s t (words_in (length t)) 0 0 h

-- a hash of 32 bits times the number of places fits 64
abbrev pub max_places : ℕ
max_places = 65536

-- the hash of a string from a number on that the factors give
abbrev pub hash_of : Seed → Str → ℕ
hash_of s t = mix s (middle (s.first * s.second)) t

-- The place of a string, of `size` places, from the middle of its hash's square: the hash of a short string is nearly linear in its bytes, and
-- some factors would leave many such strings in few places.
unfoldable pub place_of : Seed → ℕ → Str → ℕ
place_of s size t = middle (hash_of s t * hash_of s t) * size / 4294967296
