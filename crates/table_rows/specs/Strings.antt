-- Rows of a table by arrays of positions: `starts` has the position of each row's string (its length byte) in the decoded bytes f.
use Rattle.std.specs.Prelude.{ℕ, zero, suc, ◌/◌, ◌≤◌, ◌<◌, ◌≡◌, false, List, [], ◌∷◌, length, get_or}
use Rattle.text.specs.Test.{whether◌then◌else◌, twice}
use Rattle.text.specs.String.{Str, same}
use Rattle.table_place.specs.Place.{str_end, str_in}
use Rattle.text_hash.specs.declared.Seed.{Seed}
use Rattle.text_hash.specs.Mix.{mix}

-- what g gives for n numbers from i on
unfoldable pub rows_of : {A : Type 0} → (ℕ → A) → ℕ → ℕ → List A
rows_of g zero i = []
rows_of g (suc n) i = g i ∷ rows_of g n (suc i)

-- n strings, from number i on
unfoldable pub strings_in : List ℕ → List ℕ → ℕ → ℕ → List Str
strings_in f starts n i = rows_of (λ j. str_in f (get_or starts j 0)) n i

-- the first n strings lie within the bytes
abbrev pub Laid : List ℕ → List ℕ → ℕ → Type 0
Laid f starts n = (i : ℕ) → i < n → str_end f (get_or starts i 0) ≤ length f

-- what a lookup among them needs
pub record Listed (f starts : List ℕ) (n : ℕ) : Type 0 where
  pub laid : Laid f starts n
  pub room : n ≤ length starts

-- and where no two of them are alike
pub record Distinct (f starts : List ℕ) (n : ℕ) : Type 0 where
  pub listed : Listed f starts n
  pub distinct : twice same (strings_in f starts n 0) ≡ false

-- the number of the first string that is the name; where none is, how many there are
unfoldable pub place : Str → List Str → ℕ
place name [] = 0
place name (s ∷ ss) = whether same name s then 0 else suc (place name ss)

-- ---- a hash, which only says where to look first

abbrev pub factors : Seed
factors = record { first = 1201626857; second = 1150305587 }

-- how many numbers the hash gives: the upper 13 bits of the 32 of `mix`
abbrev pub hashes : ℕ
hashes = 8192

abbrev pub hash_step : ℕ
hash_step = 4294967296 / hashes

-- a number below `hashes` that equal strings share
unfoldable pub hash_of : Str → ℕ
hash_of s = mix factors 0 s / hash_step
