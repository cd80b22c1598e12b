-- What the programs answer step by step: the header lines by bucket, a chain of lines for each, from the last to the first. Any bucket would do: only
-- that equal names share one is used. A bucket is a place of the project's hash, whose factors are drawn from the input.
use Rattle.std.specs.Prelude.{◌≡◌, Bool, false, List, [], ◌∷◌, ℕ, ◌+◌, ◌*◌, ◌/◌, ◌≤◌, ◌<◌, eqb, length, get_or}
use Rattle.std.proofs.Math.Option.{some}
use Rattle.limits.specs.Limits.{max_header_lines}
use Rattle.text.specs.Test.{only, or_nothing}
use Rattle.text.specs.String.{Str}
use Rattle.text.specs.Frame.{part}
use Rattle.text_hash.specs.Mix.{Small, place_of}
use Rattle.text_hash.specs.declared.Seed.{Seed}
use Rattle.rpc.specs.Request.{Line, cut_at, line_of, headers_of, bad_headers}
use Rattle.rpc_request.specs.Steps.{Cut}

-- how many buckets; any number would do
abbrev pub bucket_count : ℕ
bucket_count = 256

-- so many bytes of header lines are few
abbrev pub few_bytes : ℕ
few_bytes = max_header_lines / 16

-- how many links so many bytes need: a line has three bytes or more, so no two lines have the same third of where they start
abbrev pub places_for : ℕ → ℕ
places_for n = n / 3 + 1

-- a number that equal names share
abbrev pub bucket_of : Seed → Str → ℕ
bucket_of seed name = place_of seed bucket_count name

-- the name of a line has the bucket b
unfoldable pub in_bucket : Seed → ℕ → Line → Bool
in_bucket seed b x = eqb (bucket_of seed x.name) b

-- the line x stands at p, and its LF at e
pub record LineAt (h : Str) (p e : ℕ) (x : Line) : Type 0 where
  pub cut : Cut 10 h p e
  pub inside : e < length h
  pub is : line_of (cut_at 58 (part h p e)) ≡ some x

-- the lines l, the last first, that `before` links from p on; the first of them ends before `top`
pub data Chain (h before : Str) : ℕ → ℕ → List Line → Type 0 where
  stop : {top p : ℕ} → length h ≤ p → Chain h before top p []
  link : {top p e : ℕ} {x : Line} {l : List Line}
      → LineAt h p e x → e < top → Chain h before p (get_or before (p / 3) 0) l → Chain h before top p (x ∷ l)

-- l, the last first, in front of r
unfoldable pub onto : List Line → List Line → List Line
onto [] r = r
onto (x ∷ l) r = onto l (x ∷ r)

-- good header lines, and the two arrays of their index before the first of them is in it
pub record Blank (seed : Seed) (h last before : Str) : Type 0 where
  pub good : bad_headers h ≡ false
  pub small : Small seed
  pub buckets : length last ≡ bucket_count
  pub places : length h ≤ 3 * length before
  pub empty : (b : ℕ) → b < bucket_count → get_or last b 0 ≡ max_header_lines

-- a chain for each bucket, from what `last` has for it
pub record Indexed (seed : Seed) (h last before : Str) : Type 0 where
  pub back : List Line
  pub is : or_nothing (headers_of h) ≡ onto back []
  pub short : length h ≤ max_header_lines
  pub small : Small seed
  pub buckets : length last ≡ bucket_count
  pub places : length h ≤ 3 * length before
  pub chains : (b : ℕ) → b < bucket_count → Chain h before (length h) (get_or last b 0) (only (in_bucket seed b) back)
