-- The index of the rules: their keys in rising order, and where the first key of each bucket stands.
use Rattle.std.specs.Prelude.{ℕ, suc, ◌+◌, ◌-◌, ◌*◌, ◌/◌, ◌%◌, ◌≤◌, ◌<◌, ◌≡◌, List, length, get_or}
use Rattle.limits.specs.Limits.{max_rules}
use Rattle.text.specs.Test.{whether◌then◌else◌, ◌∈◌}
use Rattle.text.specs.String.{Str}
use Rattle.text_hash.specs.Mix.{place_of}
use Rattle.text_hash.specs.declared.Seed.{Seed}
use Rattle.table.specs.Table.{Rule}
use Rattle.table_rows.specs.Rules.{rule_in}
use Rattle.verdict.specs.Rank.{top_rank, rank}
use Rattle.member_index.specs.Index.{places}
use Rattle.rule_index.specs.Clue.{rule_clues}

-- as many as members have places, so that a user's place serves both
abbrev pub buckets : ℕ
buckets = places

-- how many keys a bucket has
abbrev pub span : ℕ
span = top_rank * max_rules

-- the place of a rule's subject: 0 for a group
unfoldable pub subject_place : Seed → Rule → ℕ
subject_place seed r = whether r.by_group then 0 else place_of seed buckets r.subject

-- the bucket of a rule by a clue
abbrev pub bucket_of : Seed → Rule → Str → ℕ
bucket_of seed r clue = (subject_place seed r + place_of seed buckets clue) % buckets

-- x is the key of rule number i, which is r, by one of its clues
pub record Keyed (seed : Seed) (r : Rule) (i x : ℕ) : Type 0 where
  pub clue : Str
  pub known : clue ∈ rule_clues r.path
  pub below : (rank r < top_rank) × (i < max_rules)
  pub is : x ≡ (bucket_of seed r clue * top_rank + (top_rank - 1 - rank r)) * max_rules + i

abbrev pub KeyedAt : Seed → List ℕ → List ℕ → ℕ → ℕ → Type 0
KeyedAt seed f starts i x = Keyed seed (rule_in f (get_or starts i 0)) i x

-- the keys of the rules in the order of their numbers
abbrev pub AllKeyed : Seed → List ℕ → List ℕ → ℕ → List ℕ → Type 0
AllKeyed seed f starts n keys = (i : ℕ) → i < n → KeyedAt seed f starts i (get_or keys i 0)

-- each key is of a bucket
abbrev pub Bounded : List ℕ → ℕ → Type 0
Bounded keys n = (j : ℕ) → j < n → get_or keys j 0 < buckets * span

-- `first` has for the bucket of each key a place, counted from 1, at or before that key's
abbrev pub Firsts : List ℕ → ℕ → List ℕ → Type 0
Firsts keys n first = (j : ℕ) → j < n → (0 < get_or first (get_or keys j 0 / span) 0) × (get_or first (get_or keys j 0 / span) 0 ≤ suc j)

pub record Index (seed : Seed) (f starts : List ℕ) (n : ℕ) (keys first : List ℕ) : Type 0 where
  pub room : n ≤ length keys
  pub places : length first ≡ buckets
  pub rises : (j k : ℕ) → j ≤ k → k < n → get_or keys j 0 ≤ get_or keys k 0
  pub has : (i : ℕ) → i < n → (j : ℕ) × (j < n) × KeyedAt seed f starts i (get_or keys j 0)
  pub each : (j : ℕ) → j < n → (i : ℕ) × (i < n) × KeyedAt seed f starts i (get_or keys j 0)
  pub firsts : Firsts keys n first
