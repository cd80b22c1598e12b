-- The best rule for a request, found by trying some of the rules. f, `starts` and `holders` are those of n rules of a loaded table; the request has a user,
-- `set`, the set of his groups, a mode, an origin and a path p.
use Rattle.std.specs.Prelude as given
use Rattle.verdict_judge.specs.declared.rules.Best.{Best}
use Rattle.std.specs.Prelude.{ℕ, suc, ◌+◌, ◌/◌, ◌<◌, ◌≡◌, Bool, true, false, List, ◌∷◌, ◌++◌, get_or}
use Rattle.std.proofs.Math.Option.{Option, none, some}
use Rattle.text.specs.Test.{◌and◌, ◌∈◌}
use Rattle.text.specs.String.{Str}
use Rattle.text_hash.specs.Mix.{place_of}
use Rattle.text_hash.specs.declared.Seed.{Seed}
use Rattle.path.specs.Path.{Path}
use Rattle.table.specs.Table.{Rule}
use Rattle.table_rows.specs.Rules.{rule_in}
use Rattle.verdict.specs.Cover.{covers}
use Rattle.verdict.specs.Order.{Numbered, better}
use Rattle.verdict_concern.specs.Concern.{applies_by}
use Rattle.rule_index.specs.Index.{buckets, span, KeyedAt}

-- the rule is better than what is kept; any is, where nothing is kept
unfoldable pub is_over : Rule → Option Numbered → Bool
is_over r none = true
is_over r (some m) = better r m.rule

module _ (f starts holders : List ℕ) (n set : ℕ) (user : Str) (mode : ℕ) (origin : Str) (p : Path) where
  abbrev pub rule_at : ℕ → Rule
  rule_at i = rule_in f (get_or starts i 0)

  -- rule i matches the request
  unfoldable pub matches_at : ℕ → Bool
  matches_at i = applies_by set (get_or holders i 0) user mode origin (rule_at i) and covers (rule_at i).path p

  abbrev pub over_at : ℕ → Option Numbered → Bool
  over_at i b = is_over (rule_at i) b

  -- what is kept is a rule that matches
  pub record Kept (b : Option Numbered) : Type 0 where
    pub stands : (m : Numbered) → b ≡ some m → (m.number < n) × (m.rule ≡ rule_at m.number) × (matches_at m.number ≡ true)

  -- c is kept after b, and no worse
  pub record After (b c : Option Numbered) : Type 0 where
    pub kept : Kept c
    pub still : (k : ℕ) → over_at k c ≡ true → over_at k b ≡ true

  -- rule i was tried
  pub record Tried (i : ℕ) (b c : Option Numbered) : Type 0 where
    pub after : After b c
    pub done : matches_at i ≡ true → over_at i c ≡ false

  -- the rules of a bucket were
  pub record Scanned (seed : Seed) (keys : List ℕ) (bucket : ℕ) (b c : Option Numbered) : Type 0 where
    pub after : After b c
    pub done : (i j : ℕ)
        → i < n → j < n → KeyedAt seed f starts i (get_or keys j 0) → get_or keys j 0 / span ≡ bucket → matches_at i ≡ true → over_at i c ≡ false

  -- each rule that matches and is better than b has its clue among those
  pub record Searching (seed : Seed) (keys : List ℕ) (clues : List Str) (b : Option Numbered) : Type 0 where
    pub kept : Kept b
    pub left : (i j : ℕ) → i < n → j < n → (k : KeyedAt seed f starts i (get_or keys j 0)) → matches_at i ≡ true → over_at i b ≡ true → k.clue ∈ clues

  -- no rule whose clue has the place c, and that matches, is better than b
  abbrev pub DoneAt : Seed → List ℕ → ℕ → Option Numbered → Type 0
  DoneAt seed keys c b = (i j : ℕ) → i < n → j < n → (k : KeyedAt seed f starts i (get_or keys j 0)) → c ≡ place_of seed buckets k.clue
      → matches_at i ≡ true → over_at i b ≡ false

  -- b is kept, and the places that `seen` marks are done with
  pub record Probing (seed : Seed) (keys : List ℕ) (seen : List Bool) (b : Option Numbered) : Type 0 where
    pub kept : Kept b
    pub done : (c : ℕ) → get_or seen c false ≡ true → DoneAt seed keys c b

  -- the rules with some clues were tried, those that have the place c
  pub record Probed (seed : Seed) (keys : List ℕ) (c : ℕ) (b r : Option Numbered) (seen : List Bool) : Type 0 where
    pub probing : Probing seed keys seen r
    pub goes : (clue : Str) (rest : List Str) → c ≡ place_of seed buckets clue → Searching seed keys (clue ∷ rest) b → Searching seed keys rest r

  -- those with these clues were
  pub record ProbedAll (seed : Seed) (keys : List ℕ) (clues : List Str) (b r : Option Numbered) (seen : List Bool) : Type 0 where
    pub probing : Probing seed keys seen r
    pub goes : (rest : List Str) → Searching seed keys (clues ++ rest) b → Searching seed keys rest r

  -- the best of the rules that match
  pub record Found (b : Option Numbered) : Type 0 where
    pub kept : Kept b
    pub unbeaten : (i : ℕ) → i < n → matches_at i ≡ true → over_at i b ≡ false

-- ---- for programs: the weight of what is kept, its rank + 1, and 0 where nothing is

unfoldable pub weight_of : given.Option Best → ℕ
weight_of given.None = 0
weight_of (given.Some b) = suc b.weight
