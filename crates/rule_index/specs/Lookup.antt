-- What the functions take and answer, by what the programs go by.
use Rattle.std.specs.Prelude.{◌≡◌, ℕ, Bool, true, List}
use Rattle.std.proofs.Math.Option.{Option}
use Rattle.text.specs.String.{Str}
use Rattle.text_hash.specs.Mix.{Small, place_of}
use Rattle.verdict.specs.Order.{Numbered}
use Rattle.verdict_compare.specs.Place.{elements}
use Rattle.rule_index.specs.Index.{buckets, Index}
use Rattle.rule_index.specs.Found.{Kept, Tried, Scanned, Probing, Probed, ProbedAll, Found}
use Rattle.rule_index.specs.declared.lookup.Lookup.{Lookup}

module _ (l : Lookup) where
  -- the index is that of the rules
  abbrev pub Indexed : Type 0
  Indexed = Index l.seed l.rules.bytes.now l.rules.starts.now l.rules.count l.keys.now l.first.now

  -- and the place that of the user
  pub record Ready : Type 0 where
    pub index : Indexed
    pub place : l.place ≡ place_of l.seed buckets l.asker.user.now
    pub seed : Small l.seed

  abbrev pub Keeps : Option Numbered → Type 0
  Keeps b = Kept l.rules.bytes.now l.rules.starts.now l.rules.holders.now l.rules.count l.asker.set l.asker.user.now l.asker.mode l.asker.origin.now
      (elements l.asked) b

  abbrev pub Tries : ℕ → Option Numbered → Option Numbered → Type 0
  Tries i b c = Tried l.rules.bytes.now l.rules.starts.now l.rules.holders.now l.rules.count l.asker.set l.asker.user.now l.asker.mode l.asker.origin.now
      (elements l.asked) i b c

  abbrev pub Scans : ℕ → Option Numbered → Option Numbered → Type 0
  Scans bucket b c = Scanned l.rules.bytes.now l.rules.starts.now l.rules.holders.now l.rules.count l.asker.set l.asker.user.now l.asker.mode l.asker.origin.now
      (elements l.asked) l.seed l.keys.now bucket b c

  abbrev pub Goes : List Bool → Option Numbered → Type 0
  Goes seen b = Probing l.rules.bytes.now l.rules.starts.now l.rules.holders.now l.rules.count l.asker.set l.asker.user.now l.asker.mode l.asker.origin.now
      (elements l.asked) l.seed l.keys.now seen b

  abbrev pub Probes : ℕ → Option Numbered → Option Numbered → List Bool → Type 0
  Probes c b r seen = Probed l.rules.bytes.now l.rules.starts.now l.rules.holders.now l.rules.count l.asker.set l.asker.user.now l.asker.mode l.asker.origin.now
      (elements l.asked) l.seed l.keys.now c b r seen

  abbrev pub ProbesAll : List Str → Option Numbered → Option Numbered → List Bool → Type 0
  ProbesAll clues b r seen = ProbedAll l.rules.bytes.now l.rules.starts.now l.rules.holders.now l.rules.count l.asker.set l.asker.user.now
      l.asker.mode l.asker.origin.now
      (elements l.asked) l.seed l.keys.now clues b r seen

  abbrev pub Finds : Option Numbered → Type 0
  Finds b = Found l.rules.bytes.now l.rules.starts.now l.rules.holders.now l.rules.count l.asker.set l.asker.user.now l.asker.mode l.asker.origin.now
      (elements l.asked) b
