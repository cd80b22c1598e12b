-- The rules of a bucket, in the order of their keys.
use Prim.Native.Nat.{ℕ, suc, ◌+◌, ◌-◌, ◌*◌, ◌/◌, ◌%◌, ◌≤◌, ◌<◌}
use native.Mathlib.Omega.{arith}
use mathlib.Core.Path.{◌≡◌, refl, sym, ap, ◌∙◌, subst}
use mathlib.Core.Bool.{Bool, true, false}
use mathlib.Core.List.{List}
use mathlib.Core.Option.{Option, none, some}
use lib.Dec.{ltb}
use lib.ListN.{get_or}
use borrow.Author.Tests.{eqb-true, ltb-true, ltb-false}
use Rattle.limits.specs.Limits.{max_rules}
use Rattle.text.specs.Test.{whether◌then◌else◌}
use Rattle.text.specs.String.{Str}
use Rattle.text.proofs.Tests.{clash, by}
use Rattle.text.proofs.Order.{more_less}
use Rattle.text_hash.specs.declared.Seed.{Seed}
use Rattle.path.specs.Path.{Path}
use Rattle.table.specs.Table.{Rule}
use Rattle.table_rows.specs.Rules.{rule_in}
use Rattle.verdict.specs.Order.{Numbered, better}
use Rattle.verdict.specs.Rank.{top_rank, rank}
use Rattle.verdict.proofs.Order.{better_rank}
use Rattle.std.specs.Prelude as given
use Rattle.verdict_judge.specs.Place.{rule}
use Rattle.verdict_judge.specs.Best.{numbered, kept}
use Rattle.verdict_judge.specs.declared.rules.Best.{Best}
use Rattle.verdict_judge.proofs.Parts.{keys_below}
use Rattle.verdict_judge.specs.Rules.{Safe}
use Rattle.rule_index.specs.Index.{span, bucket_of, KeyedAt, Index}
use Rattle.rule_index.specs.Found.{is_over, matches_at, over_at, Kept, After, Tried, Scanned, weight_of}
use Rattle.rule_index.proofs.Keying.{key_number, key_weight, key_bucket}

over_some : (r : Rule) (h : Option Numbered) (m : Numbered) → h ≡ some m → is_over r h ≡ better r m.rule
unfolding is_over
over_some r h m e = rw e

-- the rule of a key is one of the rules
pub tried_below : {seed : Seed} {f starts : List ℕ} {n : ℕ} {keys first : List ℕ} → Index seed f starts n keys first → (j : ℕ) → j < n → get_or keys j 0 % max_rules < n
tried_below index j l = let e = index.each j l in rw (key_number e.2) e.1

pub tried_weight : {seed : Seed} {f starts : List ℕ} {n : ℕ} {keys first : List ℕ} → Index seed f starts n keys first → (j : ℕ) → j < n
    → top_rank - 1 - get_or keys j 0 / max_rules % top_rank ≡ rank (rule_in f (get_or starts (get_or keys j 0 % max_rules) 0))
tried_weight {seed} {f} {starts} index j l =
    let e = index.each j l in
    let k = key_weight e.2 ∙ ap (λ (i : ℕ). suc (rank (rule_in f (get_or starts i 0)))) (sym (key_number e.2)) in omega arith

module _ (f starts holders : List ℕ) (n set : ℕ) (user : Str) (mode : ℕ) (origin : Str) (p : Path) (safe : Safe f starts holders n) where
  abbrev Matches : ℕ → Type 0
  Matches i = matches_at f starts holders n set user mode origin p i ≡ true

  abbrev Over : ℕ → Option Numbered → Bool
  Over i b = over_at f starts holders n set user mode origin p i b

  abbrev Keeps : Option Numbered → Type 0
  Keeps b = Kept f starts holders n set user mode origin p b

  abbrev Follows : Option Numbered → Option Numbered → Type 0
  Follows b c = After f starts holders n set user mode origin p b c

  pub after_none : (b : Option Numbered) → Keeps b → Follows b b
  after_none b K = record { kept = K; still = λ k h. h }

  pub not_over : (b c : Option Numbered) → Follows b c → (k : ℕ) → Over k b ≡ false → Over k c ≡ false
  not_over b c A k e = by (Over k c) (λ t. clash (A.still k t) e) (λ t. t)

  module _ (seed : Seed) (keys first : List ℕ) (index : Index seed f starts n keys first) where
    pub weight_small : (b : given.Option Best) → Keeps (kept b) → weight_of b ≤ top_rank
    unfolding weight_of kept numbered
    weight_small given.None K = omega arith
    weight_small (given.Some b) K =
        let s = K.stands _ refl in
        let h = index.has b.found.number.0 s.0 in
        let r : rank (rule b.found.rule) < top_rank = rw s.1 h.2.below.0 in
        let w = b.ranked in omega arith

    module _ (bucket : ℕ) where
      less : (w : ℕ) → w ≤ top_rank → (i x : ℕ) → i < n → (k : KeyedAt seed f starts i x) → x / span ≡ bucket
          → (bucket * top_rank + (top_rank - w)) * max_rules + (max_rules - 1) < x → rank (rule_in f (get_or starts i 0)) + 1 < w
      less w m i x l k e h =
          let u : bucket_of seed (rule_in f (get_or starts i 0)) k.clue ≡ bucket = sym (key_bucket k) ∙ e in
          let v : x ≡ (bucket * top_rank + (top_rank - 1 - rank (rule_in f (get_or starts i 0)))) * max_rules + i =
          k.is ∙ ap (λ (y : ℕ). (y * top_rank + (top_rank - 1 - rank (rule_in f (get_or starts i 0)))) * max_rules + i) u in
          let d = k.below in omega arith

      over_last : (b : given.Option Best) → Keeps (kept b) → (i x : ℕ) → i < n → KeyedAt seed f starts i x → x / span ≡ bucket
          → (bucket * top_rank + (top_rank - weight_of b)) * max_rules + (max_rules - 1) < x → Over i (kept b) ≡ false
      unfolding weight_of kept numbered
      over_last given.None K i x l k e h = let z = less 0 (omega arith) i x l k e h in absurd (omega arith)
      over_last (given.Some b) K i x l k e h =
          let z = less (suc b.weight) (weight_small (given.Some b) K) i x l k e h in
          let w = b.ranked in
          over_some _ _ _ refl
          ∙ better_rank (rule_in f (get_or starts i 0)) (rule b.found.rule) (keys_below f _ (safe.rules.laid i l) safe.rules.short)
          (keys_below b.found.rule.bytes.now b.found.rule.at b.found.rule.inside b.found.rule.short)
          ∙ more_less _ _ _ (omega arith)

      -- the keys before number j were tried
      pub record Going (b best : Option Numbered) (j : ℕ) : Type 0 where
        pub after : Follows b best
        pub done : (i q : ℕ) → i < n → q < n → q < j → KeyedAt seed f starts i (get_or keys q 0) → get_or keys q 0 / span ≡ bucket → Matches i → Over i best ≡ false

      -- there is no key of the bucket
      pub none_there : get_or first bucket 0 ≡ 0 → (b : Option Numbered) → Keeps b → Scanned f starts holders n set user mode origin p seed keys bucket b b
      none_there z b K =
          record { after = after_none b K; done = λ i q l m k e t. let d = (index.firsts q m).0 in absurd (omega (arith, ap (λ (y : ℕ). get_or first y 0) e)) }

      pub going_starts : (from : ℕ) → from ≡ get_or first bucket 0 → (b : Option Numbered) → Keeps b → Going b b (from - 1)
      going_starts from z b K =
          record {
            after = after_none b K;
            done = λ i q l m s k e t. let d = index.firsts q m in absurd (omega (arith, d.0, d.1, ap (λ (y : ℕ). get_or first y 0) e));
          }

      module _ (b best : Option Numbered) (j : ℕ) (G : Going b best j) where
        pub going_on : (c : Option Numbered) → j < n → Tried f starts holders n set user mode origin p (get_or keys j 0 % max_rules) best c → Going b c (j + 1)
        going_on c l T =
            record {
              after = record { kept = T.after.kept; still = λ k h. G.after.still k (T.after.still k h) };
              done =
                  λ i q a m s k e t. by (ltb q j)
                  (λ y. not_over best c T.after i (G.done i q a m (ltb-true q j y) k e t))
                  (λ y. let z : q ≡ j = omega (arith, ltb-false q j y) in
                  let x : get_or keys j 0 % max_rules ≡ i = ap (λ (w : ℕ). get_or keys w 0 % max_rules) (sym z) ∙ key_number k in
                  subst (λ (w : ℕ). Over w c ≡ false) x (T.done (subst Matches (sym x) t)));
            }

        pub going_ends : n ≤ j → Scanned f starts holders n set user mode origin p seed keys bucket b best
        going_ends l = record { after = G.after; done = λ i q a m k e t. G.done i q a m (omega arith) k e t }

      pub going_last : (b : Option Numbered) (best : given.Option Best) (j : ℕ) → Going b (kept best) j → j < n → (last : ℕ)
          → last ≡ (bucket * top_rank + (top_rank - weight_of best)) * max_rules + (max_rules - 1) → last < get_or keys j 0
          → Scanned f starts holders n set user mode origin p seed keys bucket b (kept best)
      going_last b best j G l last z h =
          record {
            after = G.after;
            done =
                λ i q a m k e t. by (ltb q j)
                (λ y. G.done i q a m (ltb-true q j y) k e t)
                (λ y. over_last best G.after.kept i (get_or keys q 0) a k e (omega (arith, index.rises j q (ltb-false q j y) m)));
          }
