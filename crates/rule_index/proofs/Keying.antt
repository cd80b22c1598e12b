-- The keys of rules.
use Prim.Native.Nat.{ℕ, suc, ◌+◌, ◌-◌, ◌*◌, ◌/◌, ◌%◌, ◌≤◌, ◌<◌}
use native.Mathlib.Omega.{arith}
use mathlib.Core.Path.{◌≡◌, refl, subst}
use mathlib.Core.Bool.{Bool, true, false}
use mathlib.Core.List.{List}
use lib.ListN.{length, get_or, set}
use lib.Seq.{get_or-set_same, get_or-set_other}
use lib.Dec.{eqb, leb}
use borrow.Author.Tests.{ne_eqb, eqb-true, eqb-false, leb-true, leb-false}
use Rattle.text.proofs.Tests.{by}
use Rattle.limits.specs.Limits.{max_rules}
use Rattle.text.specs.Test.{whether◌then◌else◌, ◌∈◌}
use Rattle.text.specs.String.{Str}
use Rattle.text_hash.specs.Mix.{place_of}
use Rattle.text_hash.specs.declared.Seed.{Seed}
use Rattle.text_hash.proofs.Mixing.{place_within}
use Rattle.path.specs.Path.{Path}
use Rattle.table.specs.Table.{Rule}
use Rattle.table_place.specs.Place.{str_in, path_in}
use Rattle.table_rows.specs.Rules.{path_at, rule_in}
use Rattle.verdict.specs.Rank.{top_rank, rank}
use Rattle.verdict_judge.proofs.Parts.{path_in_lem}
use Rattle.rule_index.specs.Clue.{rule_clues}
use Rattle.rule_index.specs.Index.{buckets, span, subject_place, bucket_of, Keyed}

module _ (f : List ℕ) (s : ℕ) (seed : Seed) where
  pub group_place : (rule_in f s).by_group ≡ true → 0 ≡ subject_place seed (rule_in f s)
  unfolding subject_place whether◌then◌else◌
  group_place e = rw e

  user_by : (r : Rule) → r.by_group ≡ false → place_of seed buckets r.subject ≡ subject_place seed r
  unfolding subject_place whether◌then◌else◌
  user_by r e = rw e

  pub user_place : (rule_in f s).by_group ≡ false → place_of seed buckets (str_in f (s + 3)) ≡ subject_place seed (rule_in f s)
  unfolding rule_in
  user_place e = user_by (rule_in f s) e

  subject_by : (t : Bool) (x : Str) → (whether t then 0 else place_of seed buckets x) < buckets
  unfolding whether◌then◌else◌
  subject_by true x = omega arith
  subject_by false x = place_within seed x buckets _ refl (omega arith)

  pub subject_small : (p : ℕ) → p ≡ subject_place seed (rule_in f s) → p < buckets
  unfolding subject_place
  subject_small p e = rw e (subject_by (rule_in f s).by_group (rule_in f s).subject)

  pub key_made : (a w q c p i : ℕ) → a ≡ path_at f s → w ≡ rank (rule_in f s) → rank (rule_in f s) < top_rank → i < max_rules
      → str_in f q ∈ rule_clues (path_in f a) → c ≡ place_of seed buckets (str_in f q) → p ≡ subject_place seed (rule_in f s)
      → Keyed seed (rule_in f s) i (((p + c) % 512 * 17179869184 + (17179869184 - 1 - w)) * 256 + i)
  key_made a w q c p i ea ew l m k ec ep =
      record {
        clue = str_in f q;
        known = subst (λ (es : Path). str_in f q ∈ rule_clues es) (path_in_lem f s a ea) k;
        below = (l, m);
        is = rw (ep, ec, ew);
      }

-- what a key tells
module _ {seed : Seed} {r : Rule} {i x : ℕ} (k : Keyed seed r i x) where
  pub key_number : x % max_rules ≡ i
  key_number = let l = k.below.1 in rw k.is (omega arith)

  pub key_bucket : x / span ≡ bucket_of seed r k.clue
  key_bucket = let l = k.below in rw k.is (omega arith)

  pub key_weight : top_rank - x / max_rules % top_rank ≡ suc (rank r)
  key_weight = let l = k.below in rw k.is (omega arith)

  pub key_below : x < buckets * span
  key_below = let l = k.below in rw k.is (omega arith)

-- ---- where the first key of each bucket stands

-- of the keys from number `from` on
abbrev pub FirstsFrom : List ℕ → ℕ → List ℕ → ℕ → Type 0
FirstsFrom keys n first from =
    (j : ℕ) → from ≤ j → j < n → (0 < get_or first (get_or keys j 0 / span) 0) × (get_or first (get_or keys j 0 / span) 0 ≤ suc j)

module _ (keys : List ℕ) (n : ℕ) (first : List ℕ) (left : ℕ) (some' : 0 < left) (room : get_or keys (left - 1) 0 / span < length first) where
  pub firsts_more : FirstsFrom keys n first left → FirstsFrom keys n (set first (get_or keys (left - 1) 0 / span) left) (left - 1)
  firsts_more h j l m =
      by (eqb (get_or keys j 0 / span) (get_or keys (left - 1) 0 / span))
      (λ t. rw (eqb-true (get_or keys j 0 / span) (get_or keys (left - 1) 0 / span) t, get_or-set_same first (get_or keys (left - 1) 0 / span) left 0 room) (some', omega arith))
      (λ t. let n : get_or keys j 0 / span ≡ get_or keys (left - 1) 0 / span → ⊥ = eqb-false _ _ t in
      rw (get_or-set_other first (get_or keys (left - 1) 0 / span) (get_or keys j 0 / span) left 0 n) (h j (earlier n) m))
    where
      earlier : (get_or keys j 0 / span ≡ get_or keys (left - 1) 0 / span → ⊥) → left ≤ j
      earlier n = by (leb left j) (λ t. leb-true _ _ t) (λ t. let k = leb-false left j t in let z : j ≡ left - 1 = omega arith in absurd (n (rw z)))
