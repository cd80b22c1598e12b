-- The rules with a clue: they stand in two buckets, one for those about the user and one for those about groups.
use Prim.Native.Nat.{ℕ, ◌+◌, ◌-◌, ◌/◌, ◌%◌, ◌<◌}
use native.Mathlib.Omega.{arith}
use mathlib.Core.Path.{◌≡◌, sym, ap, ◌∙◌, subst}
use mathlib.Core.Bool.{Bool, true, false}
use mathlib.Core.Logic.{◌⊎◌, inl, inr}
use mathlib.Core.List.{List}
use lib.Dec.{eqb}
use lib.ListN.{length, get_or, set as store}
use lib.Seq.{get_or-set_other}
use borrow.Author.Tests.{eqb-true, eqb-false}
use Rattle.text.specs.Test.{◌and◌, whether◌then◌else◌}
use Rattle.text.specs.String.{Str}
use Rattle.text.proofs.Tests.{clash, by, and_l, and_r, same→≡}
use Rattle.text_hash.specs.Mix.{place_of}
use Rattle.text_hash.specs.declared.Seed.{Seed}
use Rattle.path.specs.Path.{Path}
use Rattle.table.specs.Table.{Rule}
use Rattle.table_rows.specs.Rules.{rule_in}
use Rattle.table_membership.specs.Set.{has_of}
use Rattle.table_membership.proofs.Bits.{has_none}
use mathlib.Core.Option.{Option}
use Rattle.verdict.specs.Order.{Numbered}
use Rattle.verdict_judge.specs.Rules.{Safe}
use Rattle.verdict_concern.specs.Concern.{concerns_by, applies_by}
use Rattle.rule_index.specs.Index.{buckets, span, subject_place, bucket_of, KeyedAt}
use Rattle.rule_index.specs.Found.{matches_at, over_at, After, Scanned, DoneAt, Probing, Probed}
use Rattle.rule_index.proofs.Clues.{in_cons}
use Rattle.rule_index.proofs.Keying.{key_bucket}
use Rattle.rule_index.proofs.Scanning.{not_over}

either : {A B : Type 0} → (A → B) → A ⊎ B → B
either f (inl a) = f a
either f (inr b) = b

module _ (set g : ℕ) (user : Str) (r : Rule) (e : concerns_by set g user r ≡ true) where
  group_listed : r.by_group ≡ true → has_of set g ≡ true
  unfolding concerns_by whether◌then◌else◌
  group_listed t = rw t at e

  user_named : r.by_group ≡ false → r.subject ≡ user
  unfolding concerns_by whether◌then◌else◌
  user_named t = same→≡ _ _ (rw t at e)

module _ (seed : Seed) (r : Rule) (clue : Str) where
  group_bucket : r.by_group ≡ true → (c : ℕ) → c ≡ place_of seed buckets clue → c < buckets → bucket_of seed r clue ≡ c
  unfolding subject_place whether◌then◌else◌
  group_bucket t c e l = rw (t, sym e) (omega arith)

  user_bucket : r.by_group ≡ false → (user : Str) → r.subject ≡ user → (x c : ℕ) → x ≡ place_of seed buckets user → c ≡ place_of seed buckets clue
      → bucket_of seed r clue ≡ (x + c) % buckets
  unfolding subject_place whether◌then◌else◌
  user_bucket t user e x c d h = rw (t, e, d, h)

module _ (f starts holders : List ℕ) (n set : ℕ) (user : Str) (mode : ℕ) (origin : Str) (p : Path) where
  matched : (i : ℕ) → matches_at f starts holders n set user mode origin p i ≡ true → concerns_by set (get_or holders i 0) user (rule_in f (get_or starts i 0)) ≡ true
  unfolding matches_at applies_by
  matched i e = and_r _ _ (and_r _ _ (and_l _ _ e))

  module _ (safe : Safe f starts holders n) (seed : Seed) (keys : List ℕ) (x c : ℕ) (place : x ≡ place_of seed buckets user) (low : c < buckets) (b own r : Option Numbered)
      (S : Scanned f starts holders n set user mode origin p seed keys ((x + c) % buckets) b own) (A : After f starts holders n set user mode origin p own r)
      (groups : (i j : ℕ) → i < n → j < n → (k : KeyedAt seed f starts i (get_or keys j 0)) → get_or keys j 0 / span ≡ c → has_of set (get_or holders i 0) ≡ true
      → matches_at f starts holders n set user mode origin p i ≡ true → over_at f starts holders n set user mode origin p i r ≡ false) where
    clue_done : DoneAt f starts holders n set user mode origin p seed keys c r
    clue_done i j l m k e t =
        let d = matched i t in
        by (rule_in f (get_or starts i 0)).by_group
        (λ g. groups i j l m k (key_bucket k ∙ group_bucket seed _ k.clue g c e low) (group_listed _ _ _ _ d g) t)
        (λ g. not_over f starts holders n set user mode origin p safe own r A i
        (S.done i j l m k (key_bucket k ∙ user_bucket seed _ k.clue g user (user_named _ _ _ _ d g) x c place e) t))

    clue_probed : (seen : List Bool) → Probing f starts holders n set user mode origin p seed keys seen b → c < length seen
        → Probed f starts holders n set user mode origin p seed keys c b r (store seen c true)
    clue_probed seen P room = record {
      probing = record {
        kept = A.kept;
        done =
            λ d h. by (eqb d c)
            (λ e. subst (λ (y : ℕ). DoneAt f starts holders n set user mode origin p seed keys y r) (sym (eqb-true d c e)) clue_done)
            (λ e i j l m k q t. not_over f starts holders n set user mode origin p safe b r (record { kept = A.kept; still = λ k h. S.after.still k (A.still k h) }) i
            (P.done d (sym (get_or-set_other seen c d true false (eqb-false d c e)) ∙ h) i j l m k q t));
      };
      goes =
          λ clue rest e H. record {
            kept = A.kept;
            left = λ i j l m k t o. either (λ q. clash o (clue_done i j l m k (e ∙ ap (place_of seed buckets) (sym q)) t)) (in_cons (H.left i j l m k t (S.after.still i (A.still i o))));
          };
    }

  -- the place is done with already
  pub seen_before : (seed : Seed) (keys : List ℕ) (seen : List Bool) (c : ℕ) (b : Option Numbered) → Probing f starts holders n set user mode origin p seed keys seen b → get_or seen c false ≡ true
      → Probed f starts holders n set user mode origin p seed keys c b b seen
  seen_before seed keys seen c b P h =
      record {
        probing = P;
        goes =
            λ clue rest e H. record {
              kept = P.kept;
              left = λ i j l m k t o. either (λ q. clash o (P.done c h i j l m k (e ∙ ap (place_of seed buckets) (sym q)) t)) (in_cons (H.left i j l m k t o));
            };
      }

  -- no group lists the user
  pub probed_own : Safe f starts holders n → (seed : Seed) (keys : List ℕ) (x c : ℕ) → x ≡ place_of seed buckets user → c < buckets → set ≡ 0 → (b own : Option Numbered) (seen : List Bool) → Probing f starts holders n set user mode origin p seed keys seen b → c < length seen
      → Scanned f starts holders n set user mode origin p seed keys ((x + c) % buckets) b own
      → Probed f starts holders n set user mode origin p seed keys c b own (store seen c true)
  probed_own safe seed keys x c place low z b own seen P room S =
      clue_probed safe seed keys x c place low b own own S (record { kept = S.after.kept; still = λ k h. h })
      (λ i j l m k e h t. clash h (ap (λ (y : ℕ). has_of y (get_or holders i 0)) z ∙ has_none (get_or holders i 0))) seen P room

  pub probed_both : Safe f starts holders n → (seed : Seed) (keys : List ℕ) (x c : ℕ) → x ≡ place_of seed buckets user → c < buckets → (b own r : Option Numbered) (seen : List Bool) → Probing f starts holders n set user mode origin p seed keys seen b → c < length seen
      → Scanned f starts holders n set user mode origin p seed keys ((x + c) % buckets) b own → Scanned f starts holders n set user mode origin p seed keys c own r
      → Probed f starts holders n set user mode origin p seed keys c b r (store seen c true)
  probed_both safe seed keys x c place low b own r seen P room S T =
      clue_probed safe seed keys x c place low b own r S T.after (λ i j l m k e h t. T.done i j l m k e t) seen P room
