-- The keys in rising order are an index.
use Prim.Native.Nat.{ℕ, ◌≤◌, ◌<◌}
use native.Mathlib.Omega.{arith}
use mathlib.Core.Path.{◌≡◌, sym, subst}
use mathlib.Core.List.{List}
use lib.ListN.{length, get_or}
use Rattle.text_hash.specs.declared.Seed.{Seed}
use Rattle.number_sort.specs.Sorted.{Sorts}
use Rattle.number_sort.proofs.Places.{risen_at, kept_at, from_at}
use Rattle.rule_index.specs.Index.{buckets, KeyedAt, AllKeyed, Bounded, Firsts, Index}
use Rattle.rule_index.proofs.Keying.{key_below}

module _ (seed : Seed) (f starts : List ℕ) (n : ℕ) (made keys : List ℕ) (room : n ≤ length made) (all : AllKeyed seed f starts n made) (S : Sorts n made keys) where
  each_keyed : (j : ℕ) → j < n → (i : ℕ) × (i < n) × KeyedAt seed f starts i (get_or keys j 0)
  each_keyed j l = let o = from_at S room j l in (o.0, o.1, subst (λ (x : ℕ). KeyedAt seed f starts o.0 x) o.2 (all o.0 o.1))

  pub keys_bounded : Bounded keys n
  keys_bounded j l = key_below (each_keyed j l).2

  pub indexed : (first : List ℕ) → length first ≡ buckets → Firsts keys n first → Index seed f starts n keys first
  indexed first e h =
      record {
        room = omega (arith, S.size);
        places = e;
        rises = λ j k l m. risen_at S room j k l m;
        has = λ i l. let o = kept_at S room i l in (o.0, o.1, subst (λ (x : ℕ). KeyedAt seed f starts i x) (sym o.2) (all i l));
        each = each_keyed;
        firsts = h;
      }
