-- All clues of a path, one after another.
use Prim.Native.Nat.{ℕ, ◌+◌, ◌-◌, ◌≤◌, ◌<◌}
use native.Mathlib.Omega.{arith}
use mathlib.Core.Path.{◌≡◌, refl, sym, ap, ◌∙◌, subst}
use mathlib.Core.Bool.{Bool, true, false}
use mathlib.Core.List.Memᴰ
use mathlib.Core.List.{List, [], ◌∷◌, ◌++◌, append_assoc, append-nil}
use mathlib.Core.Option.{Option, none}
use lib.ListN.{take, drop, get_or, replicate}
use borrow.Author.Tests.{eq-eqb}
use Rattle.text.specs.Test.{◌and◌, whether◌then◌else◌}
use Rattle.text.specs.String.{Str}
use Rattle.text.proofs.Tests.{clash, by, and_r}
use Rattle.text_hash.specs.Mix.{place_of}
use Rattle.text_hash.specs.declared.Seed.{Seed}
use Rattle.path.specs.Path.{Key, Elem, Path}
use Rattle.table_place.specs.Place.{str_end, str_in, key_end, keys_in, elem_in, elem_end, elems_in}
use Rattle.table_place.proofs.Cursor.{keys_nil, elems_nil, elems_cons}
use Rattle.verdict.specs.Cover.{covers}
use Rattle.verdict.specs.Order.{Numbered}
use Rattle.rule_index.specs.Clue.{values_of, values, path_clues}
use Rattle.rule_index.specs.Index.{buckets, Index}
use Rattle.rule_index.specs.Found.{matches_at, over_at, Kept, Searching, Probing, Probed, ProbedAll, Found}
use Rattle.rule_index.proofs.Clues.{covers_clues}
use Rattle.rule_index.proofs.Zeros.{unmarked}
use Rattle.rule_index.proofs.Trying.{none_some}

path_clues_lem : (g : List ℕ) (k p : ℕ) → 0 < k → path_clues (elems_in k g p) ≡ [] ∷ str_in g p ∷ (values (elems_in k g p) ++ [])
unfolding path_clues elem_in
path_clues_lem g k p l =
    ap path_clues (elems_cons g k p l) ∙ ap (λ (vs : List Str). [] ∷ str_in g p ∷ vs) (ap values (sym (elems_cons g k p l)) ∙ sym (append-nil _))

module _ (f starts holders : List ℕ) (n set : ℕ) (user : Str) (mode : ℕ) (origin : Str) (p : Path) (seed : Seed) (keys : List ℕ) where
  abbrev Search : List Str → Option Numbered → Type 0
  Search clues b = Searching f starts holders n set user mode origin p seed keys clues b

  -- what is left of the clues, whatever stands behind them
  abbrev pub Steps : List Str → Option Numbered → List Str → Option Numbered → Type 0
  Steps all b left r = (rest : List Str) → Search (all ++ rest) b → Search (left ++ rest) r

  pub keys_on : (all : List Str) (b best r : Option Numbered) (seen : List Bool) (k : Key) (ks : List Key) (c : ℕ) → c ≡ place_of seed buckets k.value
      → Probed f starts holders n set user mode origin p seed keys c best r seen → Steps all b (values_of (k ∷ ks)) best
      → Steps all b (values_of ks) r
  unfolding values_of
  keys_on all b best r seen k ks c ec P S rest h = P.goes k.value (values_of ks ++ rest) ec (S rest h)

  pub keys_done : (all : List Str) (b best : Option Numbered) (seen : List Bool) → Probing f starts holders n set user mode origin p seed keys seen best
      → Steps all b (values_of []) best → ProbedAll f starts holders n set user mode origin p seed keys all b best seen
  unfolding values_of
  keys_done all b best seen K S = record { probing = K; goes = S }

  pub elems_on : (all : List Str) (b best r : Option Numbered) (seen : List Bool) (e : Elem) (es : Path)
      → ProbedAll f starts holders n set user mode origin p seed keys (values_of e.keys) best r seen → Steps all b (values (e ∷ es)) best
      → Steps all b (values es) r
  unfolding values
  elems_on all b best r seen e es P S rest h =
      P.goes (values es ++ rest) (subst (λ (cs : List Str). Search cs best) (append_assoc (values_of e.keys) (values es) rest) (S rest h))

  pub elems_done : (all : List Str) (b best : Option Numbered) (seen : List Bool) → Probing f starts holders n set user mode origin p seed keys seen best
      → Steps all b (values []) best → ProbedAll f starts holders n set user mode origin p seed keys all b best seen
  unfolding values
  elems_done all b best seen K S = record { probing = K; goes = S }

  -- ---- from no rule and all clues to the best rule and no clue

  path_covered : (i : ℕ) → matches_at f starts holders n set user mode origin p i ≡ true → covers (Rattle.table_rows.specs.Rules.rule_in f (get_or starts i 0)).path p ≡ true
  unfolding matches_at
  path_covered i e = and_r _ _ e

  nothing_kept : Kept f starts holders n set user mode origin p none
  nothing_kept = record { stands = λ m e. none_some e }

  pub nothing_probing : Probing f starts holders n set user mode origin p seed keys (replicate buckets false) none
  nothing_probing = record { kept = nothing_kept; done = λ c h. clash h (unmarked buckets c) }

  pub search_starts : Search (path_clues p) none
  search_starts = record { kept = nothing_kept; left = λ i j l m k t o. covers_clues _ p (path_covered i t) k.known }

  pub search_ends : (first : List ℕ) → Index seed f starts n keys first → (b : Option Numbered) → Search [] b → Found f starts holders n set user mode origin p b
  search_ends first index b S =
      record {
        kept = S.kept;
        unbeaten =
            λ i l t. by (over_at f starts holders n set user mode origin p i b)
            (λ o. let h = index.has i l in absurd (Memᴰ.not-nil (S.left i h.0 l h.1 h.2 t o)))
            (λ o. o);
      }

-- of the path at p of g
module _ (f starts holders : List ℕ) (n set : ℕ) (user : Str) (mode : ℕ) (origin : Str) (g : List ℕ) (k p : ℕ) (seed : Seed) (keys first : List ℕ)
    (index : Index seed f starts n keys first) (b : Option Numbered) (root : ℕ) (er : root ≡ place_of seed buckets [])
    (seen : List Bool)
    (P : Probed f starts holders n set user mode origin (elems_in k g p) seed keys root none b seen) where
  pub found_root : k ≡ 0 → Found f starts holders n set user mode origin (elems_in k g p) b
  unfolding path_clues
  found_root z =
      search_ends f starts holders n set user mode origin (elems_in k g p) seed keys first index b
      (P.goes [] [] er
      (subst (λ (cs : List Str). Searching f starts holders n set user mode origin (elems_in k g p) seed keys cs none) (ap path_clues (elems_nil g k p (omega arith)))
      (search_starts f starts holders n set user mode origin (elems_in k g p) seed keys)))

  pub found : 0 < k → (c r : Option Numbered) (seen' seen'' : List Bool) (name : ℕ) → name ≡ place_of seed buckets (str_in g p)
      → Probed f starts holders n set user mode origin (elems_in k g p) seed keys name b c seen'
      → ProbedAll f starts holders n set user mode origin (elems_in k g p) seed keys (values (elems_in k g p)) c r seen''
      → Found f starts holders n set user mode origin (elems_in k g p) r
  found l c r seen' seen'' name en Q R =
      search_ends f starts holders n set user mode origin (elems_in k g p) seed keys first index r
      (R.goes []
      (Q.goes (str_in g p) (values (elems_in k g p) ++ []) en
      (P.goes [] (str_in g p ∷ (values (elems_in k g p) ++ [])) er
      (subst (λ (cs : List Str). Searching f starts holders n set user mode origin (elems_in k g p) seed keys cs none) (path_clues_lem g k p l)
      (search_starts f starts holders n set user mode origin (elems_in k g p) seed keys)))))

pub no_string : (g : List ℕ) → take (0 - 0) (drop 0 g) ≡ []
no_string g = refl
