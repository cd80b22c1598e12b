-- The parts of a rule in its bytes, and the order by what is read of them.
use mathlib.Core.Path.{◌≡◌, sym, ap, ◌∙◌}
use mathlib.Core.Bool.{Bool, true, false}
use mathlib.Core.List.{List}
use Prim.Native.Nat.{ℕ, suc, ◌+◌, ◌-◌, ◌≤◌, ◌<◌}
use native.Mathlib.Omega.{arith}
use borrow.Author.Tests.{ne_eqb, lt-ltb, le-ltb, eqb-true, eqb-false}
use lib.Dec.{eqb, ltb}
use lib.ListN.{length, take, drop, get_or}
use Rattle.text.specs.Test.{◌or◌}
use Rattle.text.specs.String.{Str, more, before}
use Rattle.text.proofs.Tests.{by}
use Rattle.text.proofs.Order.{more_same, more_other}
use Rattle.path.specs.Path.{Path}
use Rattle.table.specs.Table.{Rule}
use Rattle.verdict.specs.Cover.{covers}
use Rattle.verdict.specs.Order.{definites, better, earlier}
use Rattle.verdict.specs.Rank.{top_rank, rank_by, rank}
use Rattle.verdict.proofs.Order.{better_rank, unless_small}
use Rattle.table_place.specs.Place.{str_end, str_in, elems_end, elems_in, path_end}
use Rattle.table_place.proofs.Cursor.{str_grows, path_room, length_elems}
use Rattle.table_rows.specs.Rules.{id_at, origin_at, path_at, rule_in, rule_end}
use Rattle.verdict_judge.specs.Rules.{Short}
use Rattle.verdict_judge.specs.Place.{rule}
use Rattle.verdict_judge.specs.declared.rules.Rule as placed
use Rattle.verdict_judge.proofs.Counting.{few_keys}

module _ (f : List ℕ) where
  -- where the rule ends within the bytes, so do its parts
  pub rule_room : (p : ℕ) → rule_end f p ≤ length f
      → (p + 3 < length f) × (str_end f (p + 3) < length f) × (str_end f (id_at f p) < length f) × (path_at f p < length f) × (path_end f (path_at f p) ≤ length f)
  unfolding rule_end path_at origin_at id_at
  rule_room p h =
      let a = str_grows f (p + 3) in
      let b = str_grows f (str_end f (p + 3)) in
      let d = str_grows f (str_end f (str_end f (p + 3))) in
      let e = path_room f (str_end f (str_end f (str_end f (p + 3)))) h in
      (omega arith, omega arith, omega arith, omega arith, h)

  pub id_room : (p i : ℕ) → rule_end f p ≤ length f → i ≡ id_at f p → (i < str_end f i) × (str_end f i < length f)
  id_room p i h e = (str_grows f i, rw e (rule_room p h).2)

  pub id_in : (p i e : ℕ) → i ≡ id_at f p → e ≡ str_end f i → take (e - (i + 1)) (drop (i + 1) f) ≡ (rule_in f p).id
  unfolding rule_in str_in
  id_in p i e h g = rw (g, h)

  pub subject_in : (s d : ℕ) → d ≡ str_end f (s + 3) → take (d - (s + 4)) (drop (s + 4) f) ≡ (rule_in f s).subject
  unfolding rule_in str_in
  subject_in s d e = let i : s + 4 ≡ s + 3 + 1 = omega arith in rw (e, i)

  pub origin_in : (s o d : ℕ) → o ≡ origin_at f s → d ≡ str_end f o → take (d - (o + 1)) (drop (o + 1) f) ≡ (rule_in f s).origin
  unfolding rule_in str_in
  origin_in s o d e h = rw (h, e)

  pub path_in_lem : (s a : ℕ) → a ≡ path_at f s → elems_in (get_or f a 0) f (a + 1) ≡ (rule_in f s).path
  unfolding rule_in
  path_in_lem s a i = rw i

  -- the path's position and its elements lie within the bytes
  pub path_bounds : (s a : ℕ) → rule_end f s ≤ length f → a ≡ path_at f s → (a < length f) × (elems_end (get_or f a 0) f (a + 1) ≤ length f)
  path_bounds s a h i = let r = rule_room s h in rw i (r.3, r.4)

  count_in_lem : (s x : ℕ) → x ≡ path_at f s → length (rule_in f s).path ≡ get_or f x 0
  unfolding rule_in
  count_in_lem s x i = rw i (length_elems f (get_or f (path_at f s) 0) (path_at f s + 1))

  pub rank_in : (s a k : ℕ) → a ≡ path_at f s → k ≡ definites (elems_in (get_or f a 0) f (a + 1))
      → rank_by (get_or f a 0) k (eqb (get_or f (s + 2) 0) 1) (eqb (get_or f s 0) 1) ≡ rank (rule_in f s)
  unfolding rank rule_in
  rank_in s a k h g = rw (g, h, length_elems f)

  -- a rule has fewer definite keys than there are bytes
  pub keys_below : (s : ℕ) → rule_end f s ≤ length f → Short f → definites (rule_in f s).path < 65536
  unfolding rule_in rule_end
  keys_below s h l = let a = few_keys f (get_or f (path_at f s) 0) (path_at f s + 1) in omega arith

  pub count_below : (s a k : ℕ) → rule_end f s ≤ length f → Short f → a ≡ path_at f s → k ≡ definites (elems_in (get_or f a 0) f (a + 1)) → k < 65536
  count_below s a k h l i e = let b = path_bounds s a h i in let d = few_keys f (get_or f a 0) (a + 1) in omega arith

  pub rank_small : (s a : ℕ) → rule_end f s ≤ length f → Short f → a ≡ path_at f s → get_or f a 0 < 65536 → rank (rule_in f s) < top_rank
  unfolding rank rank_by
  rank_small s a h l i c =
      let e = count_in_lem s a i in
      let d = keys_below s h l in
      let x = unless_small (rule_in f s).by_group in
      let y = unless_small (rule_in f s).permit in
      omega arith

  module _ (s a : ℕ) (ps : Path) (t : Bool) (i : a ≡ path_at f s) where
    pub covers_in : t ≡ covers (elems_in (get_or f a 0) f (a + 1)) ps → covers (rule_in f s).path ps ≡ t
    covers_in e = ap (λ (q : Path). covers q ps) (sym (path_in_lem s a i)) ∙ sym e

-- ---- the order

pub earlier_by : (r s : Rule) (x y : Str) → x ≡ r.id → y ≡ s.id → before x y ≡ earlier r s
unfolding earlier
earlier_by r s x y j k = rw (j, k)

-- ranks that differ settle it, and else the ids do
module _ (r s : placed.Rule) where
  better_more : better (rule r) (rule s) ≡ more (rank (rule r)) (rank (rule s)) (before (rule r).id (rule s).id)
  better_more = better_rank (rule r) (rule s) (keys_below r.bytes.now r.at r.inside r.short) (keys_below s.bytes.now s.at s.inside s.short)

  module _ (x y : ℕ) (i : x ≡ rank (rule r)) (j : y ≡ rank (rule s)) where
    pub better_other : (x ≡ y → ⊥) → ltb y x ≡ better (rule r) (rule s)
    better_other n = rw (i, j) (sym (better_more ∙ more_other _ _ _ (rw (i, j) at n)))

    pub better_same : x ≡ y → earlier (rule r) (rule s) ≡ better (rule r) (rule s)
    unfolding earlier
    better_same e = sym (better_more ∙ more_same _ _ _ (sym i ∙ e ∙ j))
