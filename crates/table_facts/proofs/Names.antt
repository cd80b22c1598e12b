-- Names that are copied out of a loaded table.
use mathlib.Core.Path.{◌≡◌, refl, sym, ap, ap₂, ◌∙◌}
use mathlib.Core.List.{List, [], ◌∷◌, map}
use Prim.Native.Nat.{ℕ, zero, suc, ◌+◌, ◌-◌, ◌≤◌, ◌<◌}
use native.Mathlib.Omega.{arith}
use borrow.Author.Tests.{lt-ltb, le-ltb}
use lib.Dec.{ltb}
use lib.ListN.{length, take, drop, get_or, length-drop}
use lib.Seq.{length-take-le}
use Rattle.text.specs.Test.{whether◌then◌else◌}
use Rattle.text.specs.String.{Str}
use Rattle.text.specs.Fill.{put}
use Rattle.text.specs.Steps.{Wrote}
use Rattle.text.proofs.Tests.{by}
use Rattle.text.proofs.Filling.{wrote_nothing}
use Rattle.table_place.specs.Place.{str_end, str_in}
use Rattle.table_rows.specs.Strings.{strings_in, rows_of}
use Rattle.table_rows.specs.Rules.{id_at, origin_at, rule_in}
use Rattle.table_rows.proofs.RuleBytes.{rule_read}
use Rattle.table_rows.proofs.Grow.{rows_length, rows_at, strings_length, strings_at}
use Rattle.table.specs.Table as table
use Rattle.table.specs.Text.{check, table_of}
use Rattle.table.specs.declared.GroupNumber.{GroupNumber}
use Rattle.table.specs.declared.RuleNumber.{RuleNumber}
use Rattle.table_load.specs.declared.loaded.Table.{Table as Loaded}
use Rattle.table_load.specs.Held.{RulesAt}
use Rattle.table_load.specs.Loaded.{Kept, bytes}
use Rattle.table_facts.specs.declared.Row.TheVariants.{Group, Rule}
use Rattle.table_facts.specs.Facts.{name_of, stored_of, ids_in, Identified}

-- ---- storing

pub wrote_none : (d : List ℕ) → Wrote d 0 (stored_of d []) d 0
unfolding stored_of whether◌then◌else◌
wrote_none d = by (ltb (length d) 0) (λ t. rw t (wrote_nothing d 0)) (λ t. rw t (wrote_nothing d 0))

module _ (d : List ℕ) (s : Str) where
  pub wrote_over : length d < length s → Wrote d 0 (stored_of d s) d 0
  unfolding stored_of whether◌then◌else◌
  wrote_over h = rw (lt-ltb _ _ h) (wrote_nothing d 0)

  pub wrote_all : (d' : List ℕ) (n : ℕ) → length s ≤ length d → n ≡ length s → d' ≡ put d 0 s → Wrote d 0 (stored_of d s) d' n
  unfolding stored_of whether◌then◌else◌
  wrote_all d' n h e p = rw (le-ltb _ _ h) (record { ends = omega arith; same = p })

-- ---- a string in bytes

pub string_long : (f : List ℕ) (at : ℕ) → str_end f at ≤ length f → length (str_in f at) ≡ get_or f at 0
unfolding str_in str_end
string_long f at h =
    let e : at + 1 + get_or f at 0 - (at + 1) ≡ get_or f at 0 = omega arith in
    length-take-le (at + 1 + get_or f at 0 - (at + 1)) (drop (at + 1) f) (simp length-drop (omega arith)) ∙ e

-- ---- number k of some strings

beyond : (l : List Str) (k : ℕ) → length l ≤ k → get_or l k [] ≡ []
beyond [] k h = refl
beyond (x ∷ l) zero h = absurd (omega arith)
beyond (x ∷ l) (suc k) h = beyond l k (omega arith)

module _ (f starts : List ℕ) (n k : ℕ) where
  pub number_past : (d : List ℕ) → n ≤ k → Wrote d 0 (stored_of d (get_or (strings_in f starts n 0) k [])) d 0
  number_past d h = rw (beyond (strings_in f starts n 0) k (omega (arith, strings_length f starts n))) (wrote_none d)

  pub number_at : (d d' : List ℕ) (r : ℕ) → k < n → Wrote d 0 (stored_of d (str_in f (get_or starts k 0))) d' r → Wrote d 0 (stored_of d (get_or (strings_in f starts n 0) k [])) d' r
  number_at d d' r h w = rw (strings_at f starts n k h) w

-- ---- the id of rule number k

ids_read : (f starts : List ℕ) (rs : List table.Rule) (i : ℕ) → RulesAt f starts rs i → rows_of (λ j. str_in f (id_at f (get_or starts j 0))) (length rs) i ≡ map (λ (r : table.Rule). r.id) rs
unfolding RulesAt rows_of rule_in
ids_read f starts [] i h = refl
ids_read f starts (r ∷ rs) i h = ap₂ ◌∷◌ (sym (ap (λ (x : table.Rule). x.id) (rule_read f (get_or starts i 0) r h.0.0 h.0.1).is)) (ids_read f starts rs (suc i) h.1)

ids_laid : (f starts : List ℕ) (rs : List table.Rule) (i : ℕ) → RulesAt f starts rs i → (j : ℕ) → j < length rs → origin_at f (get_or starts (i + j) 0) ≤ length f
unfolding RulesAt
ids_laid f starts [] i h j l = absurd (omega arith)
ids_laid f starts (r ∷ rs) i h zero l = let e : i + 0 ≡ i = omega arith in rw e (rule_read f (get_or starts i 0) r h.0.0 h.0.1).id_fits
ids_laid f starts (r ∷ rs) i h (suc j) l = let e : i + suc j ≡ suc i + j = omega arith in rw e (ids_laid f starts rs (suc i) h.1 j (omega arith))

pub id_inside : (f : List ℕ) (s : ℕ) → origin_at f s ≤ length f → id_at f s ≤ length f
unfolding origin_at str_end
id_inside f s h = omega arith

module _ (f starts : List ℕ) (n k : ℕ) where
  pub id_past : (d : List ℕ) → n ≤ k → Wrote d 0 (stored_of d (get_or (ids_in f starts n) k [])) d 0
  unfolding ids_in
  id_past d h = rw (beyond (rows_of (λ j. str_in f (id_at f (get_or starts j 0))) n 0) k (omega (arith, rows_length (λ j. str_in f (id_at f (get_or starts j 0))) n 0))) (wrote_none d)

  pub id_at_lem : (d d' : List ℕ) (r : ℕ) → k < n → Wrote d 0 (stored_of d (str_in f (id_at f (get_or starts k 0)))) d' r → Wrote d 0 (stored_of d (get_or (ids_in f starts n) k [])) d' r
  unfolding ids_in
  id_at_lem d d' r h w = let e : 0 + k ≡ k = omega arith in rw (rows_at (λ j. str_in f (id_at f (get_or starts j 0))) n 0 k [] h, e) w

-- ---- of a loaded table

module _ {text : List ℕ} {t : Loaded} (K : Kept text t) where
  pub group_name : (g : GroupNumber) → get_or (strings_in (bytes t) t.groups t.counts.groups 0) g.0 [] ≡ name_of (check text) (table_of text) (Group g)
  unfolding name_of
  group_name g = rw K.accepts (ap (λ (l : List Str). get_or l g.0 []) (sym K.holds.groups_are))

  rules_long : length (table_of text).rules ≡ t.counts.rules
  rules_long = K.holds.rules_count

  pub identified : Identified (bytes t) t.starts t.counts.rules
  identified = record {
    laid = λ i h. let z : 0 + i ≡ i = omega arith in rw z at (ids_laid (bytes t) t.starts (table_of text).rules 0 K.holds.rules_are i (omega (arith, rules_long)));
    room = omega (arith, K.holds.long.of_starts, K.holds.few.2);
  }

  pub rule_id : (k : RuleNumber) → get_or (ids_in (bytes t) t.starts t.counts.rules) k.0 [] ≡ name_of (check text) (table_of text) (Rule k)
  unfolding name_of ids_in
  rule_id k = rw K.accepts (ap (λ (l : List Str). get_or l k.0 []) (rw rules_long at (ids_read (bytes t) t.starts (table_of text).rules 0 K.holds.rules_are)))
