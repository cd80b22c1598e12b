-- No name of an accepted table is longer than a line shows.
use Prim.Native.Nat.{ℕ, zero, suc, ◌+◌, ◌≤◌}
use native.Mathlib.Omega.{arith}
use borrow.Author.Tests.{eqb-true, ltb-false, le-ltb}
use mathlib.Core.Path.{◌≡◌, refl}
use mathlib.Core.Bool.{false}
use mathlib.Core.List.{List, [], ◌∷◌, ◌++◌, map, map-append}
use lib.Dec.{eqb, ltb}
use lib.ListN.{length, get_or}
use Rattle.limits.specs.Limits.{max_table_text, max_short_string, max_string}
use Rattle.text.specs.Test.{whether◌then◌else◌}
use Rattle.text.specs.String.{Str}
use Rattle.text.specs.Refusal.{clear}
use Rattle.text.proofs.Tests.{by, or_false_l, or_false_r}
use Rattle.path.specs.Refusal.{unsized}
use Rattle.path_read.proofs.Complete.{sized}
use Rattle.table_line.specs.Lines.{lines}
use Rattle.table.specs.Table as table
use Rattle.table.specs.Frame.{Entry, version, group, member, rule}
use Rattle.table.specs.Refusal.{Line, not_hex, unreadable, reads, line_of, Earlier, unsized_short, past_limit, refusal, first, with, after}
use Rattle.table.specs.Text.{unless, judge, check, all_told, table as table_from, table_of}
use Rattle.table.specs.Checked.{Checked}
use Rattle.table.specs.Checked.{Accepted, Refused}
use Rattle.table.proofs.Numbers.{refusal_clear}
use Rattle.table_facts.specs.Facts.{name_of}
use Rattle.table_facts.specs.declared.Row.{Row}
use Rattle.table_facts.specs.declared.Row.TheVariants as row
use Rattle.text_make.specs.Text.{up_to}
use Rattle.cli_answers.specs.Lines.{name_in}
use Rattle.cli_answers.specs.Whole.{WholeNames}

-- ---- short names

abbrev Short : List Str → Type 0
Short names = (i : ℕ) → length (get_or names i []) ≤ max_string

short_none : Short []
short_none i = omega arith

short_more : (names : List Str) (n : Str) → length n ≤ max_string → Short names → Short (names ++ (n ∷ []))
short_more [] n l h zero = l
short_more [] n l h (suc i) = omega arith
short_more (x ∷ names) n l h zero = h zero
short_more (x ∷ names) n l h (suc i) = short_more names n l (λ j. h (suc j)) i

short_id : (s : Str) → unsized_short s ≡ false → length s ≤ max_string
unfolding unsized_short
short_id s h = let l : length s ≤ max_short_string = ltb-false max_short_string (length s) (or_false_r (eqb (length s) 0) _ h) in omega arith

-- ---- what the lines tell

abbrev ids : List table.Rule → List Str
ids rules = map (λ (r : table.Rule). r.id) rules

record Named (b : Earlier) : Type 0 where
  pub groups : Short b.groups
  pub rules : Short (ids b.rules)

with_named : (b : Earlier) (e : Entry) → refusal b (reads e) ≡ clear → Named b → Named (with b e)
unfolding with past_limit
with_named b (version v t) h n = record { groups = n.groups; rules = n.rules }
with_named b (group g) h n =
    let c = refusal_clear b (group g) h in
    record { groups = short_more b.groups g (sized g (or_false_l _ _ c.1)) n.groups; rules = n.rules }
with_named b (member m) h n = record { groups = n.groups; rules = n.rules }
with_named b (rule r) h n =
    let c = refusal_clear b (rule r) h in
    let s = or_false_l _ _ (or_false_l _ _ c.1) in
    let l = short_id r.id (or_false_r (unsized r.subject) _ s) in
    record { groups = n.groups; rules = rw (map-append (λ (x : table.Rule). x.id) b.rules (r ∷ [])) (short_more (ids b.rules) r.id l n.rules) }

after_named : (b : Earlier) (l : Line) → refusal b l ≡ clear → Named b → Named (after b l)
unfolding after
after_named b not_hex h n = n
after_named b unreadable h n = n
after_named b (reads e) h n = with_named b e h n

all_named : (ls : List Str) (k : ℕ) (b : Earlier) → judge k b ls ≡ Accepted → Named b → Named (all_told b ls)
unfolding judge unless all_told whether◌then◌else◌
all_named [] k b j n = n
all_named (l ∷ ls) k b j n =
    by (eqb (refusal b (line_of l)) clear)
    (λ u. all_named ls (k + 1) (after b (line_of l)) (rw u at j) (after_named b (line_of l) (eqb-true _ _ u) n))
    (λ u. let z : Refused (refusal b (line_of l)) k ≡ Accepted = rw u at j in let y : ◌≡◌ {A = ℕ} 0 1 = cc in absurd (omega arith))

-- ---- an accepted table

first_named : Named first
unfolding first
first_named = record { groups = short_none; rules = short_none }

accepted_named : (text : Str) → check text ≡ Accepted → Named (all_told first (lines text))
unfolding check whether◌then◌else◌
accepted_named text e =
    by (ltb max_table_text (length text))
    (λ u. let z : Refused 1 0 ≡ Accepted = rw u at e in let y : ◌≡◌ {A = ℕ} 0 1 = cc in absurd (omega arith))
    (λ u. by (eqb (length text) 0)
    (λ v. let z : Refused 4 1 ≡ Accepted = rw (u, v) at e in let y : ◌≡◌ {A = ℕ} 0 1 = cc in absurd (omega arith))
    (λ v. all_named (lines text) 1 first (rw (u, v) at e) first_named))

name_fits : (text : Str) (x : Row) → length (name_of (check text) (table_of text) x) ≤ max_string
name_fits text x = go (check text) refl x
  where
    go : (c : Checked) → check text ≡ c → (y : Row) → length (name_of c (table_of text) y) ≤ max_string
    go (Refused n l) e y = unfold name_of in omega arith
    go Accepted e (row.Group g) = unfold name_of table_of table_from in (accepted_named text e).groups g.0
    go Accepted e (row.Rule k) = unfold name_of table_of table_from in (accepted_named text e).rules k.0

pub whole : (s : Str) → length s ≤ max_string → up_to max_string s ≡ s
unfolding up_to whether◌then◌else◌
whole s h = rw (le-ltb _ _ h)

pub whole_names : WholeNames
whole_names = record { fits = name_fits; shown = λ text x. unfold name_in in whole _ (name_fits text x) }
