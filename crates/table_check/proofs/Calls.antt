-- The calls on a table text.
use mathlib.Core.Path.{◌≡◌, refl, sym, ap, ◌∙◌, subst}
use mathlib.Core.List.{List, [], ◌∷◌}
use Prim.Native.Nat.{ℕ}
use native.Mathlib.Omega.{arith}
use borrow.Author.Tests.{eq-eqb, ne_eqb}
use lib.Dec.{eqb}
use lib.Count.{ones, count_trailing_zeros}
use lib.ListN.{length, take}
use lib.Seq.{length-take-le}
use Rattle.limits.specs.Limits.{max_groups}
use Rattle.text.specs.Test.{whether◌then◌else◌}
use Rattle.text.specs.String.{Str}
use Rattle.table_rows.proofs.Grow.{rows_length, strings_length}
use Rattle.table.specs.Text.{check, table_of}
use Rattle.table.specs.Group.{memberships, groups_of, counted, bad_user, count_for, group_count}
use Rattle.table.specs.Checked as checked
use Rattle.table.specs.Checked.{checked_as}
use Rattle.table.specs.Counted.{Counted, Count, NoGroup, Declined}
use Rattle.table_keep.specs.Held.{member_in, members_in, Owned}
use Rattle.table_load.specs.declared.row.Counts.{Counts}
use Rattle.std.specs.Prelude.{Result, Ok, Err}
use Rattle.refusal.specs.Refusal.{number}
use Rattle.refusal.specs.declared.fault.Fault.{Fault}
use Rattle.table_load.specs.declared.loaded.Table.{Table}
use Rattle.table_load.specs.Loaded.{Kept, Outcome, bytes}
use Rattle.table_membership.specs.Set.{UserGroups, Members, set_in, count_in}
use Rattle.table_check.specs.declared.Seen.{Seen}
use Rattle.table_check.specs.Look.{TableTold, Looked}
use Rattle.table_membership.proofs.Sets.{has_lists, count_is, first_is}

module _ (text : Str) (r : Result (Unit {0}) Fault) (t : Table) (o : Outcome text r t) where
  pub outcome_refused : (f : Fault) → r ≡ Err f → checked.Refused (number f.refusal) f.line ≡ check text
  unfolding Outcome
  outcome_refused f e = sym (subst (λ (x : Result (Unit {0}) Fault). Outcome text x t) e o)

  pub outcome_kept : {u : Unit {0}} → r ≡ Ok u → Kept text t
  unfolding Outcome
  outcome_kept e = subst (λ (x : Result (Unit {0}) Fault). Outcome text x t) e o

pub outcome_checked : (text : Str) (r : Result (Unit {0}) Fault) (t : Table) → Outcome text r t → checked_as r ≡ check text
unfolding Outcome
outcome_checked text (Ok u) t o = sym o.accepts
outcome_checked text (Err f) t o = sym o

-- ---- the answers of a look

module _ (text user : Str) (r : Result Seen Fault) (o : Looked text user r) where
  pub look_refused : (f : Fault) → r ≡ Err f → check text ≡ checked.Refused (number f.refusal) f.line
  unfolding Looked
  look_refused f e = subst (λ (x : Result Seen Fault). Looked text user x) e o

  pub look_told : (s : Seen) → r ≡ Ok s → TableTold text user s.counts s.set
  unfolding Looked
  look_told s e = subst (λ (x : Result Seen Fault). Looked text user x) e o

  pub look_declined : (f : Fault) → r ≡ Err f → Declined (number f.refusal) f.line ≡ group_count text user
  unfolding group_count count_for
  look_declined f e = rw (look_refused f e)

-- ---- the count

counted_is : (set : ℕ) (ms : List ℕ) → ones set ≡ length ms → ((k : ℕ) (ks : List ℕ) → ms ≡ k ∷ ks → k ≡ count_trailing_zeros max_groups set)
    → (whether eqb (ones set) 0 then NoGroup else Count (ones set) (record { 0 = count_trailing_zeros max_groups set })) ≡ counted ms
unfolding counted whether◌then◌else◌
counted_is set [] e f = rw (eq-eqb (ones set) 0 e)
counted_is set (k ∷ ks) e f = rw (ne_eqb (ones set) 0 (λ q. let x : ⊥ = omega arith in x), e, ← f k ks refl)

module _ {text : List ℕ} {t : Table} (K : Kept text t) where
  pub named_long : length (table_of text).groups ≡ t.counts.groups
  named_long = ap length K.holds.groups_are ∙ strings_length (bytes t) t.groups t.counts.groups

  pub own_named : Owned t.owners t.counts.members (length (table_of text).groups)
  own_named j h = omega (arith, named_long, K.holds.owned j h)

  pub front_is : t.used ≡ length (bytes t)
  front_is = sym (length-take-le t.used t.frames K.within.0)

  pub count_requires : Members (bytes t) t.users t.owners t.counts.members
  count_requires = record {
    listed = record { laid = K.holds.users_laid; room = omega (arith, K.holds.long.of_users, K.holds.few.1) };
    room = omega (arith, K.holds.long.of_owners, K.holds.few.1);
    owned = λ j h. omega (arith, K.holds.owned j h, K.holds.few.0);
  }

  count_kept : (user : Str) → count_in user (set_in user (bytes t) t.users t.owners t.counts.members 0 0) ≡ group_count text user
  unfolding count_in group_count count_for groups_of
  count_kept user =
      let told_table = table_of text in
      let s = set_in user (bytes t) t.users t.owners t.counts.members 0 0 in
      let e : ones s ≡ length (memberships told_table.members user 0 told_table.groups) = count_is told_table.groups told_table.members user (bytes t) t.users t.owners t.counts.members K.holds.distinct K.holds.members_are own_named in
      let f : (k : ℕ) (ks : List ℕ) → memberships told_table.members user 0 told_table.groups ≡ k ∷ ks → k ≡ count_trailing_zeros max_groups s =
      λ k ks q. first_is told_table.groups told_table.members user (bytes t) t.users t.owners t.counts.members K.holds.distinct K.holds.members_are own_named k ks (omega (arith, named_long, K.holds.few.0)) q in
      rw K.accepts (ap (λ (x : Counted). whether bad_user user then Declined 20 0 else x) (counted_is s (memberships told_table.members user 0 told_table.groups) e f))

  members_long : length (table_of text).members ≡ t.counts.members
  unfolding members_in
  members_long = ap length K.holds.members_are ∙ rows_length (member_in (table_of text).groups t.owners (bytes t) t.users) t.counts.members 0

  pub grouped : (user : Str) → UserGroups (table_of text) user (set_in user (bytes t) t.users t.owners t.counts.members 0 0)
  grouped user g h = has_lists (table_of text).groups (table_of text).members user (bytes t) t.users t.owners t.counts.members K.holds.distinct K.holds.members_are own_named g h

  pub told : (user : Str) → TableTold text user t.counts (set_in user (bytes t) t.users t.owners t.counts.members 0 0)
  told user = record {
    accepts = K.accepts;
    groups = sym named_long;
    few = K.holds.few.0;
    members = sym members_long;
    rules = sym K.holds.rules_count;
    has = grouped user;
    count = count_kept user;
  }
