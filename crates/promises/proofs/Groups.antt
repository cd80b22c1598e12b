-- The group count's promise, kept.
use mathlib.Core.Path.{◌≡◌, refl, ap, ◌∙◌}
use mathlib.Core.Bool.{Bool, true, false}
use mathlib.Core.List.{List, [], ◌∷◌}
use Prim.Native.Nat.{ℕ, suc, ◌+◌}
use native.Mathlib.Omega.{arith}
use lib.ListN.{length}
use Rattle.text.specs.Test.{◌or◌, whether◌then◌else◌, any, only}
use Rattle.text.specs.String.{Str}
use Rattle.text.proofs.Tests.{by, clash}
use Rattle.table.specs.Table.{Member}
use Rattle.table.specs.Text.{check, table_of}
use Rattle.table.specs.Group.{lists, numbered, memberships, groups_of, counted, bad_user, count_for, group_count}
use Rattle.table.specs.Checked.{Accepted, Refused}
use Rattle.table.specs.Counted.{Count, Declined}
use Rattle.promises.specs.First.{First, here, later}
use Rattle.promises.specs.Groups.{GroupPromise, CountRefusals}

module _ (members : List Member) (user : Str) where
  abbrev listing : Str → Bool
  listing = lists members user

  as_many : (i : ℕ) (gs : List Str) → length (memberships members user i gs) ≡ length (only listing gs)
  unfolding memberships numbered only whether◌then◌else◌
  as_many i [] = refl
  as_many i (g ∷ gs) = by (listing g) (λ t. rw t (ap suc (as_many (suc i) gs))) (λ t. rw t (as_many (suc i) gs))

  no_number : (i : ℕ) (gs : List Str) → any listing gs ≡ false → memberships members user i gs ≡ []
  unfolding memberships numbered any ◌or◌ whether◌then◌else◌
  no_number i [] e = refl
  no_number i (g ∷ gs) e = by (listing g) (λ t. clash (rw t) e) (λ t. rw t (no_number (suc i) gs (rw t at e)))

  -- the numbers begin with the first's, counted from i
  first_number : (i : ℕ) (gs : List Str) → any listing gs ≡ true
      → (m : ℕ) × (rest : List ℕ) × (memberships members user i gs ≡ ((i + m) ∷ rest)) × First listing m gs
  unfolding memberships numbered any ◌or◌ whether◌then◌else◌
  first_number i [] e = clash e refl
  first_number i (g ∷ gs) e =
      by (listing g) (λ t. rw t (0, memberships members user (suc i) gs, ap (λ (k : ℕ). k ∷ memberships members user (suc i) gs) (omega arith), here t))
      (λ t. let r = first_number (suc i) gs (rw t at e) in
      rw t (suc r.0, r.1, r.2 ∙ ap (λ (k : ℕ). k ∷ r.1) (omega arith), later t r.3))

count_of : (ns rest : List ℕ) (g n : ℕ) → ns ≡ (g ∷ rest) → length ns ≡ n → counted ns ≡ Count n (record { 0 = g })
unfolding counted
count_of ns rest g n e l = rw e (ap (λ (m : ℕ). Count m (record { 0 = g })) (rw e at l))

module _ (x user : Str) (ok : check x ≡ Accepted) (fine : bad_user user ≡ false) where
  answers : group_count x user ≡ counted (groups_of (table_of x) user)
  unfolding group_count count_for whether◌then◌else◌
  answers = rw (ok, fine)

  pub group_promise : GroupPromise x user ok fine
  unfolding groups_of counted
  group_promise =
      let t = table_of x in
      record {
        counted = λ e. let r = first_number t.members user 0 t.groups e in
            (r.0, answers ∙ count_of _ r.1 r.0 _ (r.2 ∙ ap (λ (k : ℕ). k ∷ r.1) (omega arith)) (as_many t.members user 0 t.groups), r.3);
        none = λ e. answers ∙ ap counted (no_number t.members user 0 t.groups e);
      }

module _ (x user : Str) where
  text_declined : (n l : ℕ) → check x ≡ Refused n l → group_count x user ≡ Declined n l
  unfolding group_count count_for
  text_declined n l e = rw e

  user_declined : check x ≡ Accepted → bad_user user ≡ true → group_count x user ≡ Declined 20 0
  unfolding group_count count_for whether◌then◌else◌
  user_declined e bad = rw (e, bad)

  pub count_refusals : CountRefusals x user
  count_refusals = record { text = text_declined; user_declined = user_declined }
