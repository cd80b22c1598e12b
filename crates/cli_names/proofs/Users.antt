-- What is told of a loaded table.
use mathlib.Core.Path.{◌≡◌, refl, sym, ap, ap₂, ◌∙◌}
use mathlib.Core.Bool.{Bool, true, false}
use mathlib.Core.List.{List, [], ◌∷◌, ◌++◌, map}
use Prim.Native.Nat.{ℕ, zero, suc, ◌≤◌, ◌<◌}
use native.Mathlib.Omega.{arith}
use borrow.Author.Tests.{lt-ltb, le-ltb, ltb-false}
use lib.Dec.{ltb}
use lib.ListN.{length, take, get_or, length-append}
use Rattle.limits.specs.Limits.{max_string, max_members, max_rules}
use Rattle.text.specs.Test.{◌or◌, whether◌then◌else◌, any, only}
use Rattle.text.specs.String.{Str, same}
use Rattle.text.proofs.Tests.{by, or_assoc, or_l, or_r, or_false_l, or_false_r, neither}
use Rattle.path.specs.Refusal.{unsized}
use Rattle.table.specs.Table.{Member, Rule}
use Rattle.table.specs.Text.{check, table_of}
use Rattle.table.specs.Group.{bad_user}
use Rattle.table_place.specs.Place.{str_in}
use Rattle.table_rows.specs.Strings.{rows_of, strings_in, place, Listed}
use Rattle.table_rows.specs.Rules.{rule_in}
use Rattle.table_rows.proofs.Grow.{strings_length, place_any}
use Rattle.table_rows.proofs.RuleBytes.{rule_read}
use Rattle.table_keep.specs.Held.{member_in, members_in}
use Rattle.table_load.specs.declared.loaded.Table.{Table}
use Rattle.table_load.specs.Held.{RulesAt}
use Rattle.table_load.specs.Loaded.{Kept, bytes}
use Rattle.table_facts.proofs.Names.{identified}
use Rattle.cli_names.specs.Names.{subjects, users_of, alike, gather, sentence, told, slip, max_line}
use Rattle.cli_names.specs.Positions.{subjects_in, users_in, Stand, TableReady}
use Rattle.cli_names.proofs.Listing.{sentence_fits}

-- ---- lists that are joined

any_append : (f : Str → Bool) (a b : List Str) → any f (a ++ b) ≡ (any f a or any f b)
unfolding any ◌or◌
any_append f [] b = refl
any_append f (x ∷ a) b = ap (λ (t : Bool). f x or t) (any_append f a b) ∙ sym (or_assoc (f x) (any f a) (any f b))

only_append : (f : Str → Bool) (a b : List Str) → only f (a ++ b) ≡ only f a ++ only f b
unfolding only whether◌then◌else◌
only_append f [] b = refl
only_append f (x ∷ a) b =
    by (f x)
    (λ t. rw t (ap (λ (l : List Str). x ∷ l) (only_append f a b)))
    (λ t. rw t (only_append f a b))

gather_append : (names a b : List Str) → gather names (a ++ b) ≡ gather (gather names a) b
unfolding gather
gather_append names [] b = refl
gather_append names (x ∷ a) b = gather_append (whether any (same x) names then names else names ++ (x ∷ [])) a b

pub none_yet : (f places : List ℕ) → strings_in f places 0 0 ≡ []
unfolding strings_in rows_of
none_yet f places = refl

-- ---- what is told, by positions

module _ (f users : List ℕ) (members : ℕ) (starts : List ℕ) (rules : ℕ) (grouped : Bool) (user : Str) where
  abbrev all : List Str
  all = users_in f users members starts rules

  pub found_place : (places : List ℕ) (n r : ℕ) → r ≡ place user (strings_in f places n 0) → any (same user) (strings_in f places n 0) ≡ ltb r n
  found_place places n r e = place_any user (strings_in f places n 0) ∙ rw (strings_length f places n, e)

  told_none : any (same user) all ≡ true → [] ≡ told grouped user all
  unfolding told whether◌then◌else◌
  told_none e = rw e

  pub told_member : (r : ℕ) → r ≡ place user (strings_in f users members 0) → r < members → [] ≡ told grouped user all
  told_member r e h =
      told_none
      (any_append (same user) (strings_in f users members 0) (subjects_in f starts rules 0)
      ∙ or_l _ _ (found_place users members r e ∙ lt-ltb r members h))

  module _ (places : List ℕ) (s : ℕ) (S : Stand f places s (subjects_in f starts rules 0)) where
    pub told_subject : (r : ℕ) → r ≡ place user (strings_in f places s 0) → r < s → [] ≡ told grouped user all
    told_subject r e h =
        told_none
        (any_append (same user) (strings_in f users members 0) (subjects_in f starts rules 0)
        ∙ or_r _ _ (ap (any (same user)) (sym S.are) ∙ found_place places s r e ∙ lt-ltb r s h))

    -- the user is none of them, and the names that are gathered stand at n places
    module _ (q r : ℕ) (a : q ≡ place user (strings_in f users members 0)) (b : members ≤ q) (c : r ≡ place user (strings_in f places s 0)) (d : s ≤ r)
        (kept : List ℕ) (m : ℕ) (names : List Str) (none : names ≡ []) (K : Stand f kept m (gather names (only (alike user) (strings_in f users members 0))))
        (kept' : List ℕ) (n : ℕ) (K' : Stand f kept' n (gather (strings_in f kept m 0) (only (alike user) (strings_in f places s 0)))) where
      pub names_are : strings_in f kept' n 0 ≡ gather [] (only (alike user) all)
      names_are =
          K'.are ∙ rw (K.are, S.are, none)
          (sym
          (ap (gather []) (only_append (alike user) (strings_in f users members 0) (subjects_in f starts rules 0))
          ∙ gather_append [] (only (alike user) (strings_in f users members 0)) (only (alike user) (subjects_in f starts rules 0))))

      pub told_is : sentence grouped user (strings_in f kept' n 0) ≡ told grouped user all
      unfolding told whether◌then◌else◌
      told_is =
          let e : any (same user) all ≡ false =
          any_append (same user) (strings_in f users members 0) (subjects_in f starts rules 0)
          ∙ neither _ _ (found_place users members q a ∙ le-ltb q members b) (ap (any (same user)) (sym S.are) ∙ found_place places s r c ∙ le-ltb r s d)
          in
          rw (e, names_are)

      pub told_fits : length user ≤ max_string → members ≤ max_members → rules ≤ max_rules → s ≤ rules → length (sentence grouped user (strings_in f kept' n 0)) ≤ max_line
      told_fits short h g i =
          rw names_are
          (sentence_fits user short grouped all
          (omega (arith, length-append (strings_in f users members 0) (subjects_in f starts rules 0), strings_length f users members, ap length S.are, strings_length f places s)))

-- ---- a loaded table

users_read : (named : List Str) (owners f users : List ℕ) (n i : ℕ) → map (λ (m : Member). m.user) (rows_of (member_in named owners f users) n i) ≡ rows_of (λ j. str_in f (get_or users j 0)) n i
unfolding rows_of
users_read named owners f users zero i = refl
users_read named owners f users (suc n) i = ap (λ (l : List Str). str_in f (get_or users i 0) ∷ l) (users_read named owners f users n (suc i))

subjects_read : (f starts : List ℕ) (rs : List Rule) (i : ℕ) → RulesAt f starts rs i → subjects rs ≡ subjects_in f starts (length rs) i
unfolding RulesAt subjects subjects_in rule_in
subjects_read f starts [] i h = refl
subjects_read f starts (r ∷ rs) i h = rw ((rule_read f (get_or starts i 0) r h.0.0 h.0.1).is, subjects_read f starts rs (suc i) h.1)

module _ {text : List ℕ} {t : Table} (K : Kept text t) where
  users_are : users_of (table_of text) ≡ users_in (bytes t) t.users t.counts.members t.starts t.counts.rules
  unfolding users_of members_in strings_in
  users_are =
      ap₂ ◌++◌
      (ap (map (λ (m : Member). m.user)) K.holds.members_are ∙ users_read (table_of text).groups t.owners (bytes t) t.users t.counts.members 0)
      (subjects_read (bytes t) t.starts (table_of text).rules 0 K.holds.rules_are ∙ ap (λ (n : ℕ). subjects_in (bytes t) t.starts n 0) K.holds.rules_count)

  pub groups_listed : Listed (bytes t) t.groups t.counts.groups
  groups_listed = record { laid = K.holds.groups_laid; room = omega (arith, K.holds.long.of_groups, K.holds.few.0) }

  pub table_ready : t.used ≡ length (bytes t) → TableReady (bytes t) t.users t.counts.members t.starts t.counts.rules
  table_ready e = record {
    users_listed = record { laid = K.holds.users_laid; room = omega (arith, K.holds.long.of_users, K.holds.few.1) };
    rules_placed = identified K;
    short = omega (arith, K.within.1);
    few = (K.holds.few.1, K.holds.few.2);
  }

  module _ (user : Str) where
    pub slip_refused : bad_user user ≡ true → [] ≡ slip (check text) (table_of text) user
    unfolding slip whether◌then◌else◌
    slip_refused e = rw (K.accepts, e)

    pub slip_is : bad_user user ≡ false → (r : ℕ) → r ≡ place user (strings_in (bytes t) t.groups t.counts.groups 0)
        → told (ltb r t.counts.groups) user (users_in (bytes t) t.users t.counts.members t.starts t.counts.rules) ≡ slip (check text) (table_of text) user
    unfolding slip whether◌then◌else◌
    slip_is e r p =
        rw (K.accepts, e, users_are, K.holds.groups_are)
        (ap (λ (b : Bool). told b user (users_in (bytes t) t.users t.counts.members t.starts t.counts.rules))
        (sym (place_any user (strings_in (bytes t) t.groups t.counts.groups 0) ∙ rw (strings_length (bytes t) t.groups t.counts.groups, p))))

pub user_short : (user : Str) → bad_user user ≡ false → length user ≤ max_string
unfolding bad_user unsized
user_short user e = ltb-false max_string (length user) (or_false_r _ _ (or_false_l _ _ e))
