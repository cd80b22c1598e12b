-- One row more is held.
use mathlib.Core.Path.{◌≡◌, refl, sym, ap, ◌∙◌}
use mathlib.Core.Bool.{true, false}
use mathlib.Core.List.{List, [], ◌∷◌, ◌++◌}
use Prim.Native.Nat.{ℕ, suc, ◌+◌, ◌-◌, ◌≤◌, ◌<◌}
use native.Mathlib.Omega.{arith}
use borrow.Author.Tests.{eqb-true, eqb-false}
use lib.Dec.{eqb}
use lib.ListN.{length, get_or, set, length-append, length-set, get_or-append}
use lib.Seq.{get_or-set_same, get_or-set_other}
use Rattle.limits.specs.Limits.{max_members, max_rules}
use Rattle.text.specs.Test.{whether◌then◌else◌, any}
use Rattle.text.specs.String.{Str, same}
use Rattle.text.specs.Frame.{got, string}
use Rattle.text.proofs.Tests.{by}
use Rattle.table_place.specs.Place.{str_end, str_in}
use Rattle.table_place.proofs.Reading.{str_read}
use Rattle.text_set.specs.Set.{Holds as InSet}
use Rattle.text_set.proofs.Sets.{holds_longer}
use Rattle.table_rows.specs.Strings.{strings_in, place}
use Rattle.table_rows.proofs.Grow.{rows_same, rows_grow, strings_length, string_front, new_start, old_string, strings_grow, laid_grow, laid_stays, strings_stay, place_at, twice_snoc}
use Rattle.table.specs.Table.{Member, Rule}
use Rattle.table.specs.Frame.{version, group, member, rule, rule_body}
use Rattle.table.specs.Refusal.{Earlier, with}
use Rattle.table.proofs.Inside.{inside_string, inside_rule, reads_more, reads_after}
use Rattle.table_keep.specs.Held.{Named, member_in, members_in, Owned, bytes_of, member_place, GroupKept, MemberKept}
use Rattle.table_keep.proofs.Names.{named_longer}
use Rattle.table_keep.proofs.Members.{bytes_snoc, place_far}
use Rattle.table_keep_rule.specs.Kept.{ids_of, id_place, RuleKept}
use Rattle.table_keep_rule.proofs.Rules.{ids_length, ids_snoc, id_far}
use Rattle.table_load.specs.declared.row.Counts.{Counts}
use Rattle.table_load.specs.Held.{RulesAt, HoldersAt, Holds, Held, counts_after}

-- ---- a string that was read

-- of the new row, among all bytes
new_string : (old f : List ℕ) (at : ℕ) (s : Str) (t : ℕ) → string f at ≡ got s t
    → (str_in (old ++ f) (length old + at) ≡ s) × (str_end (old ++ f) (length old + at) ≤ length (old ++ f))
new_string old f at s t i = let r = str_read (old ++ f) (length old + at) s (length old + t) (reads_after string inside_string old f at s t i) in (sym r.1, r.0)

-- ---- rules

module _ (f g : List ℕ) where
  rules_stay : (starts : List ℕ) (rs : List Rule) (i : ℕ) → RulesAt f starts rs i → RulesAt (f ++ g) starts rs i
  unfolding RulesAt
  rules_stay starts [] i h = tt
  rules_stay starts (r ∷ rs) i h = ((h.0.0, reads_more rule_body inside_rule f g _ r h.0.0 h.0.1), rules_stay starts rs (suc i) h.1)

  rules_grow : (starts : List ℕ) (rs : List Rule) (i n v : ℕ) (x : Rule) (e : ℕ) → i + length rs ≡ n → n < length starts → RulesAt f starts rs i
      → rule_body (f ++ g) v ≡ got x e → RulesAt (f ++ g) (set starts n v) (rs ++ (x ∷ [])) i
  unfolding RulesAt
  rules_grow starts [] i n v x e l m h q =
      let z : i ≡ n = omega arith in
      ((e, ap (rule_body (f ++ g)) (ap (λ (j : ℕ). get_or (set starts n v) j 0) z ∙ get_or-set_same starts n v 0 m) ∙ q), tt)
  rules_grow starts (r ∷ rs) i n v x e l m h q =
      let o : get_or (set starts n v) i 0 ≡ get_or starts i 0 = get_or-set_other starts n i v 0 (λ p. let y : ⊥ = omega arith in y) in
      ((h.0.0, ap (rule_body (f ++ g)) o ∙ reads_more rule_body inside_rule f g _ r h.0.0 h.0.1), rules_grow starts rs (suc i) n v x e (omega arith) m h.1 q)

holders_grow : (groups : List Str) (holders : List ℕ) (rs : List Rule) (i n v : ℕ) (x : Rule) → i + length rs ≡ n → n < length holders → HoldersAt groups holders rs i
    → (x.by_group ≡ true → (v < length groups) × (get_or groups v [] ≡ x.subject)) → HoldersAt groups (set holders n v) (rs ++ (x ∷ [])) i
unfolding HoldersAt
holders_grow groups holders [] i n v x l m h q =
    let z : i ≡ n = omega arith in
    let o : get_or (set holders n v) i 0 ≡ v = ap (λ (j : ℕ). get_or (set holders n v) j 0) z ∙ get_or-set_same holders n v 0 m in
    (λ t. rw o (q t), tt)
holders_grow groups holders (r ∷ rs) i n v x l m h q =
    let o : get_or (set holders n v) i 0 ≡ get_or holders i 0 = get_or-set_other holders n i v 0 (λ p. let y : ⊥ = omega arith in y) in
    (λ t. rw o (h.0 t), holders_grow groups holders rs (suc i) n v x (omega arith) m h.1 q)

-- a group more
holders_stay : (groups : List Str) (name : Str) (holders : List ℕ) (rs : List Rule) (i : ℕ) → HoldersAt groups holders rs i → HoldersAt (groups ++ (name ∷ [])) holders rs i
unfolding HoldersAt
holders_stay groups name holders [] i h = tt
holders_stay groups name holders (r ∷ rs) i h = (
  λ t. let k = h.0 t in (omega (arith, k.0, length-append groups (name ∷ [])), get_or-append groups (name ∷ []) [] _ k.0 ∙ k.1),
  holders_stay groups name holders rs (suc i) h.1,
)

-- ---- the bytes grow

module _ {named : List Str} {members : List Member} {rules : List Rule} {old : List ℕ} {c : Counts} {groups users owners starts holders : List ℕ} (f : List ℕ)
    (H : Holds named members rules old c groups users owners starts holders) where
  user_stays : (j : ℕ) → j < c.members → str_in (old ++ f) (get_or users j 0) ≡ str_in old (get_or users j 0)
  user_stays j k = string_front old f (get_or users j 0) (H.users_laid j k)

  members_stay : members_in named owners (old ++ f) users c.members ≡ members_in named owners old users c.members
  unfolding members_in
  members_stay =
      rows_same (member_in named owners (old ++ f) users) (member_in named owners old users) c.members 0
      (λ j a b i. record { group = get_or named (get_or owners j 0) []; user = user_stays j (omega arith) i })

  pub holds_stay : (k : ℕ) → Holds named members rules (old ++ f) (record { kind = k; groups = c.groups; members = c.members; rules = c.rules }) groups users owners starts holders
  holds_stay k = record {
    groups_are = H.groups_are ∙ sym (strings_stay old f groups c.groups H.groups_laid);
    members_are = H.members_are ∙ sym members_stay;
    rules_are = rules_stay old f starts rules 0 H.rules_are;
    rules_count = H.rules_count;
    holders_are = H.holders_are;
    groups_laid = laid_stays old f groups c.groups H.groups_laid;
    users_laid = laid_stays old f users c.members H.users_laid;
    owned = H.owned;
    distinct = H.distinct;
    few = H.few;
    long = H.long;
  }

-- ---- each kind

same_arrays : {b : Earlier} {f : List ℕ} {c : Counts} {groups users owners starts starts' holders holders' names ms is : List ℕ}
    → starts' ≡ starts → holders' ≡ holders
    → Held b f c groups users owners starts holders names ms is → Held b f c groups users owners starts' holders' names ms is
same_arrays s h H = rw (s, h) H

module _ {b : Earlier} {old : List ℕ} {c : Counts} {groups users owners starts holders names ms is : List ℕ} (f : List ℕ)
    (G : Held b old c groups users owners starts holders names ms is) where
  H : Holds b.groups b.members b.rules old c groups users owners starts holders
  H = G.holds

  names_stay : Named (old ++ f) names c.groups b.groups
  names_stay = named_longer G.named f

  members_set_stays : InSet member_place (old ++ f) ms max_members (bytes_of b.members)
  members_set_stays = holds_longer f (λ y. (place_far y).0) G.members_set

  ids_set_stays : InSet id_place (old ++ f) is max_rules (ids_of b.rules)
  ids_set_stays = holds_longer f (λ y. (id_far y).0) G.ids_set

  pub grow_version : (v t : Str) → Held (with b (version v t)) (old ++ f) (counts_after c 1) groups users owners starts holders names ms is
  unfolding with counts_after whether◌then◌else◌
  grow_version v t =
      (record { kind = refl; holds = holds_stay f H 1; named = names_stay; members_set = members_set_stays; ids_set = ids_set_stays; sets_long = G.sets_long })

  module _ {groups' names' : List ℕ} (K : GroupKept old f groups c.groups groups' names') (fresh : any (same K.name) b.groups ≡ false) where
    v : ℕ
    v = length old + 1

    wide : c.groups < length groups
    wide = omega (arith, H.long.of_groups, K.room)

    new : (str_in (old ++ f) (length old + 1) ≡ K.name) × (str_end (old ++ f) (length old + 1) ≤ length (old ++ f))
    new = new_string old f 1 K.name (length f) K.stands

    same_member_lem : (j : ℕ) → j < c.members → member_in (b.groups ++ (K.name ∷ [])) owners (old ++ f) users j ≡ member_in b.groups owners old users j
    same_member_lem j k =
        let o : get_or owners j 0 < length b.groups = omega (arith, H.owned j k, ap length H.groups_are, strings_length old groups c.groups) in
        λ i. record { group = get_or-append b.groups (K.name ∷ []) [] (get_or owners j 0) o i; user = user_stays f H j k i }

    same_members : members_in (b.groups ++ (K.name ∷ [])) owners (old ++ f) users c.members ≡ members_in b.groups owners old users c.members
    unfolding members_in
    same_members = rows_same (member_in (b.groups ++ (K.name ∷ [])) owners (old ++ f) users) (member_in b.groups owners old users) c.members 0 (λ j a k. same_member_lem j (omega arith))

    holds_group : Holds (b.groups ++ (K.name ∷ [])) b.members b.rules (old ++ f) (record { kind = 2; groups = c.groups + 1; members = c.members; rules = c.rules }) (set groups c.groups (length old + 1)) users owners starts holders
    holds_group =
        let S = holds_stay f H 2 in
        record {
          groups_are = ap (λ (l : List Str). l ++ (K.name ∷ [])) H.groups_are ∙ sym (strings_grow old f groups c.groups (length old + 1) H.groups_laid wide K.name new.0);
          members_are = H.members_are ∙ sym same_members;
          rules_are = S.rules_are;
          rules_count = S.rules_count;
          holders_are = holders_stay b.groups K.name holders b.rules 0 H.holders_are;
          groups_laid = laid_grow old f groups c.groups (length old + 1) H.groups_laid wide new.1;
          users_laid = S.users_laid;
          owned = λ j k. omega (arith, H.owned j k);
          distinct = twice_snoc b.groups K.name H.distinct fresh;
          few = (omega (arith, K.room), H.few.1, H.few.2);
          long = record { of_groups = length-set groups c.groups (length old + 1) ∙ H.long.of_groups; of_users = H.long.of_users; of_owners = H.long.of_owners; of_starts = H.long.of_starts; of_holders = H.long.of_holders };
        }

    pub grow_group : Held (with b (group K.name)) (old ++ f) (counts_after c 2) groups' users owners starts holders names' ms is
    unfolding with counts_after whether◌then◌else◌
    grow_group =
        rw K.starts_set
        (record { kind = refl; holds = holds_group; named = rw H.groups_are K.named; members_set = members_set_stays; ids_set = ids_set_stays; sets_long = G.sets_long })

  module _ {users' owners' ms' : List ℕ} (K : MemberKept (strings_in old groups c.groups 0) old f users owners c.members users' owners' ms') where
    abbrev n : ℕ
    n = c.members

    abbrev p : ℕ
    p = place K.group (strings_in old groups c.groups 0)

    abbrev us : List ℕ
    us = set users n (length old + K.at)

    abbrev os : List ℕ
    os = set owners n p

    wide_users : n < length users
    wide_users = omega (arith, H.long.of_users, K.room)

    wide_owners : n < length owners
    wide_owners = omega (arith, H.long.of_owners, K.room)

    new_user : (str_in (old ++ f) (length old + K.at) ≡ K.user) × (str_end (old ++ f) (length old + K.at) ≤ length (old ++ f))
    new_user = new_string old f K.at K.user (length f) K.stands

    old_owner : (j : ℕ) → j < n → get_or os j 0 ≡ get_or owners j 0
    old_owner j k = get_or-set_other owners n j p 0 (λ e. let x : ⊥ = omega arith in x)

    new_owner : get_or os n 0 ≡ p
    new_owner = get_or-set_same owners n p 0 wide_owners

    old_user : (j : ℕ) → j < n → str_in (old ++ f) (get_or us j 0) ≡ str_in old (get_or users j 0)
    old_user = old_string old f users n (length old + K.at) H.users_laid wide_users

    new_user_at : str_in (old ++ f) (get_or us n 0) ≡ K.user
    new_user_at = ap (str_in (old ++ f)) (new_start old f users n (length old + K.at) H.users_laid wide_users) ∙ new_user.0

    grown_members : members_in b.groups os (old ++ f) us (n + 1) ≡ b.members ++ (record { group = K.group; user = K.user } ∷ [])
    unfolding members_in
    grown_members =
        rows_grow (member_in b.groups owners old users) (member_in b.groups os (old ++ f) us) n (record { group = K.group; user = K.user })
        (λ j k i. record { group = ap (λ (o : ℕ). get_or b.groups o []) (old_owner j k) i; user = old_user j k i })
        (λ i. record { group = (ap (λ (o : ℕ). get_or b.groups o []) new_owner ∙ ap (λ (l : List Str). get_or l p []) H.groups_are ∙ place_at K.group (strings_in old groups c.groups 0) K.listed) i; user = new_user_at i })
        ∙ ap (λ (l : List Member). l ++ (record { group = K.group; user = K.user } ∷ [])) (sym H.members_are)

    owned_grow : Owned os (n + 1) c.groups
    owned_grow j k =
        by (eqb j n)
        (λ t. let z : j ≡ n = eqb-true _ _ t in rw (z, new_owner) (omega (arith, K.listed, strings_length old groups c.groups)))
        (λ t. let z : j ≡ n → ⊥ = eqb-false _ _ t in let y : j < n = omega arith in rw (old_owner j y) (H.owned j y))

    holds_member : Holds b.groups (b.members ++ (record { group = K.group; user = K.user } ∷ [])) b.rules (old ++ f) (record { kind = 3; groups = c.groups; members = n + 1; rules = c.rules }) groups us os starts holders
    holds_member =
        let S = holds_stay f H 3 in
        record {
          groups_are = S.groups_are;
          members_are = sym grown_members;
          rules_are = S.rules_are;
          rules_count = S.rules_count;
          holders_are = S.holders_are;
          groups_laid = S.groups_laid;
          users_laid = laid_grow old f users n (length old + K.at) H.users_laid wide_users new_user.1;
          owned = owned_grow;
          distinct = H.distinct;
          few = (H.few.0, omega (arith, K.room), H.few.2);
          long = record { of_groups = H.long.of_groups; of_users = length-set users n (length old + K.at) ∙ H.long.of_users; of_owners = length-set owners n p ∙ H.long.of_owners; of_starts = H.long.of_starts; of_holders = H.long.of_holders };
        }

    grown_set : InSet member_place (old ++ f) ms' max_members (bytes_of (b.members ++ (record { group = K.group; user = K.user } ∷ [])))
    grown_set =
        let m : b.members ≡ members_in (strings_in old groups c.groups 0) owners old users n = H.members_are ∙ ap (λ (l : List Str). members_in l owners old users n) H.groups_are in
        rw (bytes_snoc b.members (record { group = K.group; user = K.user }), m) K.held

    pub grow_member : Held (with b (member (record { group = K.group; user = K.user }))) (old ++ f) (counts_after c 3) groups users' owners' starts holders names ms' is
    unfolding with counts_after whether◌then◌else◌
    grow_member =
        rw (K.users_set, K.owners_set)
        (record {
          kind = refl;
          holds = holds_member;
          named = names_stay;
          members_set = grown_set;
          ids_set = ids_set_stays;
          sets_long = (K.keys_long, G.sets_long.1);
        })

  module _ {starts' holders' is' : List ℕ} (K : RuleKept (strings_in old groups c.groups 0) old f starts holders is c.rules starts' holders' is') where
    abbrev m : ℕ
    m = c.rules

    abbrev x : Rule
    x = K.kept

    wide_starts : m < length starts
    wide_starts = omega (arith, H.long.of_starts, K.room)

    wide_holders : m < length holders
    wide_holders = omega (arith, H.long.of_holders, K.room)

    rules_long : length (b.rules ++ (x ∷ [])) ≡ m + 1
    rules_long = length-append b.rules (x ∷ []) ∙ ap (λ (k : ℕ). k + 1) H.rules_count

    holds_rule : Holds b.groups b.members (b.rules ++ (x ∷ [])) (old ++ f) (record { kind = 4; groups = c.groups; members = c.members; rules = m + 1 }) groups users owners (set starts m (length old + 1)) (set holders m K.holder)
    holds_rule =
        let S = holds_stay f H 4 in
        record {
          groups_are = S.groups_are;
          members_are = S.members_are;
          rules_are = rules_grow old f starts b.rules 0 m (length old + 1) x (length old + length f) (omega (arith, H.rules_count)) wide_starts H.rules_are (reads_after rule_body inside_rule old f 1 x (length f) K.body);
          rules_count = rules_long;
          holders_are = holders_grow b.groups holders b.rules 0 m K.holder x (omega (arith, H.rules_count)) wide_holders H.holders_are (λ t. rw H.groups_are (K.held t));
          groups_laid = S.groups_laid;
          users_laid = S.users_laid;
          owned = H.owned;
          distinct = H.distinct;
          few = (H.few.0, H.few.1, omega (arith, K.room));
          long = record { of_groups = H.long.of_groups; of_users = H.long.of_users; of_owners = H.long.of_owners; of_starts = length-set starts m (length old + 1) ∙ H.long.of_starts; of_holders = length-set holders m K.holder ∙ H.long.of_holders };
        }

    pub grow_rule : Held (with b (rule x)) (old ++ f) (counts_after c 4) groups users owners starts' holders' names ms is'
    unfolding with counts_after whether◌then◌else◌
    grow_rule =
        same_arrays K.starts_set K.holders_set
        (record {
          kind = refl;
          holds = holds_rule;
          named = names_stay;
          members_set = members_set_stays;
          ids_set = rw (ids_snoc b.rules x) (K.ids_held (ids_of b.rules) (record { held = G.ids_set; counted = ids_length b.rules ∙ H.rules_count }));
          sets_long = (G.sets_long.0, K.keys_long);
        })
