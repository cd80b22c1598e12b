-- What the arrays of a loaded table hold.
use Rattle.std.specs.Prelude.{ℕ, suc, ◌+◌, ◌≤◌, ◌<◌, ◌≡◌, true, false, List, [], ◌∷◌, eqb, length, get_or}
use Rattle.limits.specs.Limits.{max_groups, max_members, max_rules}
use Rattle.text.specs.Test.{whether◌then◌else◌, twice}
use Rattle.text.specs.String.{Str, same}
use Rattle.text.specs.Frame.{got}
use Rattle.table_rows.specs.Strings.{strings_in, Laid}
use Rattle.table.specs.Table.{Member, Rule}
use Rattle.table.specs.Layout.{kind_group, kind_member, kind_rule}
use Rattle.table.specs.Frame.{rule_body}
use Rattle.table.specs.Refusal.{Earlier}
use Rattle.text_set.specs.Set.{Holds as InSet}
use Rattle.table_keep.specs.Held.{member_keys, Named, members_in, Owned, bytes_of, member_place}
use Rattle.table_keep_rule.specs.Kept.{ids_of, id_keys, id_place}
use Rattle.table_load.specs.declared.row.Counts.{Counts}

-- each rule, the first with number i, reads at its start
unfoldable pub RulesAt : List ℕ → List ℕ → List Rule → ℕ → Type 0
RulesAt f starts [] i = Unit {0}
RulesAt f starts (r ∷ rs) i = ((e : ℕ) × (rule_body f (get_or starts i 0) ≡ got r e)) × RulesAt f starts rs (suc i)

-- each rule whose subject is a group has that group's number
unfoldable pub HoldersAt : List Str → List ℕ → List Rule → ℕ → Type 0
HoldersAt groups holders [] i = Unit {0}
HoldersAt groups holders (r ∷ rs) i =
    (r.by_group ≡ true → (get_or holders i 0 < length groups) × (get_or groups (get_or holders i 0) [] ≡ r.subject)) × HoldersAt groups holders rs (suc i)

-- how long the arrays are
pub record Long (groups users owners starts holders : List ℕ) : Type 0 where
  pub of_groups : length groups ≡ max_groups
  pub of_users : length users ≡ max_members
  pub of_owners : length owners ≡ max_members
  pub of_starts : length starts ≡ max_rules
  pub of_holders : length holders ≡ max_rules

-- The groups `named`, members and rules are those of the arrays: f are the decoded bytes; `groups` and `users` have the positions of
-- strings in them, `starts` those of the rules after the kind byte; `owners` and `holders` have the group numbers of members and of rules.
pub record Holds (named : List Str) (members : List Member) (rules : List Rule) (f : List ℕ) (c : Counts)
    (groups users owners starts holders : List ℕ) : Type 0 where
  pub groups_are : named ≡ strings_in f groups c.groups 0
  pub members_are : members ≡ members_in named owners f users c.members
  pub rules_are : RulesAt f starts rules 0
  pub rules_count : length rules ≡ c.rules
  pub holders_are : HoldersAt named holders rules 0
  pub groups_laid : Laid f groups c.groups
  pub users_laid : Laid f users c.members
  pub owned : Owned owners c.members c.groups
  pub distinct : twice same named ≡ false
  pub few : (c.groups ≤ max_groups) × (c.members ≤ max_members) × (c.rules ≤ max_rules)
  pub long : Long groups users owners starts holders

-- while rows come: the arrays hold what the rows so far told, and the sets of names, members and ids have it too
pub record Held (b : Earlier) (f : List ℕ) (c : Counts) (groups users owners starts holders names member-keys id-keys : List ℕ) : Type 0 where
  pub kind : b.kind ≡ c.kind
  pub holds : Holds b.groups b.members b.rules f c groups users owners starts holders
  pub named : Named f names c.groups b.groups
  pub members_set : InSet member_place f member-keys max_members (bytes_of b.members)
  pub ids_set : InSet id_place f id-keys max_rules (ids_of b.rules)
  pub sets_long : (length member-keys ≡ member_keys) × (length id-keys ≡ id_keys)

-- the counts after one row more
unfoldable pub counts_after : Counts → ℕ → Counts
counts_after c kind =
    whether eqb kind kind_group then record { kind = kind_group; groups = c.groups + 1; members = c.members; rules = c.rules }
    else whether eqb kind kind_member then record { kind = kind_member; groups = c.groups; members = c.members + 1; rules = c.rules }
    else whether eqb kind kind_rule then record { kind = kind_rule; groups = c.groups; members = c.members; rules = c.rules + 1 }
    else record { kind = kind; groups = c.groups; members = c.members; rules = c.rules }
