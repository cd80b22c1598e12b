-- Each way out of take_row: its answer is the frame's number, and what is held.
use mathlib.Core.Path.{◌≡◌, sym, ap, ◌∙◌}
use mathlib.Core.Bool.{false}
use mathlib.Core.List.{List}
use mathlib.Core.Option.{some}
use Prim.Native.Nat.{ℕ, ◌+◌, ◌-◌, ◌≤◌, ◌<◌}
use native.Mathlib.Omega.{arith}
use lib.ListN.{length, take, drop, get_or, length-drop}
use lib.Seq.{length-take-le}
use Rattle.limits.specs.Sizes.{max_table_bytes}
use Rattle.text.specs.Test.{any, twice}
use Rattle.text.specs.String.{Str, same}
use Rattle.text.specs.Refusal.{clear}
use Rattle.text.specs.Frame.{part}
use Rattle.table_rows.specs.Strings.{strings_in}
use Rattle.table.specs.Layout.{kind_version, kind_group, kind_member, kind_rule}
use Rattle.table.specs.Frame.{version, group, member, rule, entry_of}
use Rattle.table.specs.Refusal.{Earlier, reads, framed, repeats, refusal}
use Rattle.table.proofs.Numbers.{refusal_clear}
use Rattle.table.proofs.Versions.{refused_unread}
use Rattle.table.proofs.Frames.{kind_unknown}
use Rattle.table_keep.specs.Held.{Named, Groups, members_in, InSet, GroupReady, MemberReady, GroupKept, MemberKept}
use Rattle.table_keep_rule.specs.Kept.{ids_of, Ids, RuleReady, RuleKept}
use Rattle.table_keep_rule.proofs.Rules.{ids_length}
use Rattle.table_load.specs.declared.row.Counts.{Counts}
use Rattle.table_load.specs.Held.{Held}
use Rattle.table_load.specs.Loaded.{Grown}
use Rattle.table_load.proofs.Growing.{grow_version, grow_group, grow_member, grow_rule}

module _ (buf : List ℕ) (used end : ℕ) (pre : (used < end) × (end ≤ length buf) × (end ≤ max_table_bytes)) where
  pub front_long : length (take used buf) ≡ used
  front_long = length-take-le used buf (omega (arith, pre.0, pre.1))

  pub part_long : length (part buf used end) ≡ end - used
  part_long = length-take-le (end - used) (drop used buf) (omega (arith, length-drop used buf, pre.1))

  pub both_room : length (take used buf) + length (part buf used end) ≤ max_table_bytes
  both_room = omega (arith, front_long, part_long, pre.0, pre.2)

  pub part_some : 0 < length (part buf used end)
  part_some = omega (arith, part_long, pre.0)

-- ---- what each kind of row needs

module _ {b : Earlier} {old : List ℕ} {c : Counts} {groups users owners starts holders names ms is : List ℕ}
    (H : Held b old c groups users owners starts holders names ms is) where
  all_distinct : twice same (strings_in old groups c.groups 0) ≡ false
  all_distinct = rw H.holds.groups_are at H.holds.distinct

  all_named : Named old names c.groups (strings_in old groups c.groups 0)
  all_named = rw H.holds.groups_are at H.named

  pub lookup : Groups old groups names c.groups
  lookup = record {
    few = H.holds.few.0;
    distinct = record {
      listed = record { laid = H.holds.groups_laid; room = omega (arith, H.holds.long.of_groups, H.holds.few.0) };
      distinct = all_distinct;
    };
    named = all_named;
  }

  members_in_lem : InSet old groups c.groups users owners ms c.members
  members_in_lem = rw (H.holds.members_are ∙ ap (λ (l : List Str). members_in l owners old users c.members) H.holds.groups_are) at H.members_set

  ids_in_lem : Ids old is c.rules (ids_of b.rules)
  ids_in_lem = record { held = H.ids_set; counted = ids_length b.rules ∙ H.holds.rules_count }

  module _ (f : List ℕ) (some' : 0 < length f) where
    pub group_ready : get_or f 0 0 ≡ kind_group → GroupReady old f groups names c.groups
    group_ready k = record { kind = (some', k); few = H.holds.few.0; named = all_named }

    pub member_ready : get_or f 0 0 ≡ kind_member → MemberReady old f groups c.groups users owners ms c.members
    member_ready k = record { kind = (some', k); long = H.sets_long.0; held = members_in_lem }

    pub rule_ready : get_or f 0 0 ≡ kind_rule → RuleReady old f is c.rules
    rule_ready k =
        record { kind = (some', k); long = H.sets_long.1; before = ids_of b.rules; ids = ids_in_lem }

-- ---- what is kept, by its kind

fresh : (b : Earlier) (f name : Str) → entry_of f ≡ some (group name) → refusal b (framed (entry_of f)) ≡ clear → any (same name) b.groups ≡ false
unfolding framed repeats
fresh b f name i h = let k : refusal b (reads (group name)) ≡ clear = rw i at h in (refusal_clear b (group name) k).4

module _ {b : Earlier} {old : List ℕ} {c : Counts} {groups users owners starts holders names ms is : List ℕ}
    (H : Held b old c groups users owners starts holders names ms is) (f : List ℕ) (r : ℕ) where
  pub row_version : get_or f 0 0 ≡ kind_version → ((b : Earlier) → b.kind ≡ c.kind → r ≡ refusal b (framed (entry_of f))) → (r ≡ clear → (v : Str) × (t : Str) × (entry_of f ≡ some (version v t)))
      → (r ≡ refusal b (framed (entry_of f))) × (r ≡ clear → Grown b old f c groups users owners starts holders names ms is)
  row_version k n e = (
    n b H.kind,
    λ x. let v = e x in record { this = version v.0 v.1; reads = v.2; held = rw k (grow_version f H v.0 v.1) },
  )

  pub row_group : {groups' names' : List ℕ} → get_or f 0 0 ≡ kind_group
      → ((b : Earlier) → b.kind ≡ c.kind → b.groups ≡ strings_in old groups c.groups 0 → r ≡ refusal b (framed (entry_of f)))
      → (r ≡ clear → GroupKept old f groups c.groups groups' names')
      → (r ≡ refusal b (framed (entry_of f))) × (r ≡ clear → Grown b old f c groups' users owners starts holders names' ms is)
  row_group k n e =
      let q = n b H.kind H.holds.groups_are in (
        q,
        λ x. let K = e x in record { this = group K.name; reads = K.reads; held = rw k (grow_group f H K (fresh b f K.name K.reads (sym q ∙ x))) },
      )

  pub row_member : {users' owners' ms' : List ℕ} → get_or f 0 0 ≡ kind_member
      → ((b : Earlier) → b.kind ≡ c.kind → b.groups ≡ strings_in old groups c.groups 0 → b.members ≡ members_in b.groups owners old users c.members → r ≡ refusal b (framed (entry_of f)))
      → (r ≡ clear → MemberKept (strings_in old groups c.groups 0) old f users owners c.members users' owners' ms')
      → (r ≡ refusal b (framed (entry_of f))) × (r ≡ clear → Grown b old f c groups users' owners' starts holders names ms' is)
  row_member k n e = (
    n b H.kind H.holds.groups_are H.holds.members_are,
    λ x. let K = e x in record { this = member (record { group = K.group; user = K.user }); reads = K.reads; held = rw k (grow_member f H K) },
  )

  pub row_rule : {starts' holders' is' : List ℕ} → get_or f 0 0 ≡ kind_rule
      → ((b : Earlier) → b.kind ≡ c.kind → b.groups ≡ strings_in old groups c.groups 0 → Ids old is c.rules (ids_of b.rules) → r ≡ refusal b (framed (entry_of f)))
      → (r ≡ clear → RuleKept (strings_in old groups c.groups 0) old f starts holders is c.rules starts' holders' is')
      → (r ≡ refusal b (framed (entry_of f))) × (r ≡ clear → Grown b old f c groups users owners starts' holders' names ms is')
  row_rule k n e = (
    n b H.kind H.holds.groups_are (ids_in_lem H),
    λ x. let K = e x in record { this = rule K.kept; reads = K.reads; held = rw k (grow_rule f H K) },
  )

pub row_unknown : (b : Earlier) (f : List ℕ) (k : ℕ) → 0 < length f → get_or f 0 0 ≡ k → (k ≡ kind_version → ⊥) → (k ≡ kind_group → ⊥) → (k ≡ kind_member → ⊥) → (k ≡ kind_rule → ⊥) → 3 ≡ refusal b (framed (entry_of f))
row_unknown b f k h e p q s t = refused_unread b f (kind_unknown f k h e p q s t)
