-- Frames, read step by step.
use mathlib.Core.Path.{◌≡◌, refl, ◌∙◌}
use mathlib.Core.Option.{none, some}
use Prim.Native.Nat.{ℕ, ◌+◌, ◌-◌, ◌≤◌, ◌<◌}
use native.Mathlib.Omega.{arith}
use borrow.Author.Tests.{eq-eqb, ne_eqb, le-leb}
use lib.Dec.{leb}
use lib.ListN.{length, get_or}
use Rattle.text.specs.Test.{whether◌then◌else◌}
use Rattle.text.specs.String.{Str}
use Rattle.text.specs.Frame.{got, unread, ◌>>=◌, ret, part, run, string}
use Rattle.text.proofs.Tests.{by}
use Rattle.text.proofs.Frames.{byte_got}
use Rattle.table.specs.Table.{Rule}
use Rattle.table.specs.Frame.{version, group, member, rule, unknown, version_body, group_body, member_body, rule_body, rule_entry, body, entry, whole, entry_of}

-- after the kind byte
pub entry_body : (f : Str) (k : ℕ) → 0 < length f → get_or f 0 0 ≡ k → entry_of f ≡ whole f (body k f 1)
unfolding entry_of entry ◌>>=◌
entry_body f k h e = rw (byte_got f 0 h, e)

whole_unread : {A : Type 0} (f : Str) → whole {A = A} f unread ≡ none
unfolding whole
whole_unread f = refl

whole_got : {A : Type 0} (f : Str) (a : A) (t : ℕ) → t ≡ length f → whole f (got a t) ≡ some a
unfolding whole whether◌then◌else◌
whole_got f a t e = rw (eq-eqb t (length f) e)

whole_other : {A : Type 0} (f : Str) (a : A) (t : ℕ) → (t ≡ length f → ⊥) → whole f (got a t) ≡ none
unfolding whole whether◌then◌else◌
whole_other f a t e = rw (ne_eqb t (length f) e)

-- ---- an unknown kind

pub kind_unknown : (f : Str) (k : ℕ) → 0 < length f → get_or f 0 0 ≡ k → (k ≡ 1 → ⊥) → (k ≡ 2 → ⊥) → (k ≡ 3 → ⊥) → (k ≡ 4 → ⊥) → entry_of f ≡ none
unfolding body whether◌then◌else◌ unknown
kind_unknown f k h e a b c d = entry_body f k h e ∙ rw (ne_eqb k 1 a, ne_eqb k 2 b, ne_eqb k 3 c, ne_eqb k 4 d) (whole_unread f)

-- ---- version

module _ (f : Str) (h : 0 < length f) (k : get_or f 0 0 ≡ 1) where
  version_body_lem : entry_of f ≡ whole f (version_body f 1)
  unfolding body whether◌then◌else◌
  version_body_lem = entry_body f 1 h k

  pub version_unread : string f 1 ≡ unread → entry_of f ≡ none
  unfolding version_body ◌>>=◌
  version_unread e = version_body_lem ∙ rw e (whole_unread f)

  module _ (v : Str) (t : ℕ) (e : string f 1 ≡ got v t) (l : t ≤ length f) where
    pub version_off : (length f - t ≡ 8 → ⊥) → entry_of f ≡ none
    unfolding version_body ◌>>=◌ run ret whether◌then◌else◌
    version_off n =
        version_body_lem
        ∙ rw e
        (by (leb 8 (length f - t))
        (λ u. rw u (whole_other f _ (t + 8) (λ q. n (omega arith))))
        (λ u. rw u (whole_unread f)))

    pub version_read : length f - t ≡ 8 → entry_of f ≡ some (version v (part f t (t + 8)))
    unfolding version_body ◌>>=◌ run ret whether◌then◌else◌
    version_read n = version_body_lem ∙ rw (e, le-leb 8 (length f - t) (omega arith)) (whole_got f _ (t + 8) (omega arith))

-- ---- group

module _ (f : Str) (h : 0 < length f) (k : get_or f 0 0 ≡ 2) where
  group_body_lem : entry_of f ≡ whole f (group_body f 1)
  unfolding body whether◌then◌else◌
  group_body_lem = entry_body f 2 h k

  pub group_unread : string f 1 ≡ unread → entry_of f ≡ none
  unfolding group_body ◌>>=◌
  group_unread e = group_body_lem ∙ rw e (whole_unread f)

  module _ (n : Str) (t : ℕ) (e : string f 1 ≡ got n t) where
    pub group_off : (t ≡ length f → ⊥) → entry_of f ≡ none
    unfolding group_body ◌>>=◌ ret
    group_off o = group_body_lem ∙ rw e (whole_other f (group n) t o)

    pub group_read : t ≡ length f → entry_of f ≡ some (group n)
    unfolding group_body ◌>>=◌ ret
    group_read o = group_body_lem ∙ rw e (whole_got f (group n) t o)

-- ---- member

module _ (f : Str) (h : 0 < length f) (k : get_or f 0 0 ≡ 3) where
  member_body_lem : entry_of f ≡ whole f (member_body f 1)
  unfolding body whether◌then◌else◌
  member_body_lem = entry_body f 3 h k

  pub member_unread : string f 1 ≡ unread → entry_of f ≡ none
  unfolding member_body ◌>>=◌
  member_unread e = member_body_lem ∙ rw e (whole_unread f)

  module _ (g : Str) (m : ℕ) (e : string f 1 ≡ got g m) where
    pub member_userless : string f m ≡ unread → entry_of f ≡ none
    unfolding member_body ◌>>=◌
    member_userless d = member_body_lem ∙ rw (e, d) (whole_unread f)

    module _ (u : Str) (t : ℕ) (d : string f m ≡ got u t) where
      pub member_off : (t ≡ length f → ⊥) → entry_of f ≡ none
      unfolding member_body ◌>>=◌ ret
      member_off o = member_body_lem ∙ rw (e, d) (whole_other f _ t o)

      pub member_read : t ≡ length f → entry_of f ≡ some (member (record { group = g; user = u }))
      unfolding member_body ◌>>=◌ ret
      member_read o = member_body_lem ∙ rw (e, d) (whole_got f _ t o)

-- ---- rule

module _ (f : Str) (h : 0 < length f) (k : get_or f 0 0 ≡ 4) where
  rule_body_lem : entry_of f ≡ whole f (rule_entry f 1)
  unfolding body whether◌then◌else◌
  rule_body_lem = entry_body f 4 h k

  pub rule_none : rule_body f 1 ≡ unread → entry_of f ≡ none
  unfolding rule_entry ◌>>=◌
  rule_none e = rule_body_lem ∙ rw e (whole_unread f)

  module _ (r : Rule) (t : ℕ) (e : rule_body f 1 ≡ got r t) where
    pub rule_off : (t ≡ length f → ⊥) → entry_of f ≡ none
    unfolding rule_entry ◌>>=◌ ret
    rule_off o = rule_body_lem ∙ rw e (whole_other f (rule r) t o)

    pub rule_read : t ≡ length f → entry_of f ≡ some (rule r)
    unfolding rule_entry ◌>>=◌ ret
    rule_read o = rule_body_lem ∙ rw e (whole_got f (rule r) t o)
