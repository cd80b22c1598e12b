-- What the loops find in a loaded table is what the definitions say of the table.
use mathlib.Core.Path.{◌≡◌, ap, ◌∙◌}
use mathlib.Core.Bool.{Bool, false}
use mathlib.Core.List.{List}
use Prim.Native.Nat.{ℕ, ◌<◌}
use lib.Dec.{eqb}
use lib.ListN.{get_or}
use Rattle.text.specs.Test.{◌and◌, whether◌then◌else◌}
use Rattle.text.specs.String.{Str, same}
use Rattle.text.proofs.Tests.{by}
use Rattle.path.specs.Path.{Path}
use Rattle.path.specs.Refusal.{key_twice}
use Rattle.table.specs.Table.{Rule, Table}
use Rattle.table.specs.Group.{lists}
use Rattle.verdict.specs.Order.{better, earlier, Numbered, choose}
use Rattle.verdict.specs.Verdict.{Request, concerns, applies, decider, action, permits, opposes, answer, tree}
use Rattle.table_rows.specs.Rules.{rule_in, rules_in}
use Rattle.verdict_judge.specs.Rules.{Marked}
use mathlib.Core.Option.{Option}
use Rattle.verdict_judge.specs.Best.{matching}
use Rattle.verdict_judge.proofs.Verdict.{decided}
use Rattle.verdict_tree.specs.Tree.{opposing, fitting}
use Rattle.verdict_tree.proofs.Verdict.{opposed}
use Rattle.verdict_concern.specs.Concern.{concerns_by, applies_by, Applying}
use Rattle.verdict_request.specs.Calls.{asked}
use Rattle.table_membership.specs.Set.{UserGroups}
use Rattle.verdict_call.specs.Holding.{Holding}

-- ---- the rules that concern the request

module _ (t : Table) (f starts holders : List ℕ) (n : ℕ) (holding : Holding t f starts holders n) (user : Str) (set : ℕ) (groups : UserGroups t user set) where
  concerned : (i : ℕ) → i < n → concerns_by set (get_or holders i 0) user (rule_in f (get_or starts i 0)) ≡ concerns t (rule_in f (get_or starts i 0)) user
  unfolding concerns_by concerns whether◌then◌else◌
  concerned i l =
      by (rule_in f (get_or starts i 0)).by_group
      (λ e. let h = holding.groups i l e in rw e (groups (get_or holders i 0) h.0 ∙ ap (λ (s : Str). lists t.members user s) h.1))
      (λ e. rw e)

  pub applied : (mode : ℕ) (origin : Str) (p : Path) (i : ℕ) → i < n
      → applies_by set (get_or holders i 0) user mode origin (rule_in f (get_or starts i 0)) ≡ applies t (asked user mode origin p) (rule_in f (get_or starts i 0))
  unfolding applies applies_by
  applied mode origin p i l =
      ap (λ (b : Bool). eqb (rule_in f (get_or starts i 0)).mode mode and same (rule_in f (get_or starts i 0)).origin origin and b) (concerned i l)

  module _ (mode : ℕ) (origin : Str) (p : Path) (on : List Bool) (a : Applying f starts holders n set user mode origin on) where
    pub marks : Marked (applies t (asked user mode origin p)) f starts on n
    marks i l = a i l ∙ applied mode origin p i l

    -- the deciding rule
    pub found : (x : Option Numbered) → ((app : Rule → Bool) → Marked app f starts on n → x ≡ choose better (matching app p) 0 (rules_in f starts n 0))
        → x ≡ decider t (asked user mode origin p)
    found x h =
        h (applies t (asked user mode origin p)) marks
        ∙ ap (λ (rs : List Rule). choose better (matching (applies t (asked user mode origin p)) p) 0 rs) holding.rules
        ∙ decided t (asked user mode origin p)

    pub verdict_is : (x : Option Numbered) (v : Bool)
        → ((app : Rule → Bool) → Marked app f starts on n → x ≡ choose better (matching app p) 0 (rules_in f starts n 0))
        → v ≡ action x → v ≡ permits t (asked user mode origin p)
    unfolding permits
    verdict_is x v h e = e ∙ ap action (found x h)

    -- the opposing rule
    module _ (v : Bool) (x : Option Numbered)
        (h : (app : Rule → Bool) → Marked app f starts on n → x ≡ choose earlier (opposing (fitting app p) (rules_in f starts n 0) p v) 0 (rules_in f starts n 0)) where
      pub spread_is : key_twice p ≡ false → v ≡ permits t (asked user mode origin p) → answer v x ≡ tree t (asked user mode origin p)
      unfolding tree
      spread_is k e =
          let q : Request = asked user mode origin p in
          let o : x ≡ choose earlier (opposes t q) 0 t.rules =
          h (applies t q) marks
          ∙ ap (λ (rs : List Rule). choose earlier (opposing (fitting (applies t q) p) rs p v) 0 rs) holding.rules
          ∙ ap (λ (w : Bool). choose earlier (opposing (fitting (applies t q) p) t.rules p w) 0 t.rules) e
          ∙ opposed t q holding.orderly k in
          rw (o, e)
