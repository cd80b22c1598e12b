-- The rules that a table's reader read are those that stand at their positions.
use mathlib.Core.Path.{◌≡◌, refl, sym, ap, ap₂, ◌∙◌}
use mathlib.Core.Bool.{true}
use mathlib.Core.List.{List, [], ◌∷◌}
use Prim.Native.Nat.{ℕ, zero, suc, ◌+◌, ◌≤◌, ◌<◌}
use native.Mathlib.Nat.{add-zero}
use native.Mathlib.Omega.{arith}
use lib.ListN.{length, get_or}
use Rattle.table_rows.specs.Strings.{rows_of}
use Rattle.text.specs.String.{Str}
use Rattle.table.specs.Table.{Rule}
use Rattle.table_rows.proofs.RuleBytes.{rule_read}
use Rattle.table_load.specs.Held.{RulesAt, HoldersAt}
use Rattle.table_rows.specs.Rules.{rule_in, rule_end, rules_in}

-- all of them
pub rules_read : (f starts : List ℕ) (rs : List Rule) (i : ℕ) → RulesAt f starts rs i → rules_in f starts (length rs) i ≡ rs
unfolding RulesAt rules_in rows_of
rules_read f starts [] i h = refl
rules_read f starts (r ∷ rs) i h = ap₂ ◌∷◌ (sym (rule_read f (get_or starts i 0) r h.0.0 h.0.1).is) (rules_read f starts rs (suc i) h.1)

pub rules_laid : (f starts : List ℕ) (rs : List Rule) (i : ℕ) → RulesAt f starts rs i → (j : ℕ) → j < length rs → rule_end f (get_or starts (i + j) 0) ≤ length f
unfolding RulesAt
rules_laid f starts [] i h j l = absurd (omega arith)
rules_laid f starts (r ∷ rs) i h zero l = rw (add-zero i) (rule_read f (get_or starts i 0) r h.0.0 h.0.1).fits
rules_laid f starts (r ∷ rs) i h (suc j) l = let e : i + suc j ≡ suc i + j = omega arith in rw e (rules_laid f starts rs (suc i) h.1 j (omega arith))

-- the group of each rule of a group
pub holders_read : (f starts holders : List ℕ) (groups : List Str) (rs : List Rule) (i : ℕ) → RulesAt f starts rs i → HoldersAt groups holders rs i
    → (j : ℕ) → j < length rs → (rule_in f (get_or starts (i + j) 0)).by_group ≡ true
    → (get_or holders (i + j) 0 < length groups) × (get_or groups (get_or holders (i + j) 0) [] ≡ (rule_in f (get_or starts (i + j) 0)).subject)
unfolding RulesAt HoldersAt
holders_read f starts holders groups [] i h g j l = absurd (omega arith)
holders_read f starts holders groups (r ∷ rs) i h g zero l =
    rw (add-zero i) (λ e. let q = (rule_read f (get_or starts i 0) r h.0.0 h.0.1).is in
    let w = g.0 (ap (λ (x : Rule). x.by_group) q ∙ e) in (w.0, w.1 ∙ ap (λ (x : Rule). x.subject) q))
holders_read f starts holders groups (r ∷ rs) i h g (suc j) l =
    let e : i + suc j ≡ suc i + j = omega arith in rw e (holders_read f starts holders groups rs (suc i) h.1 g.1 j (omega arith))
