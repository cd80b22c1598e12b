-- The parts of a page.
use Prim.Native.Nat.{ℕ}
use native.Mathlib.Omega.{arith}
use borrow.Author.Tests.{eq-eqb, ne_eqb}
use mathlib.Core.Path.{◌≡◌, sym, ap, ◌∙◌}
use mathlib.Core.List.{List, [], ◌∷◌, ◌++◌, append-nil, append_assoc}
use lib.ListN.{length, take, length-append}
use Rattle.text.specs.Test.{whether◌then◌else◌}
use Rattle.text.specs.String.{Str}
use Rattle.table.specs.Text.{check, table_of}
use Rattle.table.specs.Checked as checked
use Rattle.table_load.specs.declared.loaded.Table.{Table}
use Rattle.table_load.specs.Loaded.{Kept, bytes}
use Rattle.limits.specs.Limits.{max_rules}
use Rattle.verdict_judge.specs.declared.rules.Rules.{Rules}
use Rattle.verdict_call.specs.Holding.{RulesOf}
use Rattle.verdict_call.proofs.Holding.{holding}
use Rattle.season_parts.specs.Grid.{FewCells}
use Rattle.season_count.specs.declared.count.Tally.{Tally}
use Rattle.cli_season_rules.specs.Steps.{Few, Listable}
use Rattle.cli_season.specs.Page.{none_line, or_none, page_of, page}
use Rattle.cli_season.specs.Steps.{none_from, rules_of, MakesPage}
use Rattle.cli_season_rules.proofs.Listing.{rules_long}

-- lines, or that there are none
pub none_or : (d lines d' : List ℕ) → d' ≡ d ++ lines → (d'' : List ℕ) → d'' ≡ d' ++ none_from (length d) (length d') → d'' ≡ d ++ or_none lines
unfolding or_none none_from whether◌then◌else◌
none_or d [] d' a d'' b =
    let q : length d ≡ length d' = omega (arith, ap length a, length-append d []) in
    b ∙ rw (eq-eqb _ _ q, a) (append_assoc d [] none_line)
none_or d (x ∷ xs) d' a d'' b =
    let q : length d ≡ length d' → ⊥ = λ z. omega (arith, ap length a, length-append d (x ∷ xs), z) in
    b ∙ rw (ne_eqb _ _ q, ne_eqb (length (x ∷ xs)) 0 (omega arith), a) (append-nil (d ++ (x ∷ xs)))

-- ---- on a loaded table

pub page_made : {text : List ℕ} {t : Table} → Kept text t → (R : Rules) → RulesOf t R
    → (counts : List ℕ) (grid : List (List ℕ)) (made : List ℕ) → made ≡ page_of (rules_of R) (take R.count counts) grid
    → MakesPage text counts grid made
unfolding page
page_made {text} {t} K R A counts grid made e accepted =
    let r : length (table_of text).rules ≡ t.counts.rules = ap length (sym (holding K).rules) ∙ rules_long (bytes t) t.starts t.counts.rules in
    rw r (rw (holding K).rules at (rw (A.bytes_are, A.starts_are, A.count_is) at e))

pub no_page : (text : Str) (counts : List ℕ) (grid : List (List ℕ)) (made : List ℕ) (x l : ℕ) → checked.Refused x l ≡ check text → MakesPage text counts grid made
no_page text counts grid made x l h accepted = let z : checked.Refused x l ≡ checked.Accepted = h ∙ accepted in let y : ◌≡◌ {A = ℕ} 0 1 = cc in absurd (omega arith)

-- ---- what a tally keeps

module _ (t : Tally) where
  pub few_rules : Few t.rules
  few_rules i = omega (arith, t.low.rules i, t.few)

  pub few_cells : FewCells t.grid
  few_cells r c = omega (arith, t.low.cells r c, t.few)

pub listable : (R : Rules) (counts : List ℕ) → length counts ≡ max_rules → Few counts → Listable R.bytes.now R.starts.now R.count counts
listable R counts l f = record { placed = R.safe.rules; counted = omega (arith, l, R.safe.few); few = f }
