-- A loaded table can be read, and holds the table of its text.
use mathlib.Core.Path.{◌≡◌, sym, ◌∙◌}
use mathlib.Core.Bool.{Bool, true}
use mathlib.Core.List.{List, []}
use Prim.Native.Nat.{ℕ, ◌+◌, ◌<◌}
use native.Mathlib.Omega.{arith}
use lib.ListN.{length, take, get_or}
use Rattle.text.specs.String.{Str}
use Rattle.table.specs.Text.{table_of}
use Rattle.table_load.specs.declared.loaded.Table.{Table}
use Rattle.refusal.specs.Refusal.{number}
use Rattle.refusal.specs.declared.fault.Fault.{Fault}
use Rattle.table_load.specs.Loaded.{Kept, bytes}
use Rattle.table_check.proofs.Calls.{named_long, front_is}
use Rattle.table_rows.specs.Rules.{rule_in, rules_in}
use Rattle.verdict_judge.specs.Rules.{RulesLaid}
use Rattle.table.specs.Table as model
use Rattle.table.specs.Text.{check}
use Rattle.table.specs.Checked as checked
use Rattle.verdict.specs.Verdict.{decider, tree}
use Rattle.verdict_judge.specs.Rules.{Safe}
use Rattle.verdict_judge.specs.declared.rules.Rules.{Rules}
use Rattle.verdict_call.specs.Holding.{Holding, OfTable, RulesOf}
use Rattle.verdict_request.specs.PathAnswer as answers
use Rattle.verdict_request.specs.TreeAnswer as trees
use Rattle.verdict_request.specs.Calls.{request_refusal, request, path_answer, path_verdict, tree_answer, tree_verdict}
use Rattle.verdict_call.proofs.RuleBytes.{rules_read, rules_laid, holders_read}
use Rattle.verdict_order.proofs.Reordered.{accepted_orderly}

module _ {text : List ℕ} {t : Table} (K : Kept text t) where
  rules_are : rules_in (bytes t) t.starts t.counts.rules 0 ≡ (table_of text).rules
  rules_are = rw (sym K.holds.rules_count) (rules_read (bytes t) t.starts (table_of text).rules 0 K.holds.rules_are)

  laid : RulesLaid (bytes t) t.starts t.counts.rules
  laid i l =
      let z : 0 + i ≡ i = omega arith in
      let k : i < length (table_of text).rules = omega (arith, K.holds.rules_count) in
      rw z at (rules_laid (bytes t) t.starts (table_of text).rules 0 K.holds.rules_are i k)

  groups_are : (i : ℕ) → i < t.counts.rules → (rule_in (bytes t) (get_or t.starts i 0)).by_group ≡ true
      → (get_or t.holders i 0 < length (table_of text).groups) × (get_or (table_of text).groups (get_or t.holders i 0) [] ≡ (rule_in (bytes t) (get_or t.starts i 0)).subject)
  groups_are i l e =
      let z : 0 + i ≡ i = omega arith in
      let k : i < length (table_of text).rules = omega (arith, K.holds.rules_count) in
      (rw z at (holders_read (bytes t) t.starts t.holders (table_of text).groups (table_of text).rules 0 K.holds.rules_are K.holds.holders_are i k)) e

  pub safe : Safe (bytes t) t.starts t.holders t.counts.rules
  safe =
      record {
        rules = record { laid = laid; each = omega (arith, K.holds.long.of_starts, K.holds.few.2); short = omega (arith, front_is K, K.within.1) };
        few = K.holds.few.2;
        each = omega (arith, K.holds.long.of_holders, K.holds.few.2);
        groups = λ i l e. omega (arith, (groups_are i l e).0, named_long K, K.holds.few.0);
      }

  pub holding : Holding (table_of text) (bytes t) t.starts t.holders t.counts.rules
  holding = record { orderly = accepted_orderly text K.accepts; rules = rules_are; groups = groups_are }

-- what is known of a table's rules is known of the rules that stand for them
pub of_table : (t : Table) (R : Rules) → RulesOf t R → (user : Str) (set : ℕ) (P : model.Table → Type 0)
    → OfTable R.bytes.now R.starts.now R.holders.now R.count user set P → OfTable (bytes t) t.starts t.holders t.counts.rules user set P
of_table t R e user set P h = rw (sym e.bytes_are, sym e.starts_are, sym e.holders_are, sym e.count_is) h

module _ (text user : Str) (mode : ℕ) (origin path : Str) where
  pub path_refused_is : (f : Fault) → check text ≡ checked.Refused (number f.refusal) f.line
      → answers.Refused (number f.refusal) f.line ≡ path_verdict text user mode origin path
  unfolding path_verdict path_answer
  path_refused_is f e = rw e

  pub tree_refused_is : (f : Fault) → check text ≡ checked.Refused (number f.refusal) f.line
      → trees.Refused (number f.refusal) f.line ≡ tree_verdict text user mode origin path
  unfolding tree_verdict tree_answer
  tree_refused_is f e = rw e

  pub path_kept : check text ≡ checked.Accepted
      → path_answer checked.Accepted (request_refusal user mode origin path) (decider (table_of text) (request user mode origin path))
      ≡ path_verdict text user mode origin path
  unfolding path_verdict
  path_kept e = rw e

  pub tree_kept : check text ≡ checked.Accepted
      → tree_answer checked.Accepted (request_refusal user mode origin path) (tree (table_of text) (request user mode origin path))
      ≡ tree_verdict text user mode origin path
  unfolding tree_verdict
  tree_kept e = rw e
