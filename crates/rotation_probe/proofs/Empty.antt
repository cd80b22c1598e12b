-- A table without rules, as which factory answers.
use mathlib.Core.Path.{◌≡◌, refl}
use mathlib.Core.Bool.{Bool}
use mathlib.Core.List.Memᴰ
use mathlib.Core.List.{List, []}
use mathlib.Core.Option.{none}
use Prim.Native.Nat.{ℕ, ◌<◌}
use native.Mathlib.Omega.{arith}
use lib.ListN.{length}
use Rattle.table_rows.specs.Strings.{rows_of}
use Rattle.text.specs.String.{Str}
use Rattle.text.specs.Test.{twice}
use Rattle.table.specs.Table.{Table}
use Rattle.verdict.specs.Order.{choose}
use Rattle.verdict.specs.Verdict.{Request, decider, action, permits, word, answer, tree, NONE}
use Rattle.verdict.specs.Orderly.{Orderly}
use Rattle.table_rows.specs.Rules.{rules_in}
use Rattle.table.specs.Checked.{Accepted}
use Rattle.verdict_request.specs.Calls.{path_answer, tree_answer}
use Rattle.verdict_judge.specs.Rules.{Safe}
use Rattle.table_membership.specs.Set.{UserGroups}
use Rattle.verdict_call.specs.Holding.{Holding}

abbrev pub empty : Table
empty = record { groups = []; members = []; rules = [] }

no_decider : (q : Request) → decider empty q ≡ none
unfolding decider choose
no_decider q = refl

no_tree : (q : Request) → tree empty q ≡ NONE
unfolding tree permits action answer word decider choose
no_tree q = refl

pub path_is : (number : ℕ) (q : Request) → path_answer Accepted number (decider empty q) ≡ path_answer Accepted number none
path_is number q = rw (no_decider q)

pub tree_is : (number : ℕ) (q : Request) → tree_answer Accepted number (tree empty q) ≡ tree_answer Accepted number NONE
tree_is number q = rw (no_tree q)

orderly : Orderly empty
unfolding twice
orderly = record { ids = refl; keys = λ r m. absurd (Memᴰ.not-nil m) }

pub safe : (f starts holders : List ℕ) → length f < 65536 → Safe f starts holders 0
safe f starts holders h = record {
  rules = record { laid = λ i l. absurd (omega arith); each = omega arith; short = h };
  few = omega arith;
  each = omega arith;
  groups = λ i l. absurd (omega arith);
}

pub holding : (f starts holders : List ℕ) → Holding empty f starts holders 0
unfolding rules_in rows_of
holding f starts holders = record { orderly = orderly; rules = refl; groups = λ i l. absurd (omega arith) }

pub groups : (user : Str) (set : ℕ) → UserGroups empty user set
groups user set g l = absurd (omega arith)
