-- Demand 3: "For any accepted table and request: action and deciding rule are paper 01's; tree answers are ALL exactly if every path at or beneath
-- is permitted, of any length and any keys, NONE exactly if every one is denied, else MIXED with the rule that 01 picks, and there always is one; and
-- none of it (by id) depends on the order of group, member and rule lines."
-- The definitions named here are those of the contracts of `burgee_path_verdict` and `burgee_tree_verdict`: a table text is accepted where `check`
-- says so, `table_of` is the table that it holds, a request is accepted where `request_refusal` gives no number, and `request` is what it asks.
-- (01 is the customer's paper with the rules.) What is not promised: rule numbers and line numbers change with the order of lines; only ids do not.
use Rattle.std.specs.Prelude.{ℕ, ◌≡◌}
use Rattle.std.proofs.Math.Option.{Option}
use Rattle.text.specs.String.{Str}
use Rattle.text.specs.Refusal.{clear}
use Rattle.table.specs.Table.{Table}
use Rattle.table.specs.Text.{check, table_of}
use Rattle.table.specs.Checked.{Accepted, Refused}
use Rattle.verdict.specs.Order.{Numbered}
use Rattle.verdict.specs.Verdict.{Request, decider, Tree, tree}
use Rattle.verdict.specs.Laws.{Decided, TreeDecided, SameAnswers}
use Rattle.verdict_order.specs.Reordering.{ReorderedLines}
use Rattle.verdict_request.specs.Calls.{request_refusal, request, path_verdict, tree_verdict, decided_by, spread}
use Rattle.verdict_request.specs.PathAnswer as path
use Rattle.verdict_request.specs.TreeAnswer as trees

-- an accepted table text x, and an accepted request
module _ (x user : Str) (mode : ℕ) (origin text : Str) (ok : check x ≡ Accepted) (fine : request_refusal user mode origin text ≡ clear) where
  abbrev pub t : Table
  t = table_of x

  abbrev pub q : Request
  q = request user mode origin text

  pub record PathPromise : Type 0 where
    -- the call answers with the deciding rule, or the default
    pub answers : path_verdict x user mode origin text ≡ decided_by (decider t q)
    -- which is 01's: no rule matches, or it is the best of those that match
    pub decided : Decided t q (decider t q)
    -- and nothing else is
    pub only : (o : Option Numbered) → Decided t q o → decider t q ≡ o

  pub record TreePromise : Type 0 where
    -- the call answers with the tree answer
    pub answers : tree_verdict x user mode origin text ≡ spread (tree t q)
    -- which is 01's: ALL and NONE exactly where they hold of every path at or beneath; otherwise MIXED, with a rule that opposes and none such of
    -- smaller id
    pub exact : TreeDecided t q (tree t q)
    -- and nothing else is
    pub only : (a : Tree) → TreeDecided t q a → tree t q ≡ a

  -- any text y with x's lines in another order, each among its own kind: accepted too, with the same answers by id
  pub record OrderPromise (y : Str) (other : ReorderedLines x y) : Type 0 where
    pub accepted : check y ≡ Accepted
    pub answers : SameAnswers t (table_of y) q

-- any table text x, and any request: "text before request"
module _ (x user : Str) (mode : ℕ) (origin text : Str) where
  pub record VerdictRefusals : Type 0 where
    -- a table text that is refused: its number and line, whatever the request
    pub path_text_lem : (number line : ℕ) → check x ≡ Refused number line → path_verdict x user mode origin text ≡ path.Refused number line
    pub tree_text : (number line : ℕ) → check x ≡ Refused number line → tree_verdict x user mode origin text ≡ trees.Refused number line
    -- a request that is refused, on an accepted table text: its number
    pub path_request : check x ≡ Accepted → ¬ (request_refusal user mode origin text ≡ clear)
        → path_verdict x user mode origin text ≡ path.Refused (request_refusal user mode origin text) 0
    pub tree_request : check x ≡ Accepted → ¬ (request_refusal user mode origin text ≡ clear)
        → tree_verdict x user mode origin text ≡ trees.Refused (request_refusal user mode origin text) 0
