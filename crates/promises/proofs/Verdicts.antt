-- Demand 3, kept.
use mathlib.Core.Path.{◌≡◌, refl}
use mathlib.Core.Bool.{Bool, true, false}
use mathlib.Core.Option.{Option, none, some}
use Prim.Native.Nat.{ℕ}
use native.Mathlib.Omega.{arith}
use borrow.Author.Tests.{ne_eqb}
use Rattle.text.specs.Test.{◌or◌, whether◌then◌else◌, absent, or_nothing}
use Rattle.text.specs.String.{Str}
use Rattle.text.specs.Refusal.{◌when◌else◌, clear}
use Rattle.text.proofs.Tests.{clash}
use Rattle.path.specs.Path.{Path}
use Rattle.path.specs.Refusal.{key_twice}
use Rattle.path_read.specs.TextReader.{read_text}
use Rattle.path_read.proofs.RoundTrip.{no_stray, no_key_twice, text_reader}
use Rattle.table.specs.Text.{check, table_of}
use Rattle.table.specs.Group.{bad_user}
use Rattle.table.specs.Checked.{Accepted, Refused}
use Rattle.verdict.specs.Verdict.{decider, tree}
use Rattle.verdict.specs.Laws.{of_bytes}
use Rattle.verdict.proofs.OfBytes.{path_of_bytes}
use Rattle.verdict.proofs.Theorems.{verdict, verdict_unique, tree_verdict_lem, tree_unique, reordered}
use Rattle.verdict_order.specs.Reordering.{ReorderedLines}
use Rattle.verdict_order.proofs.Reordered.{accepted_again, tables_reordered, accepted_orderly, accepted_bytes}
use Rattle.verdict_request.specs.Calls.{bad_mode, bad_origin, request_refusal, request, path_answer, path_verdict, tree_answer, tree_verdict, decided_by, spread}
use Rattle.verdict_request.specs.PathAnswer as path
use Rattle.verdict_request.specs.TreeAnswer as trees
use Rattle.promises.specs.Verdicts.{PathPromise, TreePromise, OrderPromise, VerdictRefusals}

-- ---- what an accepted request asks

spelled_well : (a b c : Bool) → (20 when a else 21 when b else 22 when c else clear) ≡ clear → c ≡ false
unfolding whether◌then◌else◌
spelled_well true b c e = absurd (omega arith)
spelled_well false true c e = absurd (omega arith)
spelled_well false false true e = absurd (omega arith)
spelled_well false false false e = refl

is_spelled : (user : Str) (mode : ℕ) (origin text : Str) → request_refusal user mode origin text ≡ clear → absent (read_text text) ≡ false
unfolding request_refusal
is_spelled user mode origin text e = spelled_well (bad_user user or bad_mode mode) (bad_origin origin) _ e

-- a path of bytes, with no key twice in an element
record Fit (p : Path) : Type 0 where
  keys : key_twice p ≡ false
  bytes : of_bytes p ≡ true

fit_of : (text : Str) (o : Option Path) → read_text text ≡ o → absent o ≡ false → Fit (or_nothing o)
unfolding absent or_nothing
fit_of text none e h = clash refl h
fit_of text (some p) e h = let g = (text_reader.only text p e).good in record { keys = no_key_twice p g; bytes = path_of_bytes p (no_stray p g) }

module _ (x user : Str) (mode : ℕ) (origin text : Str) (ok : check x ≡ Accepted) (fine : request_refusal user mode origin text ≡ clear) where
  asked_path : Fit (request user mode origin text).path
  unfolding request
  asked_path = fit_of text (read_text text) refl (is_spelled user mode origin text fine)

  path_answers : path_verdict x user mode origin text ≡ decided_by (decider (table_of x) (request user mode origin text))
  unfolding path_verdict path_answer whether◌then◌else◌
  path_answers = rw (ok, fine)

  tree_answers : tree_verdict x user mode origin text ≡ spread (tree (table_of x) (request user mode origin text))
  unfolding tree_verdict tree_answer whether◌then◌else◌
  tree_answers = rw (ok, fine)

  pub path_promise : PathPromise x user mode origin text ok fine
  path_promise = record { answers = path_answers; decided = verdict _ _; only = verdict_unique _ _ (accepted_orderly x ok) }

  pub tree_promise : TreePromise x user mode origin text ok fine
  tree_promise = record {
    answers = tree_answers;
    exact = tree_verdict_lem _ _ (accepted_orderly x ok) (accepted_bytes x ok) asked_path.keys asked_path.bytes;
    only = tree_unique _ _ (accepted_orderly x ok) (accepted_bytes x ok) asked_path.keys asked_path.bytes;
  }

  pub order_promise : (y : Str) (other : ReorderedLines x y) → OrderPromise x user mode origin text ok fine y other
  order_promise y other = record {
    accepted = accepted_again x y ok other;
    answers = (reordered (table_of x) (table_of y) (accepted_orderly x ok) (tables_reordered x y other)).1 (request user mode origin text);
  }

-- ---- refusals

module _ (x user : Str) (mode : ℕ) (origin text : Str) where
  abbrev number : ℕ
  number = request_refusal user mode origin text

  path_text_lem : (n l : ℕ) → check x ≡ Refused n l → path_verdict x user mode origin text ≡ path.Refused n l
  unfolding path_verdict path_answer
  path_text_lem n l e = rw e

  tree_text : (n l : ℕ) → check x ≡ Refused n l → tree_verdict x user mode origin text ≡ trees.Refused n l
  unfolding tree_verdict tree_answer
  tree_text n l e = rw e

  path_request : check x ≡ Accepted → ¬ (number ≡ clear) → path_verdict x user mode origin text ≡ path.Refused number 0
  unfolding path_verdict path_answer whether◌then◌else◌
  path_request e bad = rw (e, ne_eqb number clear bad)

  tree_request : check x ≡ Accepted → ¬ (number ≡ clear) → tree_verdict x user mode origin text ≡ trees.Refused number 0
  unfolding tree_verdict tree_answer whether◌then◌else◌
  tree_request e bad = rw (e, ne_eqb number clear bad)

  pub verdict_refusals : VerdictRefusals x user mode origin text
  verdict_refusals = record { path_text_lem = path_text_lem; tree_text = tree_text; path_request = path_request; tree_request = tree_request }
