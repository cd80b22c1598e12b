-- A part of a log is converted to its end, run by run.
use Prim.Native.Nat.{ℕ, ◌+◌, ◌-◌, ◌≤◌, ◌<◌}
use native.Mathlib.Omega.{arith}
use borrow.Author.Tests.{lt-ltb, ltb-true, ltb-false}
use mathlib.Core.Path.{◌≡◌, refl}
use mathlib.Core.Bool.{false, ◌||◌, ◌&&◌}
use mathlib.Core.List.{List}
use lib.Dec.{ltb}
use lib.ListN.{length, take, drop, length-drop}
use lib.Seq.{length-take-le}
use Rattle.limits.specs.Limits.{max_log_lines}
use Rattle.text.specs.String.{Str}
use Rattle.text.proofs.Tests.{by, clash}
use Rattle.cli_show.specs.Counts.{IsPrefixLen}
use Rattle.cli_parts.specs.Parts.{whole_length}
use Rattle.cli_parts.proofs.Whole.{whole_within}
use Rattle.readable_log.specs.declared.Run.{Run}
use Rattle.cli_readable.specs.Steps.{Advances}

-- what is left of a text
pub rest_long : (text : Str) (from : ℕ) → length (take (length text - from) (drop from text)) ≡ length text - from
rest_long text from = length-take-le (length text - from) (drop from text) (omega (arith, length-drop from text))

-- the whole lines of what was read
pub whole_inside : (buf : List ℕ) (to r : ℕ) → IsPrefixLen to buf → r ≡ whole_length (take to buf) → r ≤ to
whole_inside buf to r c e = omega (arith, whole_within (take to buf), c.1)

-- a run that does not stop, and after which there may be another line, comes further
pub run_advances : (text : Str) (r : Run) (from whole number : ℕ) → Advances text (max_log_lines + 1 - number) r → length text ≡ whole - from → from < whole
    → (r.stopped || (ltb (from + r.next) whole && ltb max_log_lines (number + r.count))) ≡ false → from < from + r.next
run_advances text r from whole number v l h e =
    by r.stopped (λ u. clash refl (rw u at e))
    (λ u. by (ltb max_log_lines number)
    (λ n. by (ltb (from + r.next) whole)
    (λ w. let many : max_log_lines < number + r.count = omega (arith, ltb-true max_log_lines number n) in clash refl (rw (u, w, lt-ltb max_log_lines (number + r.count) many) at e))
    (λ w. omega (arith, ltb-false (from + r.next) whole w)))
    (λ n. let goes = v.goes u (omega arith) (omega (arith, ltb-false max_log_lines number n)) in omega (arith, goes)))
