-- No id of an accepted table is longer than a line shows.
use Prim.Native.Nat.{ℕ, ◌≤◌}
use mathlib.Core.Path.{◌≡◌}
use lib.ListN.{length, get_or-map}
use Rattle.limits.specs.Limits.{max_string}
use Rattle.text.specs.String.{Str}
use Rattle.table.specs.Table.{Rule}
use Rattle.table.specs.Text.{check, table_of}
use Rattle.table.specs.Checked.{Accepted}
use Rattle.table_facts.specs.Facts.{name_of}
use Rattle.table_facts.specs.declared.Row.TheVariants as row
use Rattle.cli_answers.proofs.Whole.{whole, whole_names}
use Rattle.cli_explained.specs.Explained.{no_rule, rule_of}
use Rattle.cli_explained.specs.Whole.{WholeIds}

id_fits : (text : Str) → check text ≡ Accepted → (n : ℕ) → length (rule_of (table_of text).rules n).id ≤ max_string
unfolding name_of rule_of no_rule
id_fits text e n = rw (e, get_or-map (λ (r : Rule). r.id) (table_of text).rules n no_rule) at (whole_names.fits text (row.Rule (record { 0 = n })))

pub whole_ids : WholeIds
whole_ids = record { shown = λ text e n. whole _ (id_fits text e n) }
