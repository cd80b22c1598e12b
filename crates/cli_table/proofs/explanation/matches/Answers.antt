-- `matches` makes the lines of the table's ranking: the table is loaded, and the path read.
use native.Mathlib.Omega.{arith}
use mathlib.Core.Path.{sym, ap, ◌∙◌}
use Prim.Native.Nat.{ℕ}
use lib.ListN.{length, length-replicate}
use lib.Seq.{length-take-le}
use Rattle.limits.specs.Sizes.{max_path_bytes}
use Rattle.path_read.specs.Calls.{filled_of}
use Rattle.table_check.proofs.Calls.{outcome_kept, outcome_refused, count_requires}
use Rattle.verdict_call.proofs.Spelled.{was_read, was_unread, path_bytes_lem}
use Rattle.verdict_call.proofs.Holding.{safe, of_table}
use Rattle.cli_table.proofs.Matches.{matches_listed, no_path, no_table}
use Rattle.cli_table.proofs.explanation.matches.Goals as goal

pub memberships-requires : goal.memberships-requires
memberships-requires c =
    rw c.bytes-f.ensures (count_requires (outcome_kept _ _ _ c.load.ensures c.in-Ok-load.is))

pub slice_bounds-bytes-end : goal.slice_bounds-bytes-end
slice_bounds-bytes-end c =
    (was_read c.args.path.now _ c.read_text.new.out
    (omega (arith, length-replicate {A = ℕ} max_path_bytes 0)) _ c.read_text.ensures.0
    c.read_text.ensures.1 _ (ap filled_of c.in-Ok.is)).fits

pub slice_bounds-read-end : goal.slice_bounds-read-end
slice_bounds-read-end c =
    sym (length-take-le _ _ (was_read c.args.path.now _ c.read_text.new.out
    (omega (arith, length-replicate {A = ℕ} max_path_bytes 0)) _ c.read_text.ensures.0
    c.read_text.ensures.1 _ (ap filled_of c.in-Ok.is)).fits)

pub read-asked-requires : goal.read-asked-requires
read-asked-requires c =
    let r = was_read c.args.path.now _ c.read_text.new.out
    (omega (arith, length-replicate {A = ℕ} max_path_bytes 0)) _ c.read_text.ensures.0
    c.read_text.ensures.1 _ (ap filled_of c.in-Ok.is) in (path_bytes_lem _ r.path r.read).0

pub rules_of-requires : goal.rules_of-requires
rules_of-requires c = safe (outcome_kept _ _ _ c.load.ensures c.in-Ok-load.is)

pub rank_rules-m-requires : goal.rank_rules-m-requires
rank_rules-m-requires c =
    let K = outcome_kept _ _ _ c.load.ensures c.in-Ok-load.is in
    let few = K.holds.few.2 in omega (arith, c.rules_of.ensures.count_is)

pub add_ranking-requires : goal.add_ranking-requires
add_ranking-requires c =
    let K = outcome_kept _ _ _ c.load.ensures c.in-Ok-load.is in
    let few = K.holds.few.2 in
    let m = (rw c.rules_of.ensures.count_is at c.rank_rules-m.ensures.rule_numbers).few in
    (omega arith, (record { placed = rw c.bytes-f.ensures (safe K).rules; listed = rw c.rules_of.ensures.count_is at c.rank_rules-m.ensures.rule_numbers; held = omega arith }, omega (arith, few, m, ap length c.new-text.ensures)))

pub returns-in_default : goal.returns-in_default
returns-in_default c =
    no_path _ _ _ _ _ _ (was_unread c.args.path.now _ c.read_text.new.out
    (omega (arith, length-replicate {A = ℕ} max_path_bytes 0)) _ c.read_text.ensures.0 _ (ap filled_of c.in_default.is))

pub returns-in_default-load : goal.returns-in_default-load
returns-in_default-load c =
    no_table _ _ _ _ _ _ _ _ (outcome_refused _ _ _ c.load.ensures _ c.in_default-load.is)

pub returns : goal.returns
returns c =
    let K = outcome_kept _ _ _ c.load.ensures c.in-Ok-load.is in
    let R = was_read c.args.path.now _ c.read_text.new.out
    (omega (arith, length-replicate {A = ℕ} max_path_bytes 0)) _ c.read_text.ensures.0
    c.read_text.ensures.1 _ (ap filled_of c.in-Ok.is) in
    matches_listed K _ _ _ _ _ _ R _ (rw c.bytes-f.ensures at c.memberships.ensures) _
    (rw c.read-asked.ensures.path at (of_table _ _ c.rules_of.ensures _ _ _ c.rank_rules-m.ensures.of_table))
    _ (rw (c.bytes-f.ensures, c.new-text.ensures) at c.add_ranking.ensures)
