-- The lines on a user's groups, by the table's text.
use Prim.Native.Nat.{ℕ}
use native.Mathlib.Omega.{arith}
use mathlib.Core.Path.{◌≡◌, refl, sym, ◌∙◌}
use mathlib.Core.List.{◌++◌, append-nil}
use Rattle.text.specs.String.{Str}
use Rattle.table.specs.Table.{Table}
use Rattle.table.specs.Text.{check, table_of}
use Rattle.table.specs.Group.{groups_of, count_for, group_count}
use Rattle.table.specs.Checked.{Checked}
use Rattle.table.specs.Checked as checked
use Rattle.table.specs.Counted.{Counted}
use Rattle.table.specs.Counted as counted
use Rattle.table.specs.declared.GroupNumber.{GroupNumber}
use Rattle.table_load.specs.declared.row.Counts.{Counts}
use Rattle.table_membership.specs.Set.{numbers_in}
use Rattle.table_membership.proofs.Numbers.{numbers_are}
use Rattle.table_check.specs.Look.{TableTold}
use Rattle.cli_answers.specs.Rows.{groups_line, group_lines, below_count, groups_text}
use Rattle.cli_answers.specs.Steps.{ListsGroups}

-- ---- on a table that was looked at

pub groups_listed : (text user : Str) {c : Counts} {set : ℕ} (d d' : Str) → TableTold text user c set
    → d' ≡ d ++ group_lines text (numbers_in set c.groups 0) → ListsGroups text user d d'
groups_listed text user {c} {set} d d' k a accepted =
    let e : numbers_in set c.groups 0 ≡ groups_of (table_of text) user = rw k.groups (numbers_are (table_of text) user set k.has) in
    rw e at a

pub no_table : (text user : Str) {n l : ℕ} (d d' : Str) → check text ≡ checked.Refused n l → ListsGroups text user d d'
no_table text user {n} {l} d d' h accepted = let z : checked.Refused n l ≡ checked.Accepted = sym h ∙ accepted in let y : ◌≡◌ {A = ℕ} 0 1 = cc in absurd (omega arith)

-- ---- below the count

accepted_count : (c : Checked) (t : Table) (user : Str) (n : ℕ) (first : GroupNumber) → counted.Count n first ≡ count_for c t user → c ≡ checked.Accepted
unfolding count_for
accepted_count checked.Accepted t user n first e = refl
accepted_count (checked.Refused x l) t user n first e = let z : counted.Count n first ≡ counted.Declined x l = e in let y : ◌≡◌ {A = ℕ} 0 1 = cc in absurd (omega arith)

module _ (text user : Str) {c : Counted} (e : c ≡ group_count text user) (d : Str) (a : d ≡ groups_line c) where
  -- one or more
  pub groups_told : {n : ℕ} {first : GroupNumber} (d' : Str) → c ≡ counted.Count n first → ListsGroups text user d d' → d' ≡ groups_text text user
  unfolding groups_text below_count group_count
  groups_told {n} {first} d' i h =
      let q : counted.Count n first ≡ group_count text user = sym i ∙ e in
      let b : d ≡ groups_line (counted.Count n first) = rw i at a in
      rw (sym q) (h (accepted_count (check text) (table_of text) user n first q) ∙ rw b)

  pub none_told : c ≡ counted.NoGroup → d ≡ groups_text text user
  unfolding groups_text below_count
  none_told i =
      let q : group_count text user ≡ counted.NoGroup = sym e ∙ i in
      let b : d ≡ groups_line counted.NoGroup = rw i at a in
      rw (q, append-nil (groups_line counted.NoGroup)) b

  pub refusal_bare : {n l : ℕ} → c ≡ counted.Declined n l → d ≡ groups_text text user
  unfolding groups_text below_count
  refusal_bare {n} {l} i =
      let q : group_count text user ≡ counted.Declined n l = sym e ∙ i in
      let b : d ≡ groups_line (counted.Declined n l) = rw i at a in
      rw (q, append-nil (groups_line (counted.Declined n l))) b
