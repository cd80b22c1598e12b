-- Which rules concern a request, by its mode, its origin, its user, and `set`, the set of the user's groups: `applies` of verdict/specs/Verdict,
-- with the group of a rule as its number.
use Rattle.std.specs.Prelude.{ℕ, ◌<◌, ◌≡◌, Bool, false, List, eqb, get_or}
use Rattle.text.specs.Test.{◌and◌, whether◌then◌else◌}
use Rattle.text.specs.String.{Str, same}
use Rattle.table.specs.Table.{Rule}
use Rattle.table_membership.specs.Set.{has_of}
use Rattle.table_rows.specs.Rules.{rule_in}
use Rattle.verdict_judge.specs.Place.{nth}
use Rattle.verdict_judge.specs.declared.rules.Rules.{Rules}
use Rattle.verdict_concern.specs.declared.asker.Asker.{Asker}

-- the subject is the user or a group of the user; g is its number, if it is a group
unfoldable pub concerns_by : ℕ → ℕ → Str → Rule → Bool
concerns_by set g user r = whether r.by_group then has_of set g else same r.subject user

-- and mode and origin are equal
unfoldable pub applies_by : ℕ → ℕ → Str → ℕ → Str → Rule → Bool
applies_by set g user mode origin r = eqb r.mode mode and same r.origin origin and concerns_by set g user r

-- `on` marks those of the first n rules that apply
abbrev pub Applying : List ℕ → List ℕ → List ℕ → ℕ → ℕ → Str → ℕ → Str → List Bool → Type 0
Applying f starts holders n set user mode origin on =
    (i : ℕ) → i < n → get_or on i false ≡ applies_by set (get_or holders i 0) user mode origin (rule_in f (get_or starts i 0))

-- ---- by what the programs go by

abbrev pub applies_to : Asker → Rules → ℕ → Bool
applies_to a R i = applies_by a.set (get_or R.holders.now i 0) a.user.now a.mode a.origin.now (nth R i)

abbrev pub Marks : Asker → Rules → List Bool → Type 0
Marks a R on = Applying R.bytes.now R.starts.now R.holders.now R.count a.set a.user.now a.mode a.origin.now on
