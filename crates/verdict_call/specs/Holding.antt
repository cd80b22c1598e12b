-- Which table the arrays of a loaded table hold. This is what the verdicts on them mean, and no part of what they require (`Safe`, of
-- verdict_judge/specs/Rules).
use Rattle.std.specs.Prelude.{ℕ, ◌<◌, ◌≤◌, ◌≡◌, true, false, List, [], length, take, get_or, Result, Ok, Err}
use Rattle.std.proofs.Math.Option.{some}
use Rattle.text.specs.String.{Str}
use Rattle.table.specs.Table.{Table}
use Rattle.verdict.specs.Orderly.{Orderly}
use Rattle.table_rows.specs.Rules.{rule_in, rules_in}
use Rattle.table_membership.specs.Set.{UserGroups}
use Rattle.table_load.specs.Loaded.{bytes}
use Rattle.table_load.specs.declared.loaded.Table as loaded
use Rattle.path.specs.Path.{Path}
use Rattle.path.specs.Bytes.{path_bytes}
use Rattle.path.specs.Refusal.{key_twice}
use Rattle.path_read.specs.TextReader.{read_text}
use Rattle.refusal.specs.Refusal.{number}
use Rattle.refusal.specs.declared.Refusal.{Refusal}
use Rattle.text.specs.Refusal.{clear}
use Rattle.verdict_judge.specs.declared.rules.Rules.{Rules}
use Rattle.verdict_concern.specs.declared.asker.Asker.{Asker}
use Rattle.verdict_request.specs.Calls.{request_refusal}

-- the rules of the table t are the n rules of the bytes; where a rule's subject is a group, `holders` has its number
pub record Holding (t : Table) (f starts holders : List ℕ) (n : ℕ) : Type 0 where
  pub orderly : Orderly t
  pub rules : rules_in f starts n 0 ≡ t.rules
  pub groups : (i : ℕ) → i < n → (rule_in f (get_or starts i 0)).by_group ≡ true
      → (get_or holders i 0 < length t.groups) × (get_or t.groups (get_or holders i 0) [] ≡ (rule_in f (get_or starts i 0)).subject)

-- whichever table the arrays hold, P is true of it
abbrev pub OfTable : List ℕ → List ℕ → List ℕ → ℕ → Str → ℕ → (Table → Type 0) → Type 0
OfTable f starts holders n user set P = (t : Table) → Holding t f starts holders n → UserGroups t user set → P t

-- the same by what the programs go by
abbrev pub OfRules : Rules → Asker → (Table → Type 0) → Type 0
OfRules R a P = OfTable R.bytes.now R.starts.now R.holders.now R.count a.user.now a.set P

-- R are the rules of a loaded table
pub record RulesOf (t : loaded.Table) (R : Rules) : Type 0 where
  pub bytes_are : R.bytes.now ≡ bytes t
  pub starts_are : R.starts.now ≡ t.starts
  pub holders_are : R.holders.now ≡ t.holders
  pub count_is : R.count ≡ t.counts.rules

-- the path of a text was read: the path, and its bytes at the start of the buffer
pub record Read (s : Str) (len : ℕ) (out : List ℕ) : Type 0 where
  pub path : Path
  pub reads : read_text s ≡ some path
  pub once : key_twice path ≡ false
  pub read : take len out ≡ path_bytes path
  pub fits : len ≤ length out

-- the request is refused, or its path was read
unfoldable pub Fetched : Asker → Str → List ℕ → Result ℕ Refusal → Type 0
Fetched a text out (Ok len) = (request_refusal a.user.now a.mode a.origin.now text ≡ clear) × Read text len out
Fetched a text out (Err r) = request_refusal a.user.now a.mode a.origin.now text ≡ number r
