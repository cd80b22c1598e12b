-- The answer of `load`, and what it leaves in the arrays.
use Rattle.std.specs.Prelude.{ℕ, ◌≤◌, ◌≡◌, List, ◌++◌, length, take, get_or, Result, Ok, Err}
use Rattle.std.proofs.Math.Option.{some}
use Rattle.limits.specs.Sizes.{max_table_bytes}
use Rattle.text.specs.String.{Str}
use Rattle.table.specs.Frame.{Entry, entry_of}
use Rattle.table.specs.Refusal.{Earlier, with}
use Rattle.table.specs.Text.{check, table_of}
use Rattle.table.specs.Checked as checked
use Rattle.table_load.specs.declared.row.Counts.{Counts}
use Rattle.table_load.specs.declared.row.Sets.{Sets}
use Rattle.table_load.specs.declared.loaded.Table.{Table}
use Rattle.refusal.specs.Refusal.{number}
use Rattle.refusal.specs.declared.fault.Fault.{Fault}
use Rattle.table_load.specs.Held.{Holds, Held, counts_after}

-- one row more is held
pub record Grown (b : Earlier) (old f : List ℕ) (c : Counts) (groups users owners starts holders names member-keys id-keys : List ℕ) : Type 0 where
  pub this : Entry
  pub reads : entry_of f ≡ some this
  pub held : Held (with b this) (old ++ f) (counts_after c (get_or f 0 0)) groups users owners starts holders names member-keys id-keys

-- the bytes that were decoded
abbrev pub bytes : Table → List ℕ
bytes t = take t.used t.frames

-- the same of a table that is being loaded, and its sets
abbrev pub HeldBy : Earlier → Table → Sets → Type 0
HeldBy b t s = Held b (bytes t) t.counts t.groups t.users t.owners t.starts t.holders s.names.sorted s.members s.ids

-- t with the row f more, which is not counted yet
abbrev pub GrownBy : Earlier → Table → List ℕ → Table → Sets → Type 0
GrownBy b t f t' s' = Grown b (bytes t) f t.counts t'.groups t'.users t'.owners t'.starts t'.holders s'.names.sorted s'.members s'.ids

-- the text is accepted, and t holds its table
pub record Kept (text : Str) (t : Table) : Type 0 where
  pub accepts : check text ≡ checked.Accepted
  pub within : (t.used ≤ length t.frames) × (t.used ≤ max_table_bytes)
  pub holds : Holds (table_of text).groups (table_of text).members (table_of text).rules (bytes t) t.counts t.groups t.users t.owners t.starts t.holders

-- what the answer says of the text and of the table
unfoldable pub Outcome : Str → Result (Unit {0}) Fault → Table → Type 0
Outcome text (Ok _) t = Kept text t
Outcome text (Err f) t = check text ≡ checked.Refused (number f.refusal) f.line
