-- The answers of the programs over a frame, said of what is read there.
use Rattle.std.specs.Prelude.{ℕ, ◌+◌, ◌≤◌, ◌<◌, ◌≡◌, Bool, ◌||◌, eqb, ltb, length, get_or, Option, Some, None}
use Rattle.std.proofs.Math.Option.{none}
use Rattle.text.specs.String.{Str}
use Rattle.text.specs.Refusal.{◌when◌else◌, clear}
use Rattle.text.specs.Frame.{got, part, string}
use Rattle.refusal.specs.Refusal.{code}
use Rattle.path.specs.Walk.{path_refusal}
use Rattle.table.specs.Table.{Rule}
use Rattle.table.specs.Layout.{after_kind, frame_subject_kind, frame_subject_name}
use Rattle.table.specs.Frame.{rule_body, entry_of}
use Rattle.table.specs.declared.frame.RuleFrame.{RuleFrame}

-- a frame of that kind
abbrev pub OfKind : ℕ → Str → Type 0
OfKind kind f = (0 < length f) × (get_or f 0 0 ≡ kind)

-- the smallest number from 5 on, where p is that of a path
unfoldable pub merged : ℕ → Bool → Bool → Bool → Bool → ℕ
merged p five six eight nine =
    5 when (five || eqb p 5)
    else 6 when (six || eqb p 6)
    else 7 when eqb p 7
    else 8 when (eight || eqb p 8)
    else 9 when nine
    else clear

-- a length is 0 or over the limit
abbrev pub unsized_by : ℕ → ℕ → Bool
unsized_by limit n = eqb n 0 || ltb limit n

-- the rule of a frame f: its subject, ends at s, its id at i, its origin at o, and its path gets the number p
pub record RuleAt (f : Str) (s i o p : ℕ) : Type 0 where
  pub rule : Rule
  pub body : rule_body f after_kind ≡ got rule (length f)
  pub subject : rule.subject ≡ part f frame_subject_name s
  pub id : rule.id ≡ part f (s + 1) i
  pub stands : string f s ≡ got rule.id i
  pub origin : rule.origin ≡ part f (i + 1) o
  pub by_group : rule.by_group ≡ eqb (get_or f frame_subject_kind 0) 1
  pub path : p ≡ path_refusal rule.path
  pub long : (frame_subject_name ≤ s) × (s + 1 ≤ i) × (i + 1 ≤ o) × (o ≤ length f)

-- what the answer of `read_rule` says of the frame
unfoldable pub RuleRead : Str → Option RuleFrame → Type 0
RuleRead f (Some r) = RuleAt f r.subject r.id r.origin (code r.fault)
RuleRead f None = entry_of f ≡ none
