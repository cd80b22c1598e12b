-- The answers of the programs that write path text step by step, said of what is read from the bytes.
use Rattle.std.specs.Prelude.{ℕ, ◌+◌, ◌≤◌, ◌≡◌, Bool, true, false, List, [], length}
use Rattle.text.specs.String.{Str}
use Rattle.text.specs.Frame.{Parsed, got, unread}
use Rattle.text.specs.Steps.{Wrote}
use Rattle.path_write.specs.declared.Place.{Place}

-- something was read
abbrev pub is_read : {A : Type 0} → Parsed A → Bool
is_read (got a t) = true
is_read unread = false

-- what w writes for what was read
abbrev pub written : {A : Type 0} → (A → Str) → Parsed A → Str
written w (got a t) = w a
written w unread = []

-- where what was read ends
abbrev pub end_at : {A : Type 0} → Parsed A → ℕ
end_at (got a t) = t
end_at unread = 0

-- x was read, and d has room from `to` on for what w writes of it
pub record Fits {A : Type 0} (w : A → Str) (x : Parsed A) (d : List ℕ) (to : ℕ) : Type 0 where
  pub reads : is_read x ≡ true
  pub room : to + length (written w x) ≤ length d

-- what w writes of x was stored into d from `to` on, which made it d'; r is where reading and storing go on
pub record Writes {A : Type 0} (w : A → Str) (x : Parsed A) (d : List ℕ) (to : ℕ) (d' : List ℕ) (r : Place) : Type 0 where
  pub next : r.from ≡ end_at x
  pub wrote : Wrote d to (written w x) d' r.to
