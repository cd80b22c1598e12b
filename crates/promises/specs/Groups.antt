-- Demand 2: "A user's group count is the number of groups that list him." The definitions named here are those of the contract of `burgee_group_count`.
use Rattle.std.specs.Prelude.{◌≡◌, Bool, true, false, ℕ, length}
use Rattle.text.specs.Test.{any, only}
use Rattle.text.specs.String.{Str}
use Rattle.table.specs.Table.{Table}
use Rattle.table.specs.Text.{check, table_of}
use Rattle.table.specs.Group.{lists, bad_user, group_count}
use Rattle.table.specs.Checked.{Accepted, Refused}
use Rattle.table.specs.Counted.{Count, NoGroup, Declined}
use Rattle.promises.specs.First.{First}

-- an accepted table text, and a user as a table allows
module _ (x user : Str) (ok : check x ≡ Accepted) (fine : bad_user user ≡ false) where
  abbrev pub t : Table
  t = table_of x

  -- a member line of the table has this group and the user
  abbrev pub listing : Str → Bool
  listing = lists t.members user

  pub record GroupPromise : Type 0 where
    -- where a group lists him: the number of groups that do, and the number of the first
    pub counted : any listing t.groups ≡ true
        → (g : ℕ) × (group_count x user ≡ Count (length (only listing t.groups)) (record { 0 = g })) × First listing g t.groups
    -- where none does
    pub none : any listing t.groups ≡ false → group_count x user ≡ NoGroup

-- any table text and any user: "text before request"
pub record CountRefusals (x user : Str) : Type 0 where
  pub text : (number line : ℕ) → check x ≡ Refused number line → group_count x user ≡ Declined number line
  -- 20: "user .. not as a table allows"
  pub user_declined : check x ≡ Accepted → bad_user user ≡ true → group_count x user ≡ Declined 20 0
