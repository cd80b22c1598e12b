-- The answers of the programs that read path text step by step, said of what is read there.
use Rattle.std.specs.Prelude as program
use Rattle.std.specs.Prelude.{ℕ, ◌+◌, ◌-◌, ◌≤◌, ◌≡◌, Bool, not, List, eqb, length, get_or, Some, None}
use Rattle.std.proofs.Math.Option.{Option, none, some}
use Rattle.limits.specs.Limits.{max_elements, max_keys, max_string}
use Rattle.text.specs.Test.{whether◌then◌else◌, twice}
use Rattle.text.specs.String.{Str}
use Rattle.text.specs.Frame.{Parsed, got, unread, Reader}
use Rattle.text.specs.Fill.{put}
use Rattle.text.specs.Steps.{Wrote}
use Rattle.text_search.specs.Search.{until}
use Rattle.path.specs.Path.{Key, Elem, Path}
use Rattle.path.specs.Refusal.{same_name}
use Rattle.path.specs.Walk.{no_name, name_refusal, value_refusal, alone_refusal, elem_refusal, good}
use Rattle.path_read.specs.Calls.{answer, lent}
use Rattle.path_read.specs.TextReader.{name, item, value, each, key, element}
use Rattle.path_read.specs.Filled.{Filled}
use Rattle.path_read.specs.declared.reader.Stored.{Stored}
use Rattle.path_read.specs.declared.reader.Item.{Item}
use Rattle.path_read.specs.declared.reader.Item.TheVariants as items

-- a path's bytes are at most so many more than its text: the count, and for each element one more than its text has
abbrev pub max_growth : ℕ
max_growth = 1 + max_elements

-- the next byte of a value
unfoldable pub item_in : Parsed ℕ → program.Option Item
item_in (got b t) = Some (items.Byte b t)
item_in unread = None

-- and the end of the value, where its ] (93) stands
unfoldable pub item_of : Str → ℕ → program.Option Item
item_of s at = whether eqb (get_or s at 0) 93 then Some items.End else item_in (item s at)

-- how many bytes at the start belong to a name
abbrev pub name_run : Str → ℕ
name_run s = until no_name s

-- what was read, where it passes
unfoldable pub pass : {A : Type 0} → (A → Bool) → Parsed A → Parsed A
pass ok (got a t) = whether ok a then got a t else unread
pass ok unread = unread

abbrev pub passing : {A : Type 0} → (A → Bool) → Reader A → Reader A
passing ok r s at = pass ok (r s at)

-- the parts of a good path; each name is followed by a, by b or by nothing
abbrev pub good_name : ℕ → ℕ → Reader Str
good_name a b = passing (good name_refusal) (name a b)

abbrev pub good_value : Reader Str
good_value = passing (good value_refusal) (value max_string)

abbrev pub good_key : Reader Key
good_key = passing (good alone_refusal) key

abbrev pub distinct : List Key → Bool
distinct ks = not (twice same_name ks)

abbrev pub good_keys : Reader (List Key)
good_keys = passing distinct (each 91 max_keys good_key)

abbrev pub good_element : Reader Elem
good_element = passing (good elem_refusal) element

abbrev pub good_elements : Reader Path
good_elements = each 47 max_elements good_element

-- a string, written as it is
abbrev pub plainly : Str → Str
plainly s = s

-- what was read of s from `at` to `next` was stored from `to` to `end`: at most `most` bytes, and at most `more` more than were read
pub record Within (most more : ℕ) (s : Str) (at next to end : ℕ) : Type 0 where
  pub few : end ≤ to + most
  pub near : end + at ≤ to + next + more
  pub inside : next ≤ length s

-- whatever is read of s from `at` on, there is room for it in d from `to` on, if it is stored within these bounds
pub record Room (most more : ℕ) (s : Str) (at : ℕ) (d : List ℕ) (to : ℕ) : Type 0 where
  pub starts : at ≤ length s
  pub fits : (n : ℕ) → n ≤ most → at + n ≤ length s + more → to + n ≤ length d

-- where reading goes on and storing ends, or nothing was read
abbrev pub MaybeStored : Type 0
MaybeStored = program.Option Stored

abbrev pub reached : ℕ → ℕ → MaybeStored
reached next end = Some (record { next = next; end = end })

-- what r reads of s at `at`, as w writes it, was stored into d from `to` on, and nothing else; where it reads nothing, nothing is said of d
pub data Stores {A : Type 0} (most more : ℕ) (w : A → Str) (r : Reader A) (s : Str) (at : ℕ) : List ℕ → ℕ → List ℕ → MaybeStored → Type 0 where
  stores : {a : A} {t : ℕ} {d : List ℕ} {to : ℕ} {d' : List ℕ} {end : ℕ} → r s at ≡ got a t → Wrote d to (w a) d' end → Within most more s at t to end
      → Stores most more w r s at d to d' (reached t end)
  nothing : {d : List ℕ} {to : ℕ} {d' : List ℕ} → r s at ≡ unread → Stores most more w r s at d to d' None

-- the bytes fill the start of d, and nothing else does; where there are none, nothing is said of d
pub data Transcribed : Option Str → List ℕ → List ℕ → program.Option ℕ → Type 0 where
  filled_up : {f : Str} {d d' : List ℕ} {end : ℕ} → end ≡ length f → end ≤ length d → d' ≡ put d 0 f → Transcribed (some f) d d' (Some end)
  not_filled : {d d' : List ℕ} → Transcribed none d d' None

-- r is the answer where `out` was lent for this result, and out' what is left of it
abbrev pub Delivers : List ℕ → Option Str → List ℕ → Filled → Type 0
Delivers out result out' r = (r ≡ answer out result) × (out' ≡ lent out result)
