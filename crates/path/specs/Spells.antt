-- What a reader of written paths has to be.
use Rattle.std.specs.Prelude.{◌≡◌, true, length, eqb}
use Rattle.std.proofs.Math.Option.{Option, none, some}
use Rattle.text.specs.Test.{◌and◌, whether◌then◌else◌}
use Rattle.text.specs.String.{Str}
use Rattle.text.specs.Frame.{Parsed, got, unread}
use Rattle.path.specs.Path.{Path}
use Rattle.path.specs.Bytes.{path}
use Rattle.path.specs.Refusal.{good_path}

-- s is what `write` makes of the good path p
pub record Spells (write : Path → Str) (s : Str) (p : Path) : Type 0 where
  pub good : good_path p ≡ true
  pub text : s ≡ write p

-- a reader answers with a path exactly where what it is given is that good path, written
pub record Reads (write : Path → Str) (read : Str → Option Path) : Type 0 where
  pub reads : (s : Str) (p : Path) → Spells write s p → read s ≡ some p
  pub only : (s : Str) (p : Path) → read s ≡ some p → Spells write s p

-- a good path that was read to the very end
unfoldable pub whole : Str → Parsed Path → Option Path
whole s (got p t) = whether eqb t (length s) and good_path p then some p else none
whole s unread = none

-- the good path whose bytes these are
unfoldable pub read_bytes : Str → Option Path
read_bytes s = whole s (path s 0)
