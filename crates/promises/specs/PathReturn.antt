-- Demand 2: "Path text read and written back is the same text, path bytes written and read back the same bytes."
-- The definitions named here are those of the contracts of `burgee_path_read` and `burgee_path_write`: `bytes_for` and `text_for` say what
-- the calls answer and leave, for all bytes. What a path's text and bytes are is said by `path_text` and `path_bytes`, and which paths are
-- good by `good_path`.
use Rattle.std.specs.Prelude.{◌≤◌, ◌<◌, ◌≡◌, true, ◌++◌, length, drop}
use Rattle.std.proofs.Math.Option.{Option, none, some}
use Rattle.text.specs.String.{Str}
use Rattle.path.specs.Path.{Path}
use Rattle.path.specs.Bytes.{path_bytes}
use Rattle.path.specs.Refusal.{good_path}
use Rattle.path.specs.Spells.{Spells, Reads, read_bytes}
use Rattle.path_read.specs.Text.{path_text}
use Rattle.path_read.specs.TextReader.{read_text}
use Rattle.path_read.specs.Calls.{bytes_for, text_for, answer, lent}
use Rattle.path_read.specs.Filled.{Length, Refused}

pub record PathReturn : Type 0 where
  -- text is read exactly where it is a good path's text, and bytes exactly where they are a good path's bytes
  pub text_reader : Reads path_text read_text
  pub bytes_reader : Reads path_bytes read_bytes
  -- a text is that of one path at most, and so are bytes
  pub one_text : (s : Str) (p q : Path) → Spells path_text s p → Spells path_text s q → p ≡ q
  pub one_bytes : (s : Str) (p q : Path) → Spells path_bytes s p → Spells path_bytes s q → p ≡ q
  -- there and back
  pub text_back : (s f : Str) → bytes_for s ≡ some f → text_for f ≡ some s
  pub bytes_back : (f s : Str) → text_for f ≡ some s → bytes_for s ≡ some f
  -- every good path has a text and bytes that read back to it
  pub every_text : (p : Path) → good_path p ≡ true → read_text (path_text p) ≡ some p
  pub every_bytes : (p : Path) → good_path p ≡ true → read_bytes (path_bytes p) ≡ some p
  -- "The longest path bytes are 9,377, the longest path text 13,520.": no good path has more, and there is one that has both
  pub longest_text : (p : Path) → good_path p ≡ true → length (path_text p) ≤ 13520
  pub longest_bytes : (p : Path) → good_path p ≡ true → length (path_bytes p) ≤ 9377
  pub longest_path : (p : Path) × (good_path p ≡ true) × (length (path_text p) ≡ 13520) × (length (path_bytes p) ≡ 9377)

-- a lent buffer, and what is read or written: `bytes_for` of a text or `text_for` of bytes
pub record FillPromise (out : Str) (result : Option Str) : Type 0 where
  -- "fill the start of a lent buffer, report the length, and store nothing beyond it"
  pub fits : (s : Str) → result ≡ some s → length s ≤ length out → (answer out result ≡ Length (length s)) × (lent out result ≡ s ++ drop (length s) out)
  -- 22 where there is none, then 23 where it "doesn't fit the lent buffer"
  pub unspelled : result ≡ none → answer out result ≡ Refused 22
  pub too_long : (s : Str) → result ≡ some s → length out < length s → answer out result ≡ Refused 23
