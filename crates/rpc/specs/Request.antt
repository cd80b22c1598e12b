-- "A request has an identity (empty without a client certificate), a path, and header lines `name`, `:`, `value`, LF."
use Rattle.std.specs.Prelude.{Bool, not, List, [], ◌∷◌, ◌++◌, map, ℕ, zero, suc, eqb, ltb, length}
use Rattle.std.proofs.Math.Option.{Option, none, some}
use Rattle.limits.specs.Limits.{max_request_string, max_header_lines}
use Rattle.text.specs.Test.{◌and◌, ◌or◌, whether◌then◌else◌, all, only, absent}
use Rattle.text.specs.Byte.{is_print}
use Rattle.text.specs.String.{Str, same}
use Rattle.text.specs.Refusal.{◌when◌else◌, clear}
use Rattle.text_affix.specs.Affix.{empty}
use Rattle.policy.specs.Text.{is_header_byte}

-- a header line
pub record Line : Type 0 where
  pub name : Str
  pub value : Str

pub record Request : Type 0 where
  pub identity : Str
  pub path : Str
  pub headers : List Line

-- c in front of the first part
unfoldable pub longer : ℕ → Option (Str × Str) → Option (Str × Str)
longer c none = none
longer c (some r) = some (c ∷ r.0, r.1)

-- what stands before the first byte b, and what after it
unfoldable pub cut_at : ℕ → Str → Option (Str × Str)
cut_at b [] = none
cut_at b (c ∷ s) = whether eqb c b then some ([], s) else longer c (cut_at b s)

-- "Header names are nonempty lower-case letters, digits and `-◌.`"; a value is any bytes 0x20 to 0x7E
unfoldable pub line_of : Option (Str × Str) → Option Line
line_of none = none
line_of (some r) = whether not (empty r.0) and all is_header_byte r.0 and all is_print r.1 then some (record { name = r.0; value = r.1 }) else none

-- a first one and the others, if all are there
unfoldable pub cons : {A : Type 0} → Option A → Option (List A) → Option (List A)
cons none l = none
cons (some a) none = none
cons (some a) (some l) = some (a ∷ l)

-- the line before an LF, which a colon (58) cuts, and then the rest
unfoldable pub line_then : (Str → Option (List Line)) → Option (Str × Str) → Option (List Line)
line_then rest none = none
line_then rest (some r) = cons (line_of (cut_at 58 r.0)) (rest r.1)

-- the lines of a text, at most n of them: each ends with LF (10)
unfoldable pub lines_of : ℕ → Str → Option (List Line)
lines_of zero s = whether empty s then some [] else none
lines_of (suc n) s = whether empty s then some [] else line_then (lines_of n) (cut_at 10 s)

-- a text of n bytes has at most n lines
abbrev pub headers_of : Str → Option (List Line)
headers_of s = lines_of (length s) s

-- 40: "identity or path over 256 bytes or a byte outside 0x20 to 0x7E"
unfoldable pub bad_text : Str → Bool
bad_text s = ltb max_request_string (length s) or not (all is_print s)

-- 41: "header lines ill-formed, a value byte outside that range, or over 8,192 bytes together"
unfoldable pub bad_headers : Str → Bool
bad_headers s = ltb max_header_lines (length s) or absent (headers_of s)

-- the refusal number of a request; `clear` where there is none
unfoldable pub rpc_refusal : Str → Str → Str → ℕ
rpc_refusal identity path headers = 40 when (bad_text identity or bad_text path) else 41 when bad_headers headers else clear

-- "Values of one name are joined by commas in order."
unfoldable pub joined : List Str → Str
joined [] = []
joined (v ∷ []) = v
joined (v ∷ w ∷ l) = v ++ (44 ∷ joined (w ∷ l))

-- the values of the lines of this name, in order
unfoldable pub values_of : Str → List Line → List Str
values_of n l = map (λ (x : Line). x.value) (only (λ (x : Line). same x.name n) l)

-- "A header that the request doesn't carry counts as an empty value."
unfoldable pub header_value : Str → List Line → Str
header_value n l = joined (values_of n l)
