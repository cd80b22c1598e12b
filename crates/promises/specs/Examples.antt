-- The marked examples A to L of the rules: what is asked, and what is answered. A to D are asked of tables as values, E to K of the table's hex text
-- itself through the definitions that the public calls' contracts name, L of a pattern. After them the season report's.
use Rattle.std.specs.Prelude.{ℕ, Bool, true, false, ◌≡◌, List, [], ◌∷◌, ◌++◌, map, replicate}
use Prim.Native.String.{String}
use Rattle.text.specs.String.{Str, bytes, joined}
use Rattle.path.specs.Path.{Key, Elem, Path}
use Rattle.table.specs.Table.{Member, Rule, Table}
use Rattle.table.specs.Checked.{Checked}
use Rattle.table.specs.Checked.{Accepted}
use Rattle.verdict.specs.Verdict.{decider}
use Rattle.verdict_request.specs.Calls.{decided_by, path_verdict, tree_verdict}
use Rattle.verdict_request.specs.PathAnswer.{PathAnswer}
use Rattle.verdict_request.specs.PathAnswer.{Permit, Deny, Default}
use Rattle.verdict_request.specs.TreeAnswer.{TreeAnswer}
use Rattle.verdict_request.specs.TreeAnswer.{All, None, Mixed}
use Rattle.rpc.specs.Pattern.{matches}
use Rattle.season.specs.Calls.{fault, report_of}

-- ---- questions and answers

pub data Answer : Type 0 where
  verdict : PathAnswer → Answer
  tree : TreeAnswer → Answer
  matched : Bool → Answer
  reported : Checked → Str → Answer

-- by the rule of this number
abbrev permit_by : ℕ → Answer
permit_by n = verdict (Permit (record { 0 = n }))

abbrev deny_by : ℕ → Answer
deny_by n = verdict (Deny (record { 0 = n }))

-- ---- A to D: "Stevie is in admin and engineers. All rules read, as are the requests; origin is empty."

key : String → String → Key
key n v = record { name = bytes n; value = bytes v }

elem : String → List Key → Elem
elem n ks = record { name = bytes n; keys = ks }

-- N[name=n]Q[identifier=p]
nq : String → String → Path
nq n p = elem "network-instances" [] ∷ elem "network-instance" (key "name" n ∷ []) ∷ elem "protocols" [] ∷ elem "protocol" (key "identifier" p ∷ []) ∷ []

-- the action, the kind of subject, the subject, the id and the path
rule : Bool → Bool → String → String → Path → Rule
rule permit by_group subject id path =
    record { permit = permit; mode = 1; by_group = by_group; subject = bytes subject; id = bytes id; origin = []; path = path }

-- a rule's subject and action
user : Bool
user = false

group : Bool
group = true

permits : Bool
permits = true

denies : Bool
denies = false

member : String → Member
member g = record { group = bytes g; user = bytes "stevie" }

-- his groups, and two rules
two_rules : Rule → Rule → Table
two_rules r s = record { groups = bytes "admin" ∷ bytes "engineers" ∷ []; members = member "admin" ∷ member "engineers" ∷ []; rules = r ∷ s ∷ [] }

-- "In A to D he asks for N[name=DEFAULT]Q[identifier=BGP]"
stevie : Rule → Rule → Answer
stevie r s = verdict (decided_by (decider (two_rules r s) (record { user = bytes "stevie"; mode = 1; origin = []; path = nq "DEFAULT" "BGP" })))

-- ---- E to K: "this table, whole"

line : String → Str
line s = bytes s ++ (10 ∷ [])

small : Str
small = line "010276310000000000000001" ++ line "020167" ++ line "0301670175" ++ line "04010101016701720001016101016b012a"

-- user, mode and path text
path_of : String → ℕ → String → Answer
path_of user mode text = verdict (path_verdict small (bytes user) mode [] (bytes text))

tree_of : String → ℕ → String → Answer
tree_of user mode text = tree (tree_verdict small (bytes user) mode [] (bytes text))

-- ---- the season report of that table

-- of a log of one line
report_on : String → Answer
report_on l = reported (fault small (line l)) (report_of small (line l))

-- so many lines with 0
zeros : ℕ → Str
zeros n = joined line (replicate n "0")

-- ---- the table

-- what is asked, and the answer of the rules
unfoldable pub examples : List (Answer × Answer)
unfolding key elem nq rule user group permits denies member two_rules stevie line small path_of tree_of report_on zeros
examples =
    -- A: admin permits; stevie denied on N[name=*]Q[identifier=BGP]
    (stevie (rule permits group "admin" "1" (nq "DEFAULT" "BGP")) (rule denies user "stevie" "2" (nq "*" "BGP")), permit_by 0)
    -- B: stevie permits, admin denies
    ∷ (stevie (rule permits user "stevie" "1" (nq "DEFAULT" "BGP")) (rule denies group "admin" "2" (nq "DEFAULT" "BGP")), permit_by 0)
    -- C: stevie permits on N[name=DEFAULT]Q[identifier=*], stevie denied on N[name=*]Q[identifier=BGP]
    ∷ (stevie (rule permits user "stevie" "1" (nq "DEFAULT" "*")) (rule denies user "stevie" "2" (nq "*" "BGP")), deny_by 1)
    -- D: admin permits, engineers denies
    ∷ (stevie (rule permits group "admin" "1" (nq "DEFAULT" "BGP")) (rule denies group "engineers" "2" (nq "DEFAULT" "BGP")), deny_by 1)
    -- E
    ∷ (path_of "u" 1 "/a/b", permit_by 0)
    -- F
    ∷ (path_of "u" 1 "/ab", verdict Default)
    -- G
    ∷ (path_of "v" 1 "/a", verdict Default)
    -- H
    ∷ (path_of "u" 1 "/a[k=9]", permit_by 0)
    -- I
    ∷ (path_of "u" 1 "/", verdict Default)
    ∷ (tree_of "u" 1 "/", tree (Mixed (record { 0 = 0 })))
    -- J
    ∷ (tree_of "u" 1 "/a", tree All)
    -- K
    ∷ (tree_of "u" 2 "/a", tree None)
    -- L: pattern `*abc`
    ∷ (matched (matches (bytes "*abc") (bytes "abc")), matched true)
    ∷ (matched (matches (bytes "*abc") (bytes "xabc")), matched true)
    ∷ (matched (matches (bytes "*abc") (bytes "abcx")), matched false)
    -- "lines 1 and 257 are 1 and all others 0"
    ∷ (report_on "0101750002016100016200", reported Accepted (line "1" ++ zeros 255 ++ line "1" ++ zeros 5))
    ∷ []

-- the one statement: the first of each pair is the second
abbrev pub Examples : Type 0
Examples = map (λ (x : Answer × Answer). x.0) examples ≡ map (λ (x : Answer × Answer). x.1) examples
