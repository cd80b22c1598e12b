-- "one JSON value (RFC 8259) in our bytes and depth".
use Rattle.std.specs.Prelude.{◌≡◌, Bool, true, ◌||◌, List, ℕ, suc, max, ◌≤◌}
use Rattle.limits.specs.Limits.{max_depth}
use Rattle.text.specs.Test.{all}
use Rattle.text.specs.Byte.{is_print}
use Rattle.json_grammar.specs.Json.{Json, jnull, jtrue, jfalse, jnumber, jstring, jlist, jobject, Values, vnil, vcons, Members, mnil, mcons}
use Rattle.json_grammar.specs.Grammar.{white, Rfc8259}

-- "bytes 0x20 to 0x7E and JSON white space"
unfoldable pub our_byte : ℕ → Bool
our_byte c = is_print c || white c

unfoldable mutual
  -- how deep objects and lists nest: "the outermost being depth 1"
  pub depth_of : Json → ℕ
  depth_of jnull = 0
  depth_of jtrue = 0
  depth_of jfalse = 0
  depth_of jnumber = 0
  depth_of (jstring s) = 0
  depth_of (jlist l) = suc (items_depth l)
  depth_of (jobject m) = suc (members_depth m)

  pub items_depth : Values → ℕ
  items_depth vnil = 0
  items_depth (vcons j l) = max (depth_of j) (items_depth l)

  pub members_depth : Members → ℕ
  members_depth mnil = 0
  members_depth (mcons n j l) = max (depth_of j) (members_depth l)

-- s is one JSON value in our bytes and depth, and stands for the tree j
pub record JsonText (s : List ℕ) (j : Json) : Type 0 where
  pub grammar : Rfc8259 s j
  pub bytes : all our_byte s ≡ true
  -- "objects and lists may nest to depth 16"
  pub depth : depth_of j ≤ max_depth
