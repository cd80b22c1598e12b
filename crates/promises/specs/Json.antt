-- Numbers 30 and 31 of a policy text: "policy over 16,384 bytes"; "not one JSON value (RFC 8259) in our bytes and depth". `policy_refusal` and `policy_of` are
-- the definitions of the contracts of `burgee_policy_check` and `burgee_rpc_verdict`. They go by a parser, `parse`; with this page nobody need read it. What
-- one JSON value is, is said by `JsonText s j`: the grammar of RFC 8259, rule by rule, says that s stands for the tree j; every byte of s is 0x20 to
-- 0x7E or white space; objects and lists nest in j to depth 16 at most.
use Rattle.std.specs.Prelude.{◌≡◌, ◌↔◌, ◌≤◌, ◌<◌, length}
use Rattle.std.proofs.Math.Option.{some}
use Rattle.limits.specs.Limits.{max_policy_text}
use Rattle.text.specs.String.{Str}
use Rattle.text.specs.Refusal.{◌when◌else◌, clear}
use Rattle.json_grammar.specs.Json.{Json}
use Rattle.json_grammar.specs.JsonText.{JsonText}
use Rattle.json_grammar.specs.Parser.{parse}
use Rattle.json_tree.specs.Names.{repeats}
use Rattle.policy.specs.Policy.{policy_refusal, tree_refusal, policy_in, policy_of}

-- s is one JSON value, whatever it stands for
abbrev pub IsJson : Str → Type 0
IsJson s = (j : Json) × JsonText s j

pub record JsonPromise (s : Str) : Type 0 where
  -- what the parser reads is JSON, and all that is JSON is read
  pub reads : (j : Json) → (parse s ≡ some j) ↔ JsonText s j
  -- a text stands for one tree at most
  pub one_tree : (j k : Json) → JsonText s j → JsonText s k → j ≡ k
  -- 30 exactly where the text is too long, and 31 exactly where it is not, and is no JSON
  pub long : (policy_refusal s ≡ 30) ↔ (max_policy_text < length s)
  pub unread : (policy_refusal s ≡ 31) ↔ ((length s ≤ max_policy_text) × ¬ IsJson s)
  -- whatever else is told of a text, is told of its tree: 32 to 38, or that it is accepted
  pub judged : (j : Json) → length s ≤ max_policy_text → JsonText s j → policy_refusal s ≡ (32 when repeats j else tree_refusal j)
  -- and an accepted text holds the policy of its tree
  pub holds : (j : Json) → policy_refusal s ≡ clear → JsonText s j → policy_of s ≡ some (policy_in j)
