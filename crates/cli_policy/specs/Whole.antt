-- That lines show rule names whole: `up_to` never leaves one out.
use Rattle.std.specs.Prelude.{◌≡◌}
use Rattle.limits.specs.Limits.{max_policy_string}
use Rattle.text.specs.String.{Str}
use Rattle.policy.specs.Policy.{policy_of}
use Rattle.policy_facts.specs.Facts.{listed_name}
use Rattle.policy_facts.specs.declared.name.Listed.{Listed}
use Rattle.text_make.specs.Text.{up_to}

-- of any text, the name of a rule in either list
pub record WholeNames : Type 0 where
  pub shown : (policy : Str) (rule : Listed) → up_to max_policy_string (listed_name (policy_of policy) rule) ≡ listed_name (policy_of policy) rule
