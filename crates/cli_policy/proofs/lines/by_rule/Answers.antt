-- `by_rule` adds the part of the policy that is the name.
use mathlib.Core.List.{append_assoc}
use Rattle.cli_policy.specs.Lines.{by_rule}
use Rattle.cli_policy.proofs.lines.by_rule.Goals as goal

pub returns : goal.returns
unfolding by_rule
returns c =
    rw (← c.rule_name-name.ensures.value)
    (simp (append_assoc, c.new-text.ensures, c.push_fact.ensures.added, c.push_str.ensures, c.push_up_to.ensures.added, c.push_str-2.ensures))
