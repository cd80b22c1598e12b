-- `try_rule` keeps the better of the rule and what was kept.
use native.Mathlib.Omega.{arith}
use mathlib.Core.Path.{◌≡◌, sym, ap, ◌∙◌}
use mathlib.Core.Bool.{Bool}
use Rattle.path.specs.Path.{Path}
use Rattle.table.specs.Table.{Rule}
use Rattle.verdict.specs.Cover.{covers}
use Rattle.verdict_compare.specs.Place.{elements}
use Rattle.verdict_judge.specs.Best.{numbered, kept}
use Rattle.rule_index.proofs.Trying.{tried_behind, tried_off, tried_miss, tried_best}
use Rattle.rule_index.proofs.lookup.Lookup.try_rule.Goals.{then-not-is_concerned-via-then-not-is_concerned, then-not-is_concerned-via-else-not-is_concerned+then-not-covers}
use Rattle.rule_index.proofs.lookup.Lookup.try_rule.Goals as goal

pub wins-requires : goal.wins-requires
wins-requires c = rw c.rule-own.ensures c.requires.1

pub returns-then-not-wins : goal.returns-then-not-wins
returns-then-not-wins c =
    let R = c.args.self.now.rules in
    let a = c.args.self.now.asker in
    tried_behind R.bytes.now R.starts.now R.holders.now R.count a.set a.user.now a.mode a.origin.now (elements c.args.self.now.asked) (kept c.args.best)
    c.args.i c.requires.0 c.requires.2 (sym (rw c.rule-own.ensures at c.wins.ensures) ∙ c.if-not-wins.true)

pub returns-then-not-is_concerned : goal.returns-then-not-is_concerned
returns-then-not-is_concerned c =
    let R = c.args.self.now.rules in
    let a = c.args.self.now.asker in
    let p = elements c.args.self.now.asked in
    elim c.then-not-is_concerned.branch [
      | then-not-is_concerned-via-then-not-is_concerned w ↦
          tried_off R.bytes.now R.starts.now R.holders.now R.count a.set a.user.now a.mode a.origin.now p (kept c.args.best)
          c.args.i c.requires.0 c.requires.2 (sym c.is_concerned.ensures ∙ w.if-not-is_concerned.true)
      | then-not-is_concerned-via-else-not-is_concerned+then-not-covers w ↦
          tried_miss R.bytes.now R.starts.now R.holders.now R.count a.set a.user.now a.mode a.origin.now p (kept c.args.best)
          c.args.i c.requires.0 c.requires.2
          (sym (w.covers.ensures ∙ ap (λ (q : Path). covers q p) (w.path.ensures.path ∙ ap (λ (r : Rule). r.path) c.rule-own.ensures)) ∙ w.if-not-covers.true)
    ]

pub returns : goal.returns
unfolding kept numbered
returns c =
    let R = c.args.self.now.rules in
    let a = c.args.self.now.asker in
    let p = elements c.args.self.now.asked in
    rw c.rule-own.ensures
    (tried_best R.bytes.now R.starts.now R.holders.now R.count a.set a.user.now a.mode a.origin.now p (kept c.args.best)
    c.args.i c.requires.0 c.requires.2 (sym (rw c.rule-own.ensures at c.wins.ensures) ∙ c.if-not-wins.false)
    (sym c.is_concerned.ensures ∙ c.if-not-is_concerned.false)
    (sym (c.covers.ensures ∙ ap (λ (q : Path). covers q p) (c.path.ensures.path ∙ ap (λ (r : Rule). r.path) c.rule-own.ensures)) ∙ c.if-not-covers.false))
