-- The rule that the loop chooses is the one that MIXED names.
use mathlib.Core.Path.{◌≡◌, sym, ap}
use mathlib.Core.Bool.{Bool, true, false, xor}
use Rattle.text.specs.Test.{◌and◌, ◌∈◌}
use Rattle.text.proofs.Tests.{by, bool_ext, and_l, and_r, both}
use Rattle.path.specs.Refusal.{key_twice}
use Rattle.table.specs.Table.{Rule, Table}
use Rattle.verdict.specs.Join.{agree, join}
use Rattle.verdict.specs.Order.{better, earlier, choose}
use Rattle.verdict.specs.Verdict.{Request, at, applies, matches, decider, action, permits, fits, opposes}
use Rattle.verdict.specs.Orderly.{Orderly}
use Rattle.verdict.proofs.Paths.{covers_both_lem, covered_agree, covers_join_right, join_once}
use Rattle.verdict_judge.proofs.Verdict.{choose_alike}
use Rattle.verdict_tree.specs.Tree.{fitting, matching_both, permits_both, opposing}

module _ (t : Table) (q : Request) (ok : Orderly t) (kq : key_twice q.path ≡ false) where
  -- a rule that matches the joined path fits the asked one
  together : (r : Rule) → r ∈ t.rules → agree r.path q.path ≡ true
      → (s : Rule) → matching_both (fitting (applies t q) q.path) r.path q.path s ≡ matches t (at q (join r.path q.path)) s
  unfolding matches applies
  together r m a s =
      rw (sym (covers_both_lem s.path r.path q.path))
      (bool_ext _ _
      (λ e. both _ _ (and_l _ _ (and_l _ _ e)) (and_r _ _ e))
      (λ e. both _ _ (both _ _ (and_l _ _ e)
      (covered_agree s.path q.path (join r.path q.path) (and_r _ _ e) (covers_join_right r.path q.path a) (join_once r.path q.path a (ok.keys r m) kq)))
      (and_r _ _ e)))

  -- where a rule fits, the pair is judged as the joined path is
  joined : (r : Rule) → r ∈ t.rules → agree r.path q.path ≡ true
      → permits_both (fitting (applies t q) q.path) t.rules r.path q.path ≡ permits t (at q (join r.path q.path))
  unfolding permits decider
  joined r m a = ap action (choose_alike better _ _ 0 t.rules (λ s n. together r m a s))

  against : (r : Rule) → r ∈ t.rules → opposing (fitting (applies t q) q.path) t.rules q.path (permits t q) r ≡ opposes t q r
  unfolding opposes fits ◌and◌
  against r m =
      by (applies t q r and agree r.path q.path)
      (λ e. ap (λ (b : Bool). (applies t q r and agree r.path q.path) and xor b (permits t q)) (joined r m (and_r (applies t q r) (agree r.path q.path) e)))
      (λ e. rw e)

  -- the rule that MIXED names
  pub opposed : choose earlier (opposing (fitting (applies t q) q.path) t.rules q.path (permits t q)) 0 t.rules
      ≡ choose earlier (opposes t q) 0 t.rules
  opposed = choose_alike earlier _ _ 0 t.rules against
