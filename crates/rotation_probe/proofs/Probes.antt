-- Each probe's answer by the source: s is what was found.
use mathlib.Core.Path.{◌≡◌, ap, ◌∙◌}
use mathlib.Core.Bool.{Bool}
use Prim.Native.Nat.{ℕ, ◌+◌}
use borrow.Author.Tests.{eq-eqb, ne_eqb}
use lib.Dec.{eqb}
use lib.ListN.{length}
use Rattle.text.specs.Test.{whether◌then◌else◌}
use Rattle.text.specs.String.{Str}
use Rattle.text.specs.Frame.{part}
use Rattle.text.specs.Refusal.{clear}
use Rattle.text.proofs.Tests.{by}
use Rattle.verdict_request.specs.Calls.{path_verdict, tree_verdict}
use Rattle.verdict_request.specs.PathAnswer.{PathAnswer}
use Rattle.verdict_request.specs.TreeAnswer.{TreeAnswer}
use Rattle.rpc.specs.Call.{rpc_verdict}
use Rattle.rotation.specs.State.{slot_start}
use Rattle.rotation.specs.Calls.{probe_refusal}
use Rattle.rotation.specs.declared.Record.{Record}
use Rattle.rotation.specs.State.{InForce}
use Rattle.rotation.specs.State as force
use Rattle.rotation_probe.specs.Probe.{path_on, path_refused, probe_path, tree_on, tree_refused, probe_tree}
use Rattle.rotation_probe.specs.Rpc.{rpc_refused, factory_rpc, rpc_on, probe_rpc}
use Rattle.rotation_probe.specs.Source.{Source, source_of}
use Rattle.rotation_probe.specs.Answer.{RpcAnswer}
use Rattle.rotation_probe.specs.Answer.{PermitAll, Judged}
use Rattle.rotation_probe.proofs.Sources.{from, answers, part_is}

module _ (store user : Str) (mode : ℕ) (origin text : Str) where
  abbrev pub path_part : ℕ → ℕ → PathAnswer
  path_part start end = path_verdict (part store start end) user mode origin text

  path_part_lem : (slot len : ℕ) → path_part (slot_start slot) (slot_start slot + len) ≡ path_on store user mode origin text (force.Text slot len)
  unfolding path_on
  path_part_lem slot len = ap (λ (x : Str). path_verdict x user mode origin text) (part_is store slot len)

  pub path_from : (r : Record) (s : Source) → s ≡ source_of 2 r (length store) → (a : PathAnswer)
      → a ≡ from path_refused path_part (path_on store user mode origin text force.Factory) s → a ≡ probe_path r store user mode origin text
  unfolding probe_path
  path_from r s e a k = answers path_refused (path_on store user mode origin text) path_part path_part_lem 2 r (length store) s e a k

  abbrev pub tree_part : ℕ → ℕ → TreeAnswer
  tree_part start end = tree_verdict (part store start end) user mode origin text

  tree_part_lem : (slot len : ℕ) → tree_part (slot_start slot) (slot_start slot + len) ≡ tree_on store user mode origin text (force.Text slot len)
  unfolding tree_on
  tree_part_lem slot len = ap (λ (x : Str). tree_verdict x user mode origin text) (part_is store slot len)

  pub tree_from : (r : Record) (s : Source) → s ≡ source_of 2 r (length store) → (a : TreeAnswer)
      → a ≡ from tree_refused tree_part (tree_on store user mode origin text force.Factory) s → a ≡ probe_tree r store user mode origin text
  unfolding probe_tree
  tree_from r s e a k = answers tree_refused (tree_on store user mode origin text) tree_part tree_part_lem 2 r (length store) s e a k

module _ (store identity path headers : Str) where
  abbrev pub rpc_part : ℕ → ℕ → RpcAnswer
  rpc_part start end = Judged (rpc_verdict (part store start end) identity path headers)

  rpc_part_lem : (slot len : ℕ) → rpc_part (slot_start slot) (slot_start slot + len) ≡ rpc_on store identity path headers (force.Text slot len)
  unfolding rpc_on
  rpc_part_lem slot len = ap (λ (x : Str). Judged (rpc_verdict x identity path headers)) (part_is store slot len)

  pub rpc_from : (r : Record) (s : Source) → s ≡ source_of 1 r (length store) → (a : RpcAnswer) → a ≡ from rpc_refused rpc_part (rpc_on store identity path headers force.Factory) s
      → a ≡ probe_rpc r store identity path headers
  unfolding probe_rpc
  rpc_from r s e a k = answers rpc_refused (rpc_on store identity path headers) rpc_part rpc_part_lem 1 r (length store) s e a k

-- ---- factory for a policy

module _ (number k : ℕ) (e : number ≡ k) where
  pub factory_refused : (number ≡ clear → ⊥) → rpc_refused number ≡ factory_rpc k
  unfolding factory_rpc whether◌then◌else◌
  factory_refused h = rw (← e, ne_eqb number clear h)

  pub factory_permits : number ≡ clear → PermitAll ≡ factory_rpc k
  unfolding factory_rpc whether◌then◌else◌
  factory_permits h = rw (← e, eq-eqb number clear h)
