-- `find` tries all clues of the path, so no rule that matches is better than what it keeps.
use native.Mathlib.Omega.{arith}
use mathlib.Core.Path.{refl, ap, ◌∙◌}
use Rattle.text_hash.specs.Mix.{place_of}
use Rattle.table_place.proofs.Cursor.{elems_room, elem_room}
use Rattle.text_hash.proofs.Mixing.{place_within}
use Rattle.verdict_compare.specs.Place.{elements}
use Rattle.verdict_judge.specs.Best.{kept}
use Rattle.rule_index.proofs.Finding.{nothing_probing, found_root, found, no_string}
use Rattle.rule_index.proofs.lookup.Lookup.find.Goals as goal

pub place-root-requires : goal.place-root-requires
place-root-requires c = (c.requires.seed, omega arith)

pub probe-b-requires : goal.probe-b-requires
unfolding kept
probe-b-requires c = (
  c.requires,
  place_within _ _ 512 _ c.place-root.ensures (omega arith),
  nothing_probing _ _ _ _ _ _ _ _ _ _ _,
  refl,
)

pub returns-then-self-eq0 : goal.returns-then-self-eq0
unfolding kept
returns-then-self-eq0 c =
    let s = c.args.self.now in
    let R = s.rules in
    let a = s.asker in
    found_root R.bytes.now R.starts.now R.holders.now R.count a.set a.user.now a.mode a.origin.now s.asked.bytes.now s.asked.count s.asked.at
    s.seed s.keys.now s.first.now c.requires.index (kept c.probe-b.result) _
    (c.place-root.ensures ∙ ap (place_of s.seed 512) (no_string s.asked.bytes.now)) _ (c.probe-b.ensures.probed) c.if-self-eq0.true

pub place_at-name-requires : goal.place_at-name-requires
place_at-name-requires c =
    let p = c.args.self.now.asked in
    let r = elems_room p.bytes.now p.count p.at (omega (arith, c.if-self-eq0.false)) p.inside in
    (omega (arith, (elem_room _ _ r.0).0), c.requires.seed)

pub probe-c-requires : goal.probe-c-requires
probe-c-requires c = (
  c.requires,
  place_within _ _ 512 _ c.place_at-name.ensures (omega arith),
  c.probe-b.ensures.probed.probing,
  c.probe-b.ensures.seen_len_unchanged,
)

pub probe_elements-requires : goal.probe_elements-requires
probe_elements-requires c =
    (c.requires, c.probe-c.ensures.probed.probing, c.probe-c.ensures.seen_len_unchanged ∙ c.probe-b.ensures.seen_len_unchanged)

pub returns : goal.returns
unfolding kept
returns c =
    let s = c.args.self.now in
    let R = s.rules in
    let a = s.asker in
    found R.bytes.now R.starts.now R.holders.now R.count a.set a.user.now a.mode a.origin.now s.asked.bytes.now s.asked.count s.asked.at
    s.seed s.keys.now s.first.now c.requires.index (kept c.probe-b.result) _
    (c.place-root.ensures ∙ ap (place_of s.seed 512) (no_string s.asked.bytes.now)) _ (c.probe-b.ensures.probed) (omega (arith, c.if-self-eq0.false))
    (kept c.probe-c.result) (kept c.probe_elements.result) _ _ _ c.place_at-name.ensures (c.probe-c.ensures.probed) (c.probe_elements.ensures.probed_all)
