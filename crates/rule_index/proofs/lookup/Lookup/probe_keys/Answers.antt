use native.Mathlib.Omega.{arith}
use mathlib.Core.Path.{◌≡◌, refl, sym, ◌∙◌}
use Rattle.text.specs.String.{Str}
use Rattle.text_hash.specs.Mix.{place_of}
use Rattle.table_place.specs.Place.{str_end, key_in}
use Rattle.table_place.proofs.Cursor.{str_grows}
use Rattle.verdict_compare.specs.Place.{key, keys, elements}
use Rattle.verdict_judge.specs.Best.{kept}
use Rattle.text_hash.proofs.Mixing.{place_within}
use Rattle.rule_index.specs.Clue.{values_of}
use Rattle.rule_index.specs.Index.{buckets}
use Rattle.rule_index.proofs.Finding.{keys_on, keys_done}
use Rattle.rule_index.proofs.lookup.Lookup.probe_keys.Goals as goal

pub loop-k-init : goal.loop-k-init
loop-k-init c = rw c.into_iter-k-iterator.ensures.into_iter_gives (c.requires.1, (λ rest h. h), refl)

pub str_end-requires : goal.str_end-requires
str_end-requires c =
    let k = c.in-Some.k in let i = k.inside in omega (arith, str_grows k.bytes.now (str_end k.bytes.now k.at))

pub place_at-c-requires : goal.place_at-c-requires
place_at-c-requires c = (rw c.str_end.ensures c.in-Some.k.inside, c.requires.0.seed)

pub probe-so_far-requires : goal.probe-so_far-requires
probe-so_far-requires c = (
  c.requires.0,
  place_within _ _ 512 _ c.place_at-c.ensures (omega arith),
  c.loop-k.invariant.0,
  c.loop-k.invariant.2 ∙ c.requires.2,
)

pub loop-k-preserved : goal.loop-k-preserved
unfolding key_in
loop-k-preserved c =
    let s = c.args.self.now in
    let R = s.rules in
    let a = s.asker in (
      c.probe-so_far.ensures.probed.probing,
      keys_on R.bytes.now R.starts.now R.holders.now R.count a.set a.user.now a.mode a.origin.now (elements s.asked) s.seed s.keys.now
          (values_of (keys c.args.path_keys)) (kept c.args.best) (kept c.loop-k.so_far) _ _ (key c.in-Some.k) (keys c.next.new.self) _
          (rw c.str_end.ensures at c.place_at-c.ensures) c.probe-so_far.ensures.probed (rw c.in-Some.ensures.steps at c.loop-k.invariant.1),
      c.probe-so_far.ensures.seen_len_unchanged ∙ c.loop-k.invariant.2,
    )

pub returns-clause-probed_all : goal.returns-clause-probed_all
returns-clause-probed_all c =
    let s = c.args.self.now in
    let R = s.rules in
    let a = s.asker in
    keys_done R.bytes.now R.starts.now R.holders.now R.count a.set a.user.now a.mode a.origin.now (elements s.asked) s.seed s.keys.now
    (values_of (keys c.args.path_keys)) (kept c.args.best) (kept c.loop-k.so_far) _ c.loop-k.invariant.0
    (rw c.in-None.ensures.steps.0 at c.loop-k.invariant.1)
