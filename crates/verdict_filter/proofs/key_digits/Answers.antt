use native.Mathlib.Omega.{arith}
use mathlib.Core.Path.{sym, ◌∙◌}
use Rattle.text.proofs.Tests.{or_l, or_r}
use Rattle.table_place.specs.Place.{str_end, str_in, key_in}
use Rattle.table_place.proofs.Cursor.{str_grows}
use Rattle.verdict_filter.proofs.Turns.{key_is, key_left}
use Rattle.text_hash.proofs.Mixing.{mix_small}
use Rattle.verdict_filter.proofs.key_digits.Goals.{then-is_wild-via-then-is_wild, then-is_wild-via-else-is_wild+then-give}
use Rattle.verdict_filter.proofs.key_digits.Goals as goal

pub returns-then-is_wild : goal.returns-then-is_wild
returns-then-is_wild c =
    elim c.then-is_wild.branch [
      | then-is_wild-via-then-is_wild w ↦ c.empty.ensures ∙ key_left _ _ _ _ (or_l _ _ (sym c.is_wild.ensures ∙ w.if-is_wild.true))
      | then-is_wild-via-else-is_wild+then-give w ↦ c.empty.ensures ∙ key_left _ _ _ _ (or_r _ _ (sym w.give.ensures ∙ w.if-give.true))
    ]

pub hash_at-h-requires : goal.hash_at-h-requires
hash_at-h-requires c =
    let own = c.args.own in let inside = own.inside in
    (c.requires.0, omega (arith, c.requires.1), omega (arith, str_grows own.bytes.now (str_end own.bytes.now own.at)))

pub str_end-requires : goal.str_end-requires
str_end-requires c =
    let own = c.args.own in let inside = own.inside in omega (arith, str_grows own.bytes.now (str_end own.bytes.now own.at))

pub hash_at-requires : goal.hash_at-requires
hash_at-requires c =
    let own = c.args.own in (
      c.requires.0,
      rw c.hash_at-h.ensures (mix_small c.args.s c.args.d (str_in own.bytes.now own.at) (omega (arith, c.requires.1))),
      rw c.str_end.ensures own.inside,
    )

pub returns : goal.returns
unfolding key_in
returns c =
    let own = c.args.own in
    c.digits.ensures
    ∙ rw (c.hash_at.ensures, c.hash_at-h.ensures, c.str_end.ensures)
    (key_is c.args.s c.args.d _ (key_in own.bytes.now own.at) (sym c.is_wild.ensures ∙ c.if-is_wild.false) (sym c.give.ensures ∙ c.if-give.false))
