use Rattle.cli_names.proofs.Listing.{listing_start, listing_room, listing_turn, listing_done}
use Rattle.cli_names.proofs.add_names.Goals as goal

pub loop-i-init : goal.loop-i-init
loop-i-init c = listing_start _ _ _ _

pub add_name-requires : goal.add_name-requires
add_name-requires c = (
  c.requires.0.laid c.loop-i.i c.loop-i-test.true,
  listing_room _ _ _ _ _ _ c.loop-i.invariant c.loop-i-test.true _ c.requires.1,
)

pub loop-i-preserved : goal.loop-i-preserved
loop-i-preserved c = listing_turn _ _ _ _ _ _ c.loop-i.invariant c.loop-i-test.true _ c.add_name.ensures

pub returns : goal.returns
returns c = listing_done _ _ _ _ _ _ c.loop-i.invariant c.loop-i-test.false
