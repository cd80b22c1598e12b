-- `make` loads the table once; of one that is refused nothing is said.
use Rattle.table_check.proofs.Calls.{outcome_kept, outcome_refused}
use Rattle.verdict_call.proofs.Holding.{safe}
use Rattle.cli_season.proofs.Paging.{page_made, no_page}
use Rattle.cli_season.proofs.making.make.Goals as goal

pub returns-in_default : goal.returns-in_default
returns-in_default c =
    no_page _ _ _ _ _ _ (outcome_refused _ _ _ c.load.ensures _ c.in_default.is)

pub rules_of-requires : goal.rules_of-requires
rules_of-requires c = safe (outcome_kept _ _ _ c.load.ensures c.in-Ok.is)

pub returns : goal.returns
returns c =
    page_made (outcome_kept _ _ _ c.load.ensures c.in-Ok.is) c.rules_of.result c.rules_of.ensures _ _ _ c.page_of.ensures
