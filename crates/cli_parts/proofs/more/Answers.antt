-- `more` keeps what is left, and reads on behind it.
use Rattle.cli_parts.proofs.Keeping.{moved_first}
use Rattle.cli_parts.proofs.more.Goals as goal

pub returns-clause-kept_first : goal.returns-clause-kept_first
returns-clause-kept_first c = moved_first _ _ _ c.requires.0 c.requires.1 _ _ _ _ c.keep-kept.ensures
