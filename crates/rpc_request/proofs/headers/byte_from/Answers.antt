-- `byte_from` is the search of `text_search`, said as a cut of the header lines.
use Rattle.rpc_request.proofs.Lines.{cut_at_lem}
use Rattle.rpc_request.proofs.headers.byte_from.Goals as goal

pub returns : goal.returns
returns c = cut_at_lem _ _ _ _ c.requires c.find.ensures
