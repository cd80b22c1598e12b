-- `next_bucket` answers the bucket of its name.
use mathlib.Core.Path.{sym, ap, ◌∙◌}
use Rattle.text.proofs.Tests.{same→≡}
use Rattle.rpc_request.specs.Index.{bucket_of}
use Rattle.rpc_request.proofs.index.next_bucket.Goals as goal

pub returns-then-is_same : goal.returns-then-is_same
returns-then-is_same c =
    c.requires.1 ∙ ap (bucket_of _) (sym (same→≡ _ _ (sym c.is_same.ensures ∙ c.if-is_same.true)))
