-- For programs: whether a path covers the joined path of two others, without making it (specs/Join).
use Rattle.std.specs.Prelude.{Bool, true, [], ◌∷◌}
use Rattle.text.specs.Test.{◌and◌, ◌or◌, all}
use Rattle.text.specs.String.{same}
use Rattle.path.specs.Path.{Key, Elem, Path}
use Rattle.verdict.specs.Cover.{definite, holds, covers}

-- r and p, which agree, together meet s
unfoldable pub meets_both : Elem → Elem → Elem → Bool
meets_both s r p = same s.name r.name and all (λ (k : Key). holds (definite r) k or holds (definite p) k) (definite s)

-- s covers the joined path of r and p, where these agree
unfoldable pub covers_both : Path → Path → Path → Bool
covers_both [] rs ps = true
covers_both (s ∷ ss) [] ps = covers (s ∷ ss) ps
covers_both (s ∷ ss) (r ∷ rs) [] = covers (s ∷ ss) (r ∷ rs)
covers_both (s ∷ ss) (r ∷ rs) (p ∷ ps) = meets_both s r p and covers_both ss rs ps
