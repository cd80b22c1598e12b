-- Figures written as a report, line after line.
use Prim.Native.Nat.{ℕ, ◌+◌, ◌<◌}
use native.Mathlib.Numerals.{add-one}
use mathlib.Core.Path.{◌≡◌, refl, sym}
use mathlib.Core.List.{List, [], ◌∷◌, ◌++◌, append-nil, append_assoc}
use lib.ListN.{length, take, get_or}
use lib.Seq.{take-suc}
use Rattle.text.specs.String.{joined}
use Rattle.text_make.specs.Text.{fact}
use Rattle.season.specs.Report.{figure_line}
use Rattle.season_sum.specs.Figures.{report_text}

text_more : (ns : List ℕ) (n : ℕ) → report_text (ns ++ (n ∷ [])) ≡ report_text ns ++ figure_line n
unfolding report_text joined
text_more [] n = append-nil (figure_line n)
text_more (m ∷ ns) n = rw (text_more ns n) (sym (append_assoc (figure_line m) (joined figure_line ns) (figure_line n)))

pub none_written : report_text [] ≡ []
unfolding report_text joined
none_written = refl

-- the lines of the first i figures, and then that of the next one
module _ (text ns : List ℕ) (i : ℕ) (h : i < length ns) where
  pub more_written : (text ++ report_text (take i ns)) ++ fact [] (get_or ns i 0) ≡ text ++ report_text (take (i + 1) ns)
  unfolding fact figure_line
  more_written = rw (add-one, take-suc ns i 0 h, text_more (take i ns) (get_or ns i 0)) (append_assoc text (report_text (take i ns)) _)
