-- One line counted: what was decoded is its frame, and what was judged is its request.
use Prim.Native.Nat.{ℕ, ◌+◌, ◌≤◌, ◌<◌}
use native.Mathlib.Omega.{arith}
use mathlib.Core.Path.{◌≡◌, sym, ap, ◌∙◌, subst}
use mathlib.Core.List.{List}
use mathlib.Core.Option.{none}
use lib.ListN.{length, take, drop, get_or, length-drop}
use lib.Seq.{get_or-take}
use Rattle.std.specs.Prelude.{Some, None}
use Rattle.std.specs.Prelude.{Option as RustOption}
use Rattle.limits.specs.Sizes.{max_log_frame}
use Rattle.text.specs.String.{Str}
use Rattle.text.specs.Fill.{put}
use Rattle.text.proofs.Filling.{put_length, put_take}
use Rattle.table_line.specs.Lines.{lines}
use Rattle.table_line.specs.Decoding.{digits}
use Rattle.table_line.proofs.Digits.{digits_half}
use Rattle.table_line.proofs.FirstLine.{Read}
use Rattle.verdict_request.specs.PathAnswer.{PathAnswer}
use Rattle.verdict_request.specs.declared.PathAnswer as given
use Rattle.verdict_request.specs.Answers.{on_path}
use Rattle.request_log.specs.Request.{good_request, request_of}
use Rattle.season_count.specs.Counts.{raised_by, cell_raised_by}
use Rattle.season_count.specs.Loaded.{Answers, Judges}
use Rattle.season_count.specs.Counting.{Reaches, BadLine, CountedLine}
use Rattle.season_count.specs.declared.count.Tally.{Tally}
use Rattle.season_count.specs.declared.run.Run.{Run}
use Rattle.season_count.specs.declared.loaded.Loaded.{Loaded}
use Rattle.season_count.proofs.Raising.{rules_raised, cell_raised_lem}
use Rattle.season_count.proofs.Windows.{line_room_lem, next_within, first_line_lem, request_frame}

-- ---- what `judge` tells

module _ (L : Loaded) (frame : List ℕ) (r : Run) (j : RustOption given.PathAnswer) (J : Judges L frame r j) where
  pub judged_bad : j ≡ None → good_request frame ≡ none
  unfolding Judges
  judged_bad e = subst (λ (x : RustOption given.PathAnswer). Judges L frame r x) e J

  pub judged_answer : (a : given.PathAnswer) → j ≡ Some a → Answers L frame r (on_path a)
  unfolding Judges
  judged_answer a e = subst (λ (x : RustOption given.PathAnswer). Judges L frame r x) e J

-- ---- the line, decoded

module _ (text : Str) (from to : ℕ) (h : from < length text) (r : Reaches from (length text) to) (line line' : List ℕ) (room : max_log_frame ≤ length line)
    (w : line' ≡ put line 0 (digits (drop from (take to text)))) where
  abbrev decoded : Str
  decoded = digits (drop from (take to text))

  fits : 0 + length decoded ≤ length line
  fits =
      omega (arith, digits_half (drop from (take to text)), length-drop from (take to text), line_room_lem text from to h r (length line) room)

  pub line_long : length line' ≡ length line
  line_long = ap length w ∙ put_length line 0 decoded fits

  module _ {len next : ℕ} (g : Read (take to text) from len next) where
    pub size_within : len ≤ length line'
    size_within = omega (arith, fits, line_long, g.size)

    pub some_line : 0 < length line'
    some_line = let s = g.some' in omega (arith, size_within)

    frame_is : take len line' ≡ decoded
    frame_is =
        let z : len ≡ 0 + length decoded = omega (arith, g.size) in
        ap (λ (k : ℕ). take k line') z ∙ ap (take (0 + length decoded)) w ∙ put_take line 0 decoded fits

    request_is : request_of g.line ≡ good_request (take len line')
    request_is = request_frame g.line decoded g.is ∙ ap good_request (sym frame_is)

    pub no_request : good_request (take len line') ≡ none → BadLine text from
    no_request e = record { line = g.line; others = lines (drop next text); first = first_line_lem text from to h r g; bad = request_is ∙ e }

    pub first_of : get_or line' 0 0 ≡ get_or (take len line') 0 0
    first_of = sym (get_or-take len line' 0 0 g.some')

    module _ (L : Loaded) (run : Run) (a : PathAnswer) (A : Answers L (take len line') run a) where
      pub mode_fits : (1 ≤ get_or line' 0 0) × (get_or line' 0 0 ≤ 2)
      mode_fits = rw first_of A.mode

      pub counted_line : (tally tally' : Tally) → tally'.rules ≡ raised_by tally.rules a → tally'.grid ≡ cell_raised_by tally.grid (get_or line' 0 0) a
          → tally'.lines ≡ tally.lines + 1 → CountedLine L text from tally next run tally'
      counted_line tally tally' c d m =
          let goes = g.goes in
          record {
            line = g.line;
            request = A.request;
            first = first_line_lem text from to h r g;
            good = request_is ∙ A.good;
            goes = (omega arith, next_within text from to h r g);
            more = m;
            kept = A.kept;
            counts_are =
                λ t is qs C. record {
                  rules = c ∙ ap (λ (x : List ℕ). raised_by x a) C.rules ∙ rules_raised t qs A.request a (A.answer t is) A.placed;
                  rows =
                      d ∙ ap (λ (x : List (List ℕ)). cell_raised_by x (get_or line' 0 0) a) C.rows
                      ∙ cell_raised_lem t qs A.request a (A.answer t is) (get_or line' 0 0) (A.same_mode ∙ sym first_of) mode_fits.0 mode_fits.1 A.placed;
                };
          }
