-- A line converted.
use mathlib.Core.Path.{◌≡◌, refl, sym, ap, ◌∙◌}
use mathlib.Core.Bool.{false}
use mathlib.Core.List.{List, [], ◌∷◌, ◌++◌}
use mathlib.Core.Option.{Option, none, some, bind, map}
use Prim.Native.Nat.{ℕ, zero, suc, ◌+◌, ◌*◌, ◌-◌, ◌≤◌, ◌<◌}
use native.Mathlib.Omega.{arith}
use borrow.Author.Tests.{eqb-true}
use lib.Dec.{eqb}
use lib.ListN.{length, take, drop, get_or, set, length-append, length-drop, length-take}
use lib.Seq.{take_at, drop-drop, get_or-append_seam}
use Rattle.text.specs.Test.{whether◌then◌else◌}
use Rattle.text.specs.String.{Str}
use Rattle.text.specs.Frame.{part}
use Rattle.text.specs.Fill.{put}
use Rattle.text.specs.Steps.{Wrote}
use Rattle.text.proofs.Tests.{by}
use Rattle.text.proofs.Filling.{wrote_long, wrote_more, wrote_byte}
use Rattle.text_search.specs.Search.{until, is}
use Rattle.table_line.specs.Lines.{lines, onto}
use Rattle.table_line.specs.Decoding.{digits, first_line}
use Rattle.table_line.specs.declared.Line.{Line}
use Rattle.std.specs.Prelude as prelude
use Rattle.std.specs.Prelude.{None, Some}
use Rattle.table_line.proofs.FirstLine.{Read, line_read, line_unhex}
use Rattle.path_read.specs.Steps.{reached}
use Rattle.readable_parts.specs.Parts.{hex_text}
use Rattle.readable_lines.specs.Lines.{lined, unlined, shown_line_by, packed_line_by}
use Rattle.readable_lines.specs.Steps.{max_made_frame, max_made_line, Fills, Lays, lays, fails}
use Rattle.readable_parts.proofs.Stored.{front}
use Rattle.readable_lines.proofs.Stored.{filled_to, filled_not}
use Rattle.readable_parts.proofs.Digits.{hex_length}

-- ---- where a line ends

-- a line with its LF, and the lines after it
ended_line : (s : Str) → until (is 10) s < length s → lines s ≡ (take (until (is 10) s) s ++ (10 ∷ [])) ∷ lines (drop (suc (until (is 10) s)) s)
unfolding lines onto until whether◌then◌else◌
ended_line [] h = absurd (omega arith)
ended_line (x ∷ s) h =
    by (eqb x 10)
    (λ u. let e : x ≡ 10 = eqb-true _ _ u in rw u (ap (λ (z : ℕ). (z ∷ []) ∷ lines s) e))
    (λ u. let h' = rw u at h in let i = ended_line s (omega arith) in rw (u, i))

-- no byte is an LF
unended : (s : Str) → length s ≤ until (is 10) s → (i : ℕ) → i < length s → eqb (get_or s i 0) 10 ≡ false
unfolding until whether◌then◌else◌
unended [] h i l = absurd (omega arith)
unended (x ∷ s) h zero l = by (eqb x 10) (λ u. let h' = rw u at h in absurd (omega arith)) (λ u. u)
unended (x ∷ s) h (suc i) l = by (eqb x 10) (λ u. let h' = rw u at h in absurd (omega arith)) (λ u. let h' = rw u at h in unended s (omega arith) i (omega arith))

pub unended_line : (s : Str) → 0 < length s → length s ≤ until (is 10) s → lines s ≡ s ∷ []
unfolding lines onto until whether◌then◌else◌
unended_line [] z h = absurd (omega arith)
unended_line (x ∷ []) z h = by (eqb x 10) (λ u. let h' = rw u at h in absurd (omega arith)) (λ u. rw u)
unended_line (x ∷ y ∷ s) z h =
    by (eqb x 10) (λ u. let h' = rw u at h in absurd (omega arith))
    (λ u. let h' = rw u at h in let i = unended_line (y ∷ s) (omega arith) (omega arith) in rw (u, i))

pub unlined_line : (x : Str) → unlined (x ++ (10 ∷ [])) ≡ some x
unfolding unlined whether◌then◌else◌
unlined_line x =
    let l : length (x ++ (10 ∷ [])) - 1 ≡ length x = omega (arith, length-append x (10 ∷ [])) in
    rw (l, get_or-append_seam x 10 [] 0, take_at x (10 ∷ []) (length x) refl)

unlined_none : (s : Str) → 0 < length s → length s ≤ until (is 10) s → unlined s ≡ none
unfolding unlined whether◌then◌else◌
unlined_none s z h = rw (unended s h (length s - 1) (omega arith))

-- ---- a hex line, by what is shown of its frame

module _ (show : Str → Option Str) (text : Str) (from : ℕ) (i : from < length text) (r : prelude.Option Line) (e : r ≡ first_line from (lines (drop from text))) where
  pub show_bad : r ≡ None → {d d' : List ℕ} → Lays (shown_line_by show) text from d d' None
  unfolding shown_line_by lined bind
  show_bad g = let u = line_unhex text from r e i g in fails u.first (rw u.is)

  module _ (hex : Line) (g : r ≡ Some hex) (z b : List ℕ) (x : b ≡ put z 0 (digits (drop from text))) where
    abbrev len : ℕ
    len = hex.len

    abbrev next : ℕ
    next = hex.next

    told : Read text from len next
    told = line_read text from r e (omega arith) hex g

    frame_here : take len b ≡ digits (drop from text)
    frame_here = front z (digits (drop from text)) b len (record { ends = omega (arith, told.size); same = x })

    pub frame_room : 2 * len ≤ length text
    frame_room = omega (arith, told.goes, told.ends)

    is_shown : (o : Option Str) → show (take len b) ≡ o → shown_line_by show told.line ≡ lined o
    unfolding shown_line_by bind
    is_shown o s = let t = ap show (sym frame_here) ∙ s in rw (told.is, t)

    module _ (d d' : List ℕ) (q : prelude.Option ℕ) (f : Fills (show (take len b)) d d' q) where
      pub show_unread : q ≡ None → Lays (shown_line_by show) text from d d' None
      unfolding lined
      show_unread h = fails told.first (is_shown none (filled_not f h))

      module _ (end : ℕ) (h : q ≡ Some end) (l : max_made_line ≤ length d) where
        pub show_room : (end < length d') × (end < max_made_line)
        show_room =
            let u = filled_to f h in
            let k : length d' ≡ length d = wrote_long d 0 u.0 d' end u.2 (omega (arith, u.2.ends, u.3)) in
            (omega (arith, u.3), omega (arith, u.3))

        pub show_lays : Lays (shown_line_by show) text from d (set d' end 10) (reached next (end + 1))
        unfolding lined
        show_lays =
            let u = filled_to f h in
            lays {next = next} told.first (is_shown (some u.0) u.1)
            (wrote_more d 0 u.0 d' end u.2 (omega (arith, u.2.ends, u.3)) (10 ∷ []) (set d' end 10) (end + 1) (wrote_byte d' end 10 show_room.0))
            (omega (arith, u.3)) (omega (arith, told.goes)) told.ends

        pub show_long : length (set d' end 10) ≡ length d
        show_long =
            let u = filled_to f h in
            wrote_long d 0 (u.0 ++ (10 ∷ [])) (set d' end 10) (end + 1)
            (wrote_more d 0 u.0 d' end u.2 (omega (arith, u.2.ends, u.3)) (10 ∷ []) (set d' end 10) (end + 1) (wrote_byte d' end 10 show_room.0))
            (omega (arith, u.3, u.2.ends, length-append u.0 (10 ∷ [])))

-- ---- a readable line, by the frame that is packed of it

module _ (pack : Str → Option Str) (text : Str) (from : ℕ) (i : from < length text) (stop : ℕ) (e : stop ≡ from + until (is 10) (drop from text)) where
  pub pack_open : length text ≤ stop → {d d' : List ℕ} → Lays (packed_line_by pack) text from d d' None
  unfolding packed_line_by lined bind
  pack_open h =
      let s = drop from text in
      let z : 0 < length s = omega (arith, length-drop from text) in
      let k : length s ≤ until (is 10) s = omega (arith, length-drop from text) in
      fails (unended_line s z k) (rw (unlined_none s z k))

  module _ (l : stop < length text) where
    abbrev pub body : Str
    body = part text from stop

    pack_first : lines (drop from text) ≡ (body ++ (10 ∷ [])) ∷ lines (drop (stop + 1) text)
    pack_first =
        let k : stop - from ≡ until (is 10) (drop from text) = omega arith in
        let m : from + suc (until (is 10) (drop from text)) ≡ stop + 1 = omega arith in
        ended_line (drop from text) (omega (arith, length-drop from text)) ∙ rw (k, drop-drop (suc (until (is 10) (drop from text))) from text, m)

    is_packed : (o : Option Str) → pack body ≡ o → packed_line_by pack (body ++ (10 ∷ [])) ≡ lined (map hex_text o)
    unfolding packed_line_by bind
    is_packed o s = rw (unlined_line body, s)

    module _ (z b : List ℕ) (q : prelude.Option ℕ) (f : Fills (pack body) z b q) where
      pub pack_unread : q ≡ None → {d d' : List ℕ} → Lays (packed_line_by pack) text from d d' None
      unfolding lined
      pack_unread h = fails pack_first (is_packed none (filled_not f h))

      module _ (end : ℕ) (h : q ≡ Some end) (d : List ℕ) (w : max_made_line ≤ length d) where
        pub pack_end : end ≤ max_made_frame
        pack_end = (filled_to f h).3

        pub pack_fits : 0 + length (hex_text (take end b)) ≤ length d
        pack_fits = omega (arith, hex_length (take end b), length-take end b, pack_end)

        module _ (d' : List ℕ) (close : ℕ) (v : Wrote d 0 (hex_text (take end b)) d' close) where
          pub pack_room : (close < length d') × (close < max_made_line)
          pack_room =
              let k : length d' ≡ length d = wrote_long d 0 (hex_text (take end b)) d' close v pack_fits in
              (omega (arith, v.ends, hex_length (take end b), length-take end b, pack_end), omega (arith, v.ends, hex_length (take end b), length-take end b, pack_end))

          both : Wrote d 0 (hex_text (take end b) ++ (10 ∷ [])) (set d' close 10) (close + 1)
          both = wrote_more d 0 (hex_text (take end b)) d' close v pack_fits (10 ∷ []) (set d' close 10) (close + 1) (wrote_byte d' close 10 pack_room.0)

          pub pack_long : length (set d' close 10) ≡ length d
          pack_long =
              wrote_long d 0 (hex_text (take end b) ++ (10 ∷ [])) (set d' close 10) (close + 1) both
              (omega (arith, length-append (hex_text (take end b)) (10 ∷ []), hex_length (take end b), length-take end b, pack_end))

          pub pack_lays : Lays (packed_line_by pack) text from d (set d' close 10) (reached (stop + 1) (close + 1))
          unfolding lined
          pack_lays =
              let u = filled_to f h in
              let g : take end b ≡ u.0 = front z u.0 b end u.2 in
              lays {next = stop + 1} pack_first (is_packed (some u.0) u.1 ∙ ap (λ (t : Str). some (hex_text t ++ (10 ∷ []))) (sym g)) both (omega (arith, pack_room.1)) (omega arith) (omega arith)
