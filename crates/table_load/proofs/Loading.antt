-- A turn of `load`, and each way out of it.
use mathlib.Core.Path.{◌≡◌, refl, sym, ap, ◌∙◌}
use mathlib.Core.List.{List, [], ◌∷◌, ◌++◌}
use mathlib.Core.Option.{none, some}
use Prim.Native.Nat.{ℕ, ◌+◌, ◌-◌, ◌/◌, ◌≤◌, ◌<◌}
use native.Mathlib.Omega.{arith}
use borrow.Author.Tests.{eq-eqb, ne_eqb, le-ltb, lt-ltb}
use lib.ListN.{length, take, drop, get_or, drop_of_length-le}
use lib.Seq.{length-take-le, take_at, drop_at, take-add, get_or-take, get_or-drop}
use Rattle.limits.specs.Limits.{max_table_text, max_members, max_rules}
use Rattle.limits.specs.Sizes.{max_table_bytes}
use Rattle.text.specs.Test.{whether◌then◌else◌, any, twice}
use Rattle.text.specs.String.{Str}
use Rattle.text.specs.Refusal.{clear}
use Rattle.text.specs.Frame.{part}
use Rattle.text.specs.Fill.{put}
use Rattle.text.proofs.Filling.{put_length}
use Rattle.table_line.specs.Lines.{lines, frame}
use Rattle.table_line.specs.Decoding.{digits, first_line}
use Rattle.std.specs.Prelude.{Option, Some, None}
use Rattle.table_line.specs.declared.Line as lined
use Rattle.table_line.proofs.FirstLine.{Read, line_read, line_unhex}
use Rattle.table.specs.Frame.{Entry, entry_of}
use Rattle.table.specs.Refusal.{Line, not_hex, reads, framed, decoded, line_of, Earlier, first, with, after, refusal}
use Rattle.table.specs.Text.{unless, judge, check, all_told, table, table_of}
use Rattle.table.specs.Checked.{Checked}
use Rattle.table.specs.Checked as checked
use Rattle.table_load.specs.declared.row.Counts.{Counts}
use Rattle.table_rows.specs.Strings.{rows_of, strings_in}
use Rattle.text_sorted.proofs.Growing.{none as none-sorted, none_there as no_name}
use Rattle.text_set.proofs.Sets.{holds_none}
use Rattle.table_keep.specs.Held.{member_keys, members_in, bytes_of, member_place}
use Rattle.table_keep_rule.specs.Kept.{ids_of, id_keys, id_place}
use Rattle.table_load.specs.Held.{RulesAt, HoldersAt, Long, Holds, Held, counts_after}
use Rattle.table_load.specs.Loaded.{Grown}

-- ---- stored bytes

module _ (d : List ℕ) (at : ℕ) (s : List ℕ) (h : at ≤ length d) where
  put_front : take at (put d at s) ≡ take at d
  unfolding put
  put_front = take_at (take at d) _ at (length-take-le at d h)

  put_part : (e : ℕ) → e ≡ at + length s → part (put d at s) at e ≡ s
  unfolding put
  put_part e i =
      let k : e - at ≡ length s = omega arith in
      rw (drop_at (take at d) (s ++ drop (at + length s) d) at (length-take-le at d h), k) (take_at s _ (length s) refl)

part_first : (l : List ℕ) (u e : ℕ) → u < e → get_or (part l u e) 0 0 ≡ get_or l u 0
part_first l u e h = get_or-take (e - u) (drop u l) 0 0 (omega arith) ∙ get_or-drop u l 0 0 ∙ ap (λ (i : ℕ). get_or l i 0) (omega arith)

-- ---- a line of the text

judge_line : (n : ℕ) (b : Earlier) (l : Str) (ls : List Str) (x : Line) → line_of l ≡ x → judge n b (l ∷ ls) ≡ unless (refusal b x) n (judge (n + 1) (after b x) ls)
unfolding judge
judge_line n b l ls x e = rw e

unless_not : (n line : ℕ) (next : Checked) → (n ≡ clear → ⊥) → unless n line next ≡ checked.Refused n line
unfolding unless whether◌then◌else◌
unless_not n line next h = rw (ne_eqb n clear h)

unless_clear : (n line : ℕ) (next : Checked) → n ≡ clear → unless n line next ≡ next
unfolding unless whether◌then◌else◌
unless_clear n line next h = rw (eq-eqb n clear h)

line_hex : (l f : Str) → frame l ≡ some f → line_of l ≡ framed (entry_of f)
unfolding line_of decoded
line_hex l f e = rw e

line_bad : (l : Str) → frame l ≡ none → line_of l ≡ not_hex
unfolding line_of decoded
line_bad l e = rw e

framed_some : (f : Str) (e : Entry) → entry_of f ≡ some e → framed (entry_of f) ≡ reads e
unfolding framed
framed_some f e i = rw i

-- ---- the invariant

pub record Going (text buf : List ℕ) (c : Counts) (groups users owners starts holders names ms is : List ℕ) (from used number : ℕ) : Type 0 where
  pub b : Earlier
  pub judged : check text ≡ judge number b (lines (drop from text))
  pub held : Held b (take used buf) c groups users owners starts holders names ms is
  pub told_left : all_told first (lines text) ≡ all_told b (lines (drop from text))
  pub paced : used + used + number ≡ from + 1
  pub within : (from ≤ length text) × (length text ≤ max_table_text) × (max_table_bytes ≤ length buf)

module _ (text : List ℕ) where
  pub over : max_table_text < length text → check text ≡ checked.Refused 1 0
  unfolding check whether◌then◌else◌
  over h = rw (lt-ltb max_table_text (length text) h)

  module _ (fits : length text ≤ max_table_text) where
    pub none_there : length text ≡ 0 → check text ≡ checked.Refused 4 1
    unfolding check whether◌then◌else◌
    none_there h = rw (le-ltb max_table_text (length text) fits, eq-eqb (length text) 0 h)

    check_judges : (length text ≡ 0 → ⊥) → check text ≡ judge 1 first (lines text)
    unfolding check whether◌then◌else◌
    check_judges h = rw (le-ltb max_table_text (length text) fits, ne_eqb (length text) 0 h)

    -- nothing is held yet
    pub load_start : (length text ≡ 0 → ⊥) → (buf groups users owners starts holders names ms is : List ℕ) → max_table_bytes ≤ length buf
        → Long groups users owners starts holders
        → (length ms ≡ member_keys) × (length is ≡ id_keys) → ((p : ℕ) → get_or ms p 0 ≡ 0) → ((p : ℕ) → get_or is p 0 ≡ 0)
        → Going text buf (record { kind = 0; groups = 0; members = 0; rules = 0 }) groups users owners starts holders names ms is 0 0 1
    unfolding first strings_in members_in rows_of ids_of RulesAt HoldersAt twice any bytes_of
    load_start h buf groups users owners starts holders names ms is room long sets ms-none is_none =
        record {
          b = first;
          judged = check_judges h;
          held = record {
            kind = refl;
            holds = record {
              groups_are = refl;
              members_are = refl;
              rules_are = tt;
              rules_count = refl;
              holders_are = tt;
              groups_laid = λ i k. absurd (omega arith);
              users_laid = λ i k. absurd (omega arith);
              owned = λ i k. absurd (omega arith);
              distinct = refl;
              few = (omega arith, omega arith, omega arith);
              long = long;
            };
            named = record { sorted = none-sorted [] names; told = λ y. sym (no_name [] names y) };
            members_set = holds_none member_place [] ms max_members ms-none;
            ids_set = holds_none id_place [] is max_rules is_none;
            sets_long = sets;
          };
          told_left = refl;
          paced = refl;
          within = (omega arith, fits, room);
        }

-- ---- the end

module _ {text buf : List ℕ} {c : Counts} {groups users owners starts holders names ms is : List ℕ} {from used number : ℕ}
    (G : Going text buf c groups users owners starts holders names ms is from used number) where
  pub line_room : (from ≤ length text) × (used + (length text - from) / 2 ≤ length buf)
  line_room = (G.within.0, omega (arith, G.paced, G.within))

  pub number_room : number ≤ max_table_text + 1
  number_room = omega (arith, G.paced, G.within)

  pub load_end : length text ≤ from → (check text ≡ checked.Accepted) × ((used ≤ length buf) × (used ≤ max_table_bytes))
      × Holds (table_of text).groups (table_of text).members (table_of text).rules (take used buf) c groups users owners starts holders
  unfolding judge lines all_told table table_of
  load_end h =
      let n : drop from text ≡ [] = drop_of_length-le text h in
      let told : all_told first (lines text) ≡ G.b = G.told_left ∙ rw n in
      (G.judged ∙ rw n, (omega (arith, G.paced, G.within), omega (arith, G.paced, G.within)), rw told G.held.holds)

  -- ---- a line that is no hex line

  pub load_bad : from < length text → (r : Option lined.Line) → r ≡ first_line from (lines (drop from text)) → r ≡ None → check text ≡ checked.Refused 2 number
  unfolding refusal
  load_bad h r i e =
      let u = line_unhex text from r i h e in
      G.judged ∙ ap (judge number G.b) u.first ∙ judge_line number G.b u.line u.others not_hex (line_bad u.line u.is) ∙ unless_not 2 number _ (λ q. omega arith)

  -- ---- a hex line

  module _ (r : Option lined.Line) (i : r ≡ first_line from (lines (drop from text))) (l : lined.Line) (e : r ≡ Some l) (buf' : List ℕ) (o : buf' ≡ put buf used (digits (drop from text))) where
    abbrev len : ℕ
    len = l.len

    abbrev next : ℕ
    next = l.next

    R : Read text from len next
    R = line_read text from r i G.within.0 l e

    abbrev f : List ℕ
    f = digits (drop from text)

    here : used ≤ length buf
    here = omega (arith, G.paced, G.within)

    pub row_room : (used < used + len) × (used + len ≤ length buf) × (used + len ≤ max_table_bytes)
    row_room = (omega (arith, R.some'), omega (arith, G.paced, G.within, R.goes, R.ends), omega (arith, G.paced, G.within, R.goes, R.ends))

    pub same_long : length buf' ≡ length buf
    same_long = ap length o ∙ put_length buf used f (omega (arith, row_room.1, R.size))

    pub row_fits : (used < used + len) × (used + len ≤ length buf') × (used + len ≤ max_table_bytes)
    row_fits = (row_room.0, omega (arith, row_room.1, same_long), row_room.2)

    pub goes_on : (from < next) × (next ≤ length text)
    goes_on = (omega (arith, R.goes), R.ends)

    old_same : take used buf' ≡ take used buf
    old_same = ap (take used) o ∙ put_front buf used f here

    frame_same : part buf' used (used + len) ≡ f
    frame_same = ap (λ (l : List ℕ). part l used (used + len)) o ∙ put_part buf used f here (used + len) (ap (λ (n : ℕ). used + n) R.size)

    pub held_again : Held G.b (take used buf') c groups users owners starts holders names ms is
    held_again = rw old_same G.held

    line_is : line_of R.line ≡ framed (entry_of (part buf' used (used + len)))
    line_is = line_hex R.line f R.is ∙ ap (λ (l : List ℕ). framed (entry_of l)) (sym frame_same)

    judged_line : check text ≡ unless (refusal G.b (framed (entry_of (part buf' used (used + len))))) number (judge (number + 1) (after G.b (framed (entry_of (part buf' used (used + len))))) (lines (drop next text)))
    judged_line = G.judged ∙ ap (judge number G.b) R.first ∙ judge_line number G.b R.line (lines (drop next text)) _ line_is

    module _ {groups' users' owners' starts' holders' names' ms' is' : List ℕ} (m : ℕ)
        (ens : (b : Earlier) → Held b (take used buf') c groups users owners starts holders names ms is
        → (m ≡ refusal b (framed (entry_of (part buf' used (used + len))))) × (m ≡ clear → Grown b (take used buf') (part buf' used (used + len)) c groups' users' owners' starts' holders' names' ms' is')) where
      pub load_refused : (m ≡ clear → ⊥) → check text ≡ checked.Refused m number
      load_refused n =
          let q = (ens G.b held_again).0 in
          judged_line ∙ ap (λ (k : ℕ). unless k number (judge (number + 1) (after G.b (framed (entry_of (part buf' used (used + len))))) (lines (drop next text)))) (sym q) ∙ unless_not m number _ n

      module _ (fine : m ≡ clear) where
        W : Grown G.b (take used buf') (part buf' used (used + len)) c groups' users' owners' starts' holders' names' ms' is'
        W = (ens G.b held_again).1 fine

        reads_this : framed (entry_of (part buf' used (used + len))) ≡ reads W.this
        reads_this = framed_some (part buf' used (used + len)) W.this W.reads

        pub load_again : (c' : Counts) → c' ≡ counts_after c (get_or buf' used 0) → Going text buf' c' groups' users' owners' starts' holders' names' ms' is' next (used + len) (number + 1)
        unfolding after all_told
        load_again c' p =
            let q = (ens G.b held_again).0 in
            let l : len ≡ used + len - used = omega arith in
            let t : take (used + len) buf' ≡ take used buf' ++ part buf' used (used + len) = take-add used len buf' ∙ ap (λ (k : ℕ). take used buf' ++ take k (drop used buf')) l in
            let k : c' ≡ counts_after c (get_or (part buf' used (used + len)) 0 0) = p ∙ ap (counts_after c) (sym (part_first buf' used (used + len) row_room.0)) in
            record {
              b = with G.b W.this;
              judged =
                  judged_line
                  ∙ ap (λ (k : ℕ). unless k number (judge (number + 1) (after G.b (framed (entry_of (part buf' used (used + len))))) (lines (drop next text)))) (sym q)
                  ∙ unless_clear m number _ fine
                  ∙ ap (λ (x : Line). judge (number + 1) (after G.b x) (lines (drop next text))) reads_this;
              held = rw (t, k) W.held;
              told_left =
                  G.told_left
                  ∙ ap (all_told G.b) R.first
                  ∙ ap (λ (x : Line). all_told (after G.b x) (lines (drop next text))) (line_is ∙ reads_this);
              paced = omega (arith, G.paced, R.goes);
              within = (R.ends, G.within.1, omega (arith, same_long, G.within.2));
            }
