-- What the two calls answer and leave.
use mathlib.Core.Path.{◌≡◌, refl, sym, ◌∙◌}
use mathlib.Core.Bool.{true, false}
use mathlib.Core.List.{List, [], ◌∷◌}
use mathlib.Core.Option.{Option, none, some}
use Prim.Native.Nat.{ℕ, ◌+◌, ◌-◌, ◌≤◌, ◌<◌}
use native.Mathlib.Omega.{arith}
use borrow.Author.Tests.{ltb-false, leb-true, le-leb, lt-leb}
use lib.Dec.{leb, ltb}
use lib.ListN.{length, take, length-append}
use Rattle.limits.specs.Limits.{max_table_text}
use Rattle.text.specs.Test.{whether◌then◌else◌}
use Rattle.text.specs.String.{Str}
use Rattle.text.specs.Fill.{put}
use Rattle.text.proofs.Tests.{by}
use Rattle.table_line.specs.Lines.{lines}
use Rattle.table.specs.Text.{check}
use Rattle.table.specs.Checked.{Checked}
use Rattle.table.specs.Checked as checked
use Rattle.readable_parts.specs.declared.Direction.TheVariants.{Show, Pack}
use Rattle.readable_lines.specs.declared.Source.TheVariants.{Table}
use Rattle.readable_lines.specs.Lines.{shown_line, packed_line, shown_for, packed_for, line_by}
use Rattle.readable.specs.Texts.{onward, ending, storing, stored, shown_as, show_answer, show_lent, made_answer, made_lent, pack_answer, pack_lent, packed_end, packed_table}
use Rattle.readable.specs.Converted.{Converted}
use Rattle.readable.specs.Converted as converted
use Rattle.readable.specs.Ended.{Ended}
use Rattle.readable.specs.Ended as ended
use Rattle.readable_parts.proofs.Stored.{front}

-- ---- show

pub accepted_short : (t : Str) → check t ≡ checked.Accepted → length t ≤ max_table_text
unfolding check whether◌then◌else◌
accepted_short t e =
    by (ltb max_table_text (length t))
    (λ u. let f : checked.Refused 1 0 ≡ checked.Accepted = rw u at e in let z : ◌≡◌ {A = ℕ} 0 1 = cc in absurd (omega arith))
    (λ u. ltb-false max_table_text (length t) u)

module _ (t : Str) (out : List ℕ) (c : Checked) (i : c ≡ check t) where
  pub show_refused : (n l : ℕ) → c ≡ checked.Refused n l → (converted.Refused n l ≡ show_answer (check t) t out) × (out ≡ show_lent (check t) t out)
  unfolding show_answer show_lent
  show_refused n l g = let h : check t ≡ checked.Refused n l = sym i ∙ g in (rw h, rw h)

  module _ (g : c ≡ checked.Accepted) (out' : List ℕ) (e : Ended) (x : e ≡ ending (line_by Table Show) (length out) 1 0 (lines t)) (y : out' ≡ put out 0 (stored (line_by Table Show) (length out) 0 (lines t))) where
    pub show_ended : (r : Converted) → r ≡ shown_as e → (r ≡ show_answer (check t) t out) × (out' ≡ show_lent (check t) t out)
    unfolding show_answer show_lent line_by shown_for shown_line whether◌then◌else◌
    show_ended r k = let h : check t ≡ checked.Accepted = sym i ∙ g in (k ∙ rw (h, x), rw h y)

    pub show_all : (n : ℕ) → e ≡ ended.All n → (converted.Length n ≡ show_answer (check t) t out) × (out' ≡ show_lent (check t) t out)
    unfolding shown_as
    show_all n k = show_ended (converted.Length n) (rw k)

    pub show_unread : (l : ℕ) → e ≡ ended.Unread l → (converted.Unread l ≡ show_answer (check t) t out) × (out' ≡ show_lent (check t) t out)
    unfolding shown_as
    show_unread l k = show_ended (converted.Unread l) (rw k)

    pub show_full : e ≡ ended.Full → (converted.NoRoom ≡ show_answer (check t) t out) × (out' ≡ show_lent (check t) t out)
    unfolding shown_as
    show_full k = show_ended converted.NoRoom (rw k)

-- ---- the table that was made

module _ (t : Str) (out : List ℕ) (c : Checked) (i : c ≡ check t) where
  pub made_refused : (n l : ℕ) → c ≡ checked.Refused n l → (converted.Refused n l ≡ made_answer (check t) t out) × (out ≡ made_lent (check t) t out)
  unfolding made_answer made_lent
  made_refused n l g = let h : check t ≡ checked.Refused n l = sym i ∙ g in (rw h, rw h)

  module _ (g : c ≡ checked.Accepted) where
    pub made_unfit : length out < length t → (converted.NoRoom ≡ made_answer (check t) t out) × (out ≡ made_lent (check t) t out)
    unfolding made_answer made_lent whether◌then◌else◌
    made_unfit l = let h : check t ≡ checked.Accepted = sym i ∙ g in (rw (h, lt-leb _ _ l), rw (h, lt-leb _ _ l))

    pub made_there : length t ≤ length out → (out' : List ℕ) → out' ≡ put out 0 t → (converted.Length (length t) ≡ made_answer (check t) t out) × (out' ≡ made_lent (check t) t out)
    unfolding made_answer made_lent whether◌then◌else◌
    made_there l out' e = let h : check t ≡ checked.Accepted = sym i ∙ g in (rw (h, le-leb _ _ l), rw (h, le-leb _ _ l) e)

-- ---- pack

-- where all lines were converted, so many bytes were stored
module _ (g : Str → Option Str) (room : ℕ) where
  pub stored_length : (ls : List Str) (n at m : ℕ) → at ≤ room → ending g room n at ls ≡ ended.All m → (m ≡ at + length (stored g room at ls)) × (m ≤ room)
  unfolding ending onward stored storing whether◌then◌else◌
  stored_length [] n at m h e = let i : at ≡ m = cc in (omega arith, omega arith)
  stored_length (l ∷ ls) n at m h e = go (λ n' at' h' e'. stored_length ls n' at' m h' e') (g l) refl e
    where
      go : ((n' at' : ℕ) → at' ≤ room → ending g room n' at' ls ≡ ended.All m → (m ≡ at' + length (stored g room at' ls)) × (m ≤ room))
          → (o : Option Str) → g l ≡ o → onward room n at o (λ to. ending g room (n + 1) to ls) ≡ ended.All m
          → (m ≡ at + length (storing room at (g l) (λ to. stored g room to ls))) × (m ≤ room)
      go ih none j k = let z : ◌≡◌ {A = ℕ} 0 1 = cc in absurd (omega arith)
      go ih (some w) j k =
          by (leb (length w) (room - at))
          (λ u. let k' = rw u at k in
          let b : length w ≤ room - at = leb-true _ _ u in
          let r = ih (n + 1) (at + length w) (omega arith) k' in
          rw (j, u) (omega (arith, r.0, length-append w (stored g room (at + length w) ls)), r.1))
          (λ u. let k' : ended.Full ≡ ended.All m = rw u at k in let z : ◌≡◌ {A = ℕ} 0 1 = cc in absurd (omega arith))

module _ (text : Str) (out z table : List ℕ) (e : Ended) (x : e ≡ ending (line_by Table Pack) (length z) 1 0 (lines text)) (y : table ≡ put z 0 (stored (line_by Table Pack) (length z) 0 (lines text))) (l : length z ≡ max_table_text) where
  end_is : packed_end text ≡ e
  unfolding packed_end line_by packed_for packed_line whether◌then◌else◌
  end_is = sym (rw l at x)

  pub pack_unread : (n : ℕ) → e ≡ ended.Unread n → (converted.Unread n ≡ pack_answer (packed_end text) (packed_table text) out) × (out ≡ pack_lent (packed_end text) (packed_table text) out)
  unfolding pack_answer pack_lent
  pack_unread n g = (rw (end_is, g), rw (end_is, g))

  pub pack_full : e ≡ ended.Full → (converted.Refused 1 0 ≡ pack_answer (packed_end text) (packed_table text) out) × (out ≡ pack_lent (packed_end text) (packed_table text) out)
  unfolding pack_answer pack_lent
  pack_full g = (rw (end_is, g), rw (end_is, g))

  module _ (n : ℕ) (g : e ≡ ended.All n) where
    sizes : (n ≡ 0 + length (stored (line_by Table Pack) (length z) 0 (lines text))) × (n ≤ length z)
    sizes = stored_length (line_by Table Pack) (length z) (lines text) 1 0 n (omega arith) (sym x ∙ g)

    pub pack_size : n ≤ max_table_text
    pack_size = omega (arith, sizes.1)

    table_is : take n table ≡ packed_table text
    unfolding packed_table line_by packed_for packed_line whether◌then◌else◌
    table_is = rw l at (front z _ table n (record { ends = sizes.0; same = y }))

    pub pack_made : (r : Converted) (out' : List ℕ) → (r ≡ made_answer (check (take n table)) (take n table) out) × (out' ≡ made_lent (check (take n table)) (take n table) out)
        → (r ≡ pack_answer (packed_end text) (packed_table text) out) × (out' ≡ pack_lent (packed_end text) (packed_table text) out)
    unfolding pack_answer pack_lent
    pack_made r out' h = let k = rw table_is at h in (rw (end_is, g) k.0, rw (end_is, g) k.1)
