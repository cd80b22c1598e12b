-- `show` and `pack`, as they are called, are each other's inverse on accepted tables.
use mathlib.Core.Path.{◌≡◌, refl, ap, ◌∙◌}
use mathlib.Core.List.{List}
use Prim.Native.Nat.{ℕ, ◌+◌, ◌≤◌}
use native.Mathlib.Omega.{arith}
use borrow.Author.Tests.{le-leb}
use lib.Dec.{leb}
use lib.ListN.{length, take}
use Rattle.limits.specs.Sizes.{max_readable_text}
use Rattle.text.specs.Test.{whether◌then◌else◌}
use Rattle.text.specs.String.{Str}
use Rattle.text.specs.Fill.{put}
use Rattle.text.proofs.Tests.{by}
use Rattle.table_line.specs.Lines.{lines}
use Rattle.table.specs.Text.{check}
use Rattle.table.specs.Checked.{Checked}
use Rattle.table.specs.Checked as checked
use Rattle.readable_lines.specs.Lines.{shown_line}
use Rattle.readable.specs.Texts.{ending, stored, shown_as, show_answer, show_lent, made_answer, made_lent, pack_answer, pack_lent, packed_end, packed_table}
use Rattle.readable.specs.Converted.{Length, Refused, Unread, NoRoom}
use Rattle.readable.specs.Ended.{Ended}
use Rattle.readable.specs.Ended as ended
use Rattle.readable_parts.proofs.Stored.{front}
use Rattle.readable.proofs.Calling.{accepted_short, stored_length}
use Rattle.readable_laws.proofs.Texts.{show_then_pack, pack_then_show}
use Rattle.readable_laws.proofs.Accepted.{accepted_shows}
use Rattle.readable_laws.proofs.Longest.{accepted_fits}

-- what an answer of `show` tells
shown_told : (c : Checked) (t : Str) (out : List ℕ) (n : ℕ) → show_answer c t out ≡ Length n → (c ≡ checked.Accepted) × (ending shown_line (length out) 1 0 (lines t) ≡ ended.All n)
unfolding show_answer
shown_told (checked.Refused k l) t out n e = let z : ◌≡◌ {A = ℕ} 0 1 = cc in absurd (omega arith)
shown_told checked.Accepted t out n e = (refl, all_told (ending shown_line (length out) 1 0 (lines t)) e)
  where
    all_told : (x : Ended) → shown_as x ≡ Length n → x ≡ ended.All n
    all_told (ended.All m) h = let i : Length m ≡ Length n = (unfold shown_as in h) in let j : m ≡ n = cc in ap ended.All j
    all_told (ended.Unread l) h = let i : Unread l ≡ Length n = (unfold shown_as in h) in let z : ◌≡◌ {A = ℕ} 0 1 = cc in absurd (omega arith)
    all_told ended.Full h = let i : NoRoom ≡ Length n = (unfold shown_as in h) in let z : ◌≡◌ {A = ℕ} 0 1 = cc in absurd (omega arith)

-- a table that was shown, packed again: s is the readable text, which `show` left in `out`
pub table_returns : (t : Str) (out out' : List ℕ) (n : ℕ) → show_answer (check t) t out ≡ Length n → length t ≤ length out' → (s : Str) → s ≡ take n (show_lent (check t) t out)
    → (pack_answer (packed_end s) (packed_table s) out' ≡ Length (length t)) × (pack_lent (packed_end s) (packed_table s) out' ≡ put out' 0 t)
unfolding show_lent pack_answer pack_lent made_answer made_lent whether◌then◌else◌
table_returns t out out' n e h s i =
    let a = shown_told (check t) t out n e in
    let w = stored shown_line (length out) 0 (lines t) in
    let k = stored_length shown_line (length out) (lines t) 1 0 n (omega arith) a.1 in
    let x : take n (put out 0 w) ≡ w = front out w (put out 0 w) n (record { ends = k.0; same = refl }) in
    let y : s ≡ w = i ∙ rw a.0 x in
    let r = show_then_pack t (length out) n (accepted_short t a.0) a.1 in
    let p : packed_end s ≡ ended.All (length t) = ap packed_end y ∙ r.0 in
    let q : packed_table s ≡ t = ap packed_table y ∙ r.1 in
    (rw (p, q, a.0, le-leb (length t) (length out') h), rw (p, q, a.0, le-leb (length t) (length out') h))

-- what an answer of `pack` tells
made_told : (c : Checked) (t : Str) (out : List ℕ) (n : ℕ) → made_answer c t out ≡ Length n → (c ≡ checked.Accepted) × (n ≡ length t) × (made_lent c t out ≡ put out 0 t)
unfolding made_answer made_lent whether◌then◌else◌
made_told (checked.Refused k l) t out n e = let z : ◌≡◌ {A = ℕ} 0 1 = cc in absurd (omega arith)
made_told checked.Accepted t out n e =
    by (leb (length t) (length out))
    (λ u. let i : Length (length t) ≡ Length n = rw u at e in let j : n ≡ length t = cc in (refl, j, rw u))
    (λ u. let i : NoRoom ≡ Length n = rw u at e in let z : ◌≡◌ {A = ℕ} 0 1 = cc in absurd (omega arith))

packed_told : (x : Ended) (t : Str) (out : List ℕ) (n : ℕ) → pack_answer x t out ≡ Length n
    → (m : ℕ) × (x ≡ ended.All m) × (check t ≡ checked.Accepted) × (n ≡ length t) × (pack_lent x t out ≡ put out 0 t)
unfolding pack_answer pack_lent
packed_told (ended.All m) t out n e = let a = made_told (check t) t out n e in (m, refl, a.0, a.1, a.2)
packed_told (ended.Unread l) t out n e = let z : ◌≡◌ {A = ℕ} 0 1 = cc in absurd (omega arith)
packed_told ended.Full t out n e = let z : ◌≡◌ {A = ℕ} 0 1 = cc in absurd (omega arith)

-- a readable text that was packed, shown again: t is the table, which `pack` left in `out`
pub text_returns : (s : Str) (out out' : List ℕ) (n : ℕ) → pack_answer (packed_end s) (packed_table s) out ≡ Length n → length s ≤ length out'
    → (t : Str) → t ≡ take n (pack_lent (packed_end s) (packed_table s) out) → (show_answer (check t) t out' ≡ Length (length s)) × (show_lent (check t) t out' ≡ put out' 0 s)
unfolding show_answer show_lent shown_as
text_returns s out out' n e h t i =
    let a = packed_told (packed_end s) (packed_table s) out n e in
    let w = packed_table s in
    let x : take n (put out 0 w) ≡ w = front out w (put out 0 w) n (record { ends = (let k : n ≡ 0 + length w = omega (arith, a.3) in k); same = refl }) in
    let y : t ≡ w = i ∙ ap (take n) a.4 ∙ x in
    let r = pack_then_show s a.0 (length out') a.1 a.2 h in
    let c : check t ≡ checked.Accepted = ap check y ∙ a.2 in
    let p : ending shown_line (length out') 1 0 (lines t) ≡ ended.All (length s) = ap (λ (z : Str). ending shown_line (length out') 1 0 (lines z)) y ∙ r.0 in
    let q : stored shown_line (length out') 0 (lines t) ≡ s = ap (λ (z : Str). stored shown_line (length out') 0 (lines z)) y ∙ r.1 in
    (rw (c, p), rw (c, q))

-- an accepted table is shown wherever there is this room
pub accepted_answer : (t : Str) (out : List ℕ) → check t ≡ checked.Accepted → max_readable_text ≤ length out → (n : ℕ) × (show_answer (check t) t out ≡ Length n)
unfolding show_answer
accepted_answer t out c h = go (ending shown_line (length out) 1 0 (lines t)) refl
  where
    go : (x : Ended) → ending shown_line (length out) 1 0 (lines t) ≡ x → (n : ℕ) × (show_answer (check t) t out ≡ Length n)
    go (ended.All n) e = (n, (unfold shown_as in rw (c, e)))
    go (ended.Unread l) e = absurd (accepted_shows t c (length out) l e)
    go ended.Full e = absurd (accepted_fits t c (length out) h e)
