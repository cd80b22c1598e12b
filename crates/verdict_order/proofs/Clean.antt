-- A text is accepted exactly where each of its lines reads, and gets no number after the lines before it.
use mathlib.Core.Path.{◌≡◌, refl, ap}
use mathlib.Core.Bool.{Bool, true, false}
use mathlib.Core.List.Memᴰ
use mathlib.Core.List.{List, [], ◌∷◌, filter_map}
use mathlib.Core.Option.{Option-elim}
use Prim.Native.Nat.{ℕ, ◌+◌}
use native.Mathlib.Omega.{arith}
use borrow.Author.Tests.{eqb-true}
use lib.Dec.{eqb}
use Rattle.text.specs.Test.{◌and◌, whether◌then◌else◌, ◌∈◌}
use Rattle.text.specs.String.{Str}
use Rattle.text.specs.Refusal.{clear}
use Rattle.text.proofs.Tests.{clash, by, and_l, and_r, both, on_cons}
use Rattle.table.specs.Frame.{Entry}
use Rattle.table.specs.Refusal.{Line, not_hex, unreadable, reads, line_of, Earlier, refusal, after, with}
use Rattle.table.specs.Text.{judge, unless}
use Rattle.table.specs.Checked.{Accepted}
use Rattle.verdict_order.specs.Reordering.{read, entries}

entries_cons : (l : Str) (ls : List Str) (e : Entry) → line_of l ≡ reads e → entries (l ∷ ls) ≡ e ∷ entries ls
unfolding entries filter_map Option-elim read
entries_cons l ls e i = rw i

-- no line gets a number
unfoldable pub clean : Earlier → List Str → Bool
clean b [] = true
clean b (l ∷ ls) = eqb (refusal b (line_of l)) clear and clean (after b (line_of l)) ls

-- no frame gets a number
unfoldable pub clean_entries : Earlier → List Entry → Bool
clean_entries b [] = true
clean_entries b (e ∷ es) = eqb (refusal b (reads e)) clear and clean_entries (with b e) es

pub judge_clean : (n : ℕ) (b : Earlier) (ls : List Str) → judge n b ls ≡ Accepted → clean b ls ≡ true
unfolding judge unless clean whether◌then◌else◌
judge_clean n b [] e = refl
judge_clean n b (l ∷ ls) e =
    by (eqb (refusal b (line_of l)) clear)
    (λ u. let e' = rw u at e in both _ _ u (judge_clean (n + 1) (after b (line_of l)) ls e'))
    (λ u. let e' = rw u at e in let z : ◌≡◌ {A = ℕ} 0 1 = cc in absurd (omega arith))

pub clean_judge : (n : ℕ) (b : Earlier) (ls : List Str) → clean b ls ≡ true → judge n b ls ≡ Accepted
unfolding judge unless clean whether◌then◌else◌
clean_judge n b [] e = refl
clean_judge n b (l ∷ ls) e = rw (and_l _ _ e) (clean_judge (n + 1) (after b (line_of l)) ls (and_r _ _ e))

-- ---- lines that read

unfoldable pub readable : Line → Bool
readable not_hex = false
readable unreadable = false
readable (reads e) = true

abbrev pub Readable : List Str → Type 0
Readable ls = (l : Str) → l ∈ ls → readable (line_of l) ≡ true

clear_readable : (b : Earlier) (l : Line) → eqb (refusal b l) clear ≡ true → readable l ≡ true
unfolding refusal readable
clear_readable b not_hex e = let z : ◌≡◌ {A = ℕ} 2 clear = eqb-true _ _ e in absurd (omega arith)
clear_readable b unreadable e = let z : ◌≡◌ {A = ℕ} 3 clear = eqb-true _ _ e in absurd (omega arith)
clear_readable b (reads x) e = refl

pub clean_readable : (b : Earlier) (ls : List Str) → clean b ls ≡ true → Readable ls
unfolding clean
clean_readable b [] e = λ l m. absurd (Memᴰ.not-nil m)
clean_readable b (l ∷ ls) e = on_cons (λ (x : Str). readable (line_of x) ≡ true) (clear_readable b (line_of l) (and_l _ _ e)) (clean_readable (after b (line_of l)) ls (and_r _ _ e))

entry_of : (l : Line) → readable l ≡ true → (e : Entry) × (l ≡ reads e)
unfolding readable
entry_of not_hex h = clash h refl
entry_of unreadable h = clash h refl
entry_of (reads e) h = (e, refl)

-- the frames tell all where the lines read
pub clean_entries_lem : (b : Earlier) (ls : List Str) → Readable ls → clean b ls ≡ clean_entries b (entries ls)
clean_entries_lem b [] h = none_left
  where
    none_left : clean b [] ≡ clean_entries b (entries [])
    none_left = unfold clean clean_entries entries filter_map in refl
clean_entries_lem b (l ∷ ls) h = go (clean_entries_lem (after b (line_of l)) ls (λ x m. h x (Memᴰ.tail m))) (entry_of (line_of l) (h l (Memᴰ.head refl)))
  where
    go : clean (after b (line_of l)) ls ≡ clean_entries (after b (line_of l)) (entries ls) → (e : Entry) × (line_of l ≡ reads e) → clean b (l ∷ ls) ≡ clean_entries b (entries (l ∷ ls))
    go ih r = rest r.0 r.1 ih
      where
        rest : (e : Entry) → line_of l ≡ reads e → clean (after b (line_of l)) ls ≡ clean_entries (after b (line_of l)) (entries ls) → clean b (l ∷ ls) ≡ clean_entries b (entries (l ∷ ls))
        rest e i ih = unfold clean clean_entries after in rw (entries_cons l ls e i, i) (ap (λ (t : Bool). eqb (refusal b (reads e)) clear and t) (rw i at ih))
