-- The figures of a report by place, those of two logs added, and their text: as many lines, none of them longer than a count can be.
use Prim.Native.Nat.{ℕ, zero, suc, ◌+◌, ◌*◌, ◌/◌, ◌%◌, ◌^◌, ◌≤◌, ◌<◌}
use native.Mathlib.Omega.{arith}
use native.Mathlib.Nat.{pow-suc, div-lt_iff_lt-mul}
use borrow.Author.Tests.{ne_eqb, lt-ltb}
use mathlib.Core.Path.{◌≡◌, refl, ap, ◌∙◌}
use mathlib.Core.Logic.{◌⊎◌, inl, inr}
use mathlib.Core.Bool.{Bool}
use mathlib.Core.List.Memᴰ
use mathlib.Core.List.{List, [], ◌∷◌, ◌++◌, map, append_assoc}
use lib.Dec.{ltb}
use lib.ListN.{length, get_or, length-append, get_or-append}
use Rattle.limits.specs.Limits.{max_rules, max_log_lines}
use Rattle.limits.specs.Sizes.{report_lines, max_report}
use Rattle.text.specs.Test.{whether◌then◌else◌, ◌∈◌}
use Rattle.text.specs.String.{Str, joined}
use Rattle.text.proofs.Tests.{by}
use Rattle.text_make.specs.Decimal.{digits, decimal}
use Rattle.table_line.specs.Lines.{lines, onto}
use Rattle.table.specs.Table.{Table}
use Rattle.verdict.specs.Verdict.{Request}
use Rattle.verdict_request.specs.PathAnswer.{PathAnswer}
use Rattle.season.specs.Report.{permitted, denied_by_rule, denied_by_default, for_each, rule_count, rule_counts, cell, row, grid, figures, figure_line, report}
use Rattle.season.proofs.Totals.{count_append, count_most, each_length, each_at}

-- ---- by place

module _ (t : Table) (qs : List Request) where
  abbrev grid_figures : List ℕ
  grid_figures = row t qs 1 ++ row t qs 2

  pub all_rules : length (rule_counts t qs) ≡ max_rules
  unfolding rule_counts
  all_rules = each_length _ max_rules 0

  pub figures_length : length (figures t qs) ≡ report_lines
  unfolding figures row
  figures_length = omega (arith, length-append (rule_counts t qs) grid_figures, all_rules)

  pub rule_figure : (i : ℕ) → i < max_rules → get_or (figures t qs) i 0 ≡ rule_count t qs i
  unfolding figures rule_counts
  rule_figure i h =
      get_or-append (rule_counts t qs) grid_figures 0 i (omega (arith, all_rules))
      ∙ each_at (rule_count t qs) max_rules 0 i h
      ∙ ap (rule_count t qs) (omega arith)

-- ---- the same figures

each_same : (f g : ℕ → ℕ) → ((i : ℕ) → f i ≡ g i) → (n i : ℕ) → for_each f n i ≡ for_each g n i
unfolding for_each
each_same f g e zero i = refl
each_same f g e (suc n) i = rw (e i, each_same f g e n (suc i))

module _ (t u : Table) (ps qs : List Request) where
  pub row_same : (mode : ℕ) → cell t ps mode permitted ≡ cell u qs mode permitted → cell t ps mode denied_by_rule ≡ cell u qs mode denied_by_rule
      → cell t ps mode denied_by_default ≡ cell u qs mode denied_by_default → row t ps mode ≡ row u qs mode
  unfolding row
  row_same mode permit deny default = rw (permit, deny, default)

  module _ (rows : (mode : ℕ) → row t ps mode ≡ row u qs mode) where
    pub grid_same : grid t ps ≡ grid u qs
    unfolding grid
    grid_same = rw (rows 1, rows 2)

    pub figures_same : ((i : ℕ) → rule_count t ps i ≡ rule_count u qs i) → figures t ps ≡ figures u qs
    unfolding figures rule_counts
    figures_same rules = rw (rows 1, rows 2, each_same (rule_count t ps) (rule_count u qs) rules max_rules 0)

-- ---- two logs added

-- the third list's figures are those of the first two, added place by place
data Added : List ℕ → List ℕ → List ℕ → Type 0 where
  none : Added [] [] []
  more : {a b c : ℕ} {xs ys zs : List ℕ} → c ≡ a + b → Added xs ys zs → Added (a ∷ xs) (b ∷ ys) (c ∷ zs)

added_append : {xs ys zs us vs ws : List ℕ} → Added xs ys zs → Added us vs ws → Added (xs ++ us) (ys ++ vs) (zs ++ ws)
added_append none y = y
added_append (more e x) y = more e (added_append x y)

added_each : (f g h : ℕ → ℕ) → ((i : ℕ) → h i ≡ f i + g i) → (n i : ℕ) → Added (for_each f n i) (for_each g n i) (for_each h n i)
unfolding for_each
added_each f g h e zero i = none
added_each f g h e (suc n) i = more (e i) (added_each f g h e n (suc i))

added_at : {xs ys zs : List ℕ} → Added xs ys zs → (i : ℕ) → get_or zs i 0 ≡ get_or xs i 0 + get_or ys i 0
added_at none i = refl
added_at (more e x) zero = e
added_at (more e x) (suc i) = added_at x i

module _ (t : Table) (ps qs : List Request) where
  row_added : (mode : ℕ) → Added (row t ps mode) (row t qs mode) (row t (ps ++ qs) mode)
  unfolding row cell
  row_added mode = more (count_append _ ps qs) (more (count_append _ ps qs) (more (count_append _ ps qs) none))

  pub figures_added : (i : ℕ) → get_or (figures t (ps ++ qs)) i 0 ≡ get_or (figures t ps) i 0 + get_or (figures t qs) i 0
  unfolding figures rule_counts rule_count
  figures_added = added_at (added_append (added_each _ _ _ (λ i. count_append _ ps qs) max_rules 0) (added_append (row_added 1) (row_added 2)))

-- ---- each figure is small

each_most : (f : ℕ → ℕ) (most : ℕ) → ((i : ℕ) → f i ≤ most) → (n i : ℕ) {k : ℕ} → k ∈ for_each f n i → k ≤ most
unfolding for_each
each_most f most h zero i m = absurd (Memᴰ.not-nil m)
each_most f most h (suc n) i (Memᴰ.head e) = omega (arith, h i)
each_most f most h (suc n) i (Memᴰ.tail m) = each_most f most h n (suc i) m

module _ (t : Table) (qs : List Request) where
  cell_most : (mode : ℕ) (outcome : PathAnswer → Bool) → cell t qs mode outcome ≤ length qs
  unfolding cell
  cell_most mode outcome = count_most _ qs

  row_most : (mode : ℕ) {k : ℕ} → k ∈ row t qs mode → k ≤ length qs
  unfolding row
  row_most mode (Memᴰ.head e) = omega (arith, e, cell_most mode permitted)
  row_most mode (Memᴰ.tail (Memᴰ.head e)) = omega (arith, e, cell_most mode denied_by_rule)
  row_most mode (Memᴰ.tail (Memᴰ.tail (Memᴰ.head e))) = omega (arith, e, cell_most mode denied_by_default)
  row_most mode (Memᴰ.tail (Memᴰ.tail (Memᴰ.tail m))) = absurd (Memᴰ.not-nil m)

  rules_most : {k : ℕ} → k ∈ rule_counts t qs → k ≤ length qs
  unfolding rule_counts rule_count
  rules_most m = each_most _ (length qs) (λ i. count_most _ qs) max_rules 0 m

  figures_most : (k : ℕ) → k ∈ figures t qs → k ≤ length qs
  unfolding figures
  figures_most k m = go (Memᴰ.append_cases (rule_counts t qs) m)
    where
      grid_most : (k ∈ row t qs 1) ⊎ (k ∈ row t qs 2) → k ≤ length qs
      grid_most (inl n) = row_most 1 n
      grid_most (inr n) = row_most 2 n

      go : (k ∈ rule_counts t qs) ⊎ (k ∈ grid_figures t qs) → k ≤ length qs
      go (inl n) = rules_most n
      go (inr n) = grid_most (Memᴰ.append_cases (row t qs 1) n)

-- the same by place: past the last there is 0
each_few : (f : ℕ → ℕ) (most : ℕ) → ((i : ℕ) → f i ≤ most) → (n i k : ℕ) → get_or (for_each f n i) k 0 ≤ most
unfolding for_each
each_few f most h zero i k = omega arith
each_few f most h (suc n) i zero = h i
each_few f most h (suc n) i (suc k) = each_few f most h n (suc i) k

module _ (t : Table) (qs : List Request) where
  pub rules_few : (i : ℕ) → get_or (rule_counts t qs) i 0 ≤ length qs
  unfolding rule_counts rule_count
  rules_few i = each_few _ (length qs) (λ k. count_most _ qs) max_rules 0 i

  row_few : (mode c : ℕ) → get_or (row t qs mode) c 0 ≤ length qs
  unfolding row
  row_few mode zero = cell_most t qs mode permitted
  row_few mode (suc zero) = cell_most t qs mode denied_by_rule
  row_few mode (suc (suc zero)) = cell_most t qs mode denied_by_default
  row_few mode (suc (suc (suc c))) = omega arith

  pub grid_few : (r c : ℕ) → get_or (get_or (grid t qs) r []) c 0 ≤ length qs
  unfolding grid
  grid_few zero c = row_few 1 c
  grid_few (suc zero) c = row_few 2 c
  grid_few (suc (suc r)) c = omega arith

-- ---- the text

-- a number below 10 ^ (j + 1) has at most j + 1 digits
digits_short : (k j n : ℕ) → n < 10 ^ suc j → length (digits k n) ≤ suc j
unfolding digits whether◌then◌else◌
digits_short zero j n h = omega arith
digits_short (suc k) zero n h = rw (lt-ltb n 10 (omega arith)) (omega arith)
digits_short (suc k) (suc j) n h =
    by (ltb n 10) (λ e. rw e (omega arith))
    (λ e. let s : n / 10 < 10 ^ suc j = (div-lt_iff_lt-mul {k = 10} (omega arith)).1 (omega (arith, pow-suc 10 (suc j))) in
    rw e (omega (arith, length-append (digits k (n / 10)) ((48 + n % 10) ∷ []), digits_short k j (n / 10) s)))

line_short : (n : ℕ) → n ≤ max_log_lines → length (figure_line n) ≤ 8
unfolding figure_line decimal
line_short n h = omega (arith, length-append (digits 20 n) (10 ∷ []), digits_short 20 6 n (omega arith))

joined_short : (ns : List ℕ) → ((n : ℕ) → n ∈ ns → n ≤ max_log_lines) → length (joined figure_line ns) ≤ length ns * 8
unfolding joined
joined_short [] h = omega arith
joined_short (n ∷ ns) h =
    omega (
      arith,
      length-append (figure_line n) (joined figure_line ns),
      line_short n (h n (Memᴰ.head refl)),
      joined_short ns (λ k m. h k (Memᴰ.tail m)),
    )

-- no report on as many requests as a log may have is longer
pub report_short : (t : Table) (qs : List Request) → length qs ≤ max_log_lines → length (report t qs) ≤ max_report
unfolding report
report_short t qs h = omega (arith, joined_short (figures t qs) (λ k m. omega (arith, figures_most t qs k m)), figures_length t qs)

-- digits are no LF
digits_high : (k n : ℕ) {b : ℕ} → b ∈ digits k n → 48 ≤ b
unfolding digits whether◌then◌else◌
digits_high zero n m = absurd (Memᴰ.not-nil m)
digits_high (suc k) n {b} m =
    by (ltb n 10) (λ e. go [] (λ z. absurd (Memᴰ.not-nil z)) (rw e at m)) (λ e. go (digits k (n / 10)) (digits_high k (n / 10)) (rw e at m))
  where
    last : b ∈ (48 + n % 10) ∷ [] → 48 ≤ b
    last (Memᴰ.head e) = omega arith
    last (Memᴰ.tail z) = absurd (Memᴰ.not-nil z)

    go : (s : Str) → (b ∈ s → 48 ≤ b) → b ∈ s ++ ((48 + n % 10) ∷ []) → 48 ≤ b
    go s h z = either (Memᴰ.append_cases s z)
      where
        either : (b ∈ s) ⊎ (b ∈ (48 + n % 10) ∷ []) → 48 ≤ b
        either (inl y) = h y
        either (inr y) = last y

-- such bytes and an LF are one line
one_line : (s rest : Str) → ((b : ℕ) → b ∈ s → 48 ≤ b) → lines (s ++ (10 ∷ rest)) ≡ (s ++ (10 ∷ [])) ∷ lines rest
unfolding lines onto
one_line [] rest h = refl
one_line (x ∷ s) rest h =
    let l : 48 ≤ x = h x (Memᴰ.head refl) in
    rw (ne_eqb x 10 (λ z. omega arith), one_line s rest (λ b m. h b (Memᴰ.tail m)))

first_line_lem : (n : ℕ) (rest : Str) → lines (figure_line n ++ rest) ≡ figure_line n ∷ lines rest
unfolding figure_line decimal
first_line_lem n rest = rw (append_assoc (digits 20 n) (10 ∷ []) rest) (one_line (digits 20 n) rest (λ b m. digits_high 20 n m))

joined_lines : (ns : List ℕ) → lines (joined figure_line ns) ≡ map figure_line ns
unfolding joined
joined_lines [] = unfold lines in refl
joined_lines (n ∷ ns) = first_line_lem n (joined figure_line ns) ∙ ap (λ (ls : List Str). figure_line n ∷ ls) (joined_lines ns)

-- a line for each figure
pub report_lines_lem : (t : Table) (qs : List Request) → lines (report t qs) ≡ map figure_line (figures t qs)
unfolding report
report_lines_lem t qs = joined_lines (figures t qs)
