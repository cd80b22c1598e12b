-- The first line of a text, read in a part that is as long as the longest good line.
use Prim.Native.Nat.{ℕ, zero, suc, ◌+◌, ◌*◌, ◌-◌, ◌/◌, ◌≤◌, ◌<◌}
use native.Mathlib.Omega.{arith}
use borrow.Author.Tests.{leb-true, leb-false}
use mathlib.Core.Path.{◌≡◌, refl, sym, ap, ◌∙◌}
use mathlib.Core.Bool.{Bool, true, false}
use mathlib.Core.Logic.{◌⊎◌, inl, inr}
use mathlib.Core.List.{List, [], ◌∷◌, ◌++◌}
use mathlib.Core.Option.{Option, none, some, bind}
use lib.Dec.{eqb, leb}
use lib.ListN.{length, take, drop, length-drop, take-append-drop}
use lib.Seq.{length-take-le, take_all, take-add, drop_at, drop-drop, drop-append-le}
use Rattle.limits.specs.Sizes.{max_log_frame, max_log_line}
use Rattle.text.specs.Test.{whether◌then◌else◌}
use Rattle.text.specs.String.{Str}
use Rattle.text.proofs.Tests.{by, clash}
use Rattle.table_line.specs.Lines.{onto, lines, pair, pairs, nonempty, frame}
use Rattle.table_line.proofs.FirstLine.{head, lines_cons, Read, Unhex}
use Rattle.verdict.specs.Verdict.{Request}
use Rattle.request_log.specs.Request.{good_request, request_of}
use Rattle.request_log.proofs.Lengths.{good_short}
use Rattle.season_count.specs.Counting.{Reaches, BadLine}

-- ---- a hex line ends with LF, and has two digits for each byte

unfoldable ends_lf : Str → Bool
ends_lf [] = false
ends_lf (b ∷ []) = eqb b 10
ends_lf (b ∷ c ∷ s) = ends_lf (c ∷ s)

paired : (t : Bool) (b : ℕ) (x : Option Str) (f : Str) → pair t b x ≡ some f → (g : Str) × (x ≡ some g) × (length f ≡ suc (length g))
unfolding pair
paired true b (some g) f e = let i : b ∷ g ≡ f = cc in (g, refl, sym (ap length i))
paired true b none f e = let z : ◌≡◌ {A = ℕ} 0 1 = cc in absurd (omega arith)
paired false b x f e = let z : ◌≡◌ {A = ℕ} 0 1 = cc in absurd (omega arith)

lone : (x : ℕ) (f : Str) → (whether eqb x 10 then some [] else none) ≡ some f → (eqb x 10 ≡ true) × (length f ≡ 0)
unfolding whether◌then◌else◌
lone x f e =
    by (eqb x 10)
    (λ t. let g : some [] ≡ some f = rw t at e in let i : [] ≡ f = cc in (t, sym (ap length i)))
    (λ t. let g : none ≡ some f = rw t at e in let z : ◌≡◌ {A = ℕ} 0 1 = cc in absurd (omega arith))

pairs_told : (l f : Str) → pairs l ≡ some f → (ends_lf l ≡ true) × (length l ≡ 2 * length f + 1)
unfolding pairs ends_lf
pairs_told [] f e = let z : ◌≡◌ {A = ℕ} 0 1 = cc in absurd (omega arith)
pairs_told (x ∷ []) f e = let p = lone x f e in (p.0, omega (arith, p.1))
pairs_told (x ∷ y ∷ []) f e = let p = paired _ _ (pairs []) f e in let q = p.1 in let z : ◌≡◌ {A = ℕ} 0 1 = cc in absurd (omega arith)
pairs_told (x ∷ y ∷ z ∷ s) f e =
    let p = paired _ _ (pairs (z ∷ s)) f e in
    let t = pairs_told (z ∷ s) p.0 p.1 in
    (t.0, omega (arith, t.1, p.2))

some_bytes : (x : Option Str) (f : Str) → nonempty x ≡ some f → x ≡ some f
unfolding nonempty
some_bytes none f e = e
some_bytes (some []) f e = let z : ◌≡◌ {A = ℕ} 0 1 = cc in absurd (omega arith)
some_bytes (some (b ∷ g)) f e = e

frame_told : (l f : Str) → frame l ≡ some f → (ends_lf l ≡ true) × (length l ≡ 2 * length f + 1)
unfolding frame
frame_told l f e = pairs_told l f (some_bytes (pairs l) f e)

-- ---- the first line

abbrev after : Bool → List Str → Str
after true ls = []
after false ls = head ls

head_none : head [] ≡ []
unfolding head
head_none = refl

head_onto : (t : Bool) (b : ℕ) (ls : List Str) → head (onto t b ls) ≡ b ∷ after t ls
unfolding onto head
head_onto true b ls = refl
head_onto false b [] = refl
head_onto false b (l ∷ ls) = refl

after_take : (k : ℕ) (s : Str) → head (lines (take k s)) ≡ take k (head (lines s)) → (t : Bool) → after t (lines (take k s)) ≡ take k (after t (lines s))
after_take zero s e true = refl
after_take (suc k) s e true = refl
after_take k s e false = e

-- that of a beginning is a beginning of it
head_take : (k : ℕ) (s : Str) → head (lines (take k s)) ≡ take k (head (lines s))
unfolding lines
head_take zero s = head_none
head_take (suc k) [] = head_none ∙ sym (ap (take (suc k)) head_none)
head_take (suc k) (b ∷ s) =
    head_onto (eqb b 10) b (lines (take k s)) ∙ ap (λ (l : Str). b ∷ l) (after_take k s (head_take k s) (eqb b 10))
    ∙ sym (ap (take (suc k)) (head_onto (eqb b 10) b (lines s)))

head_is : (l : Str) (ls : List Str) → head (l ∷ ls) ≡ l
unfolding head
head_is l ls = refl

-- a first line that ends with LF is the first whatever follows
module _ (b : ℕ) (s more : Str) (ih : (l : Str) (ls : List Str) → lines s ≡ l ∷ ls → ends_lf l ≡ true → lines (s ++ more) ≡ l ∷ lines (drop (length l) (s ++ more))) where
  longer : (m : Str) (ms : List Str) → eqb b 10 ≡ false → lines s ≡ m ∷ ms → ends_lf (b ∷ m) ≡ true
      → onto false b (lines (s ++ more)) ≡ (b ∷ m) ∷ lines (drop (length (b ∷ m)) (b ∷ (s ++ more)))
  unfolding onto ends_lf
  longer [] ms i j h = clash h i
  longer (c ∷ m) ms i j h = rw (ih (c ∷ m) ms j h)

  grown : (t : Bool) → eqb b 10 ≡ t → (rest : List Str) → lines s ≡ rest → (l : Str) (ls : List Str) → onto t b rest ≡ l ∷ ls → ends_lf l ≡ true
      → onto t b (lines (s ++ more)) ≡ l ∷ lines (drop (length l) (b ∷ (s ++ more)))
  unfolding onto ends_lf
  grown true i rest j l ls k h = let x : (b ∷ []) ≡ l = cc in rw (← x)
  grown false i [] j l ls k h = let x : (b ∷ []) ≡ l = cc in clash (rw (← x) at h) i
  grown false i (m ∷ ms) j l ls k h = let x : (b ∷ m) ≡ l = cc in rw (← x) (longer m ms i j (rw (← x) at h))

first_stays : (s more l : Str) (ls : List Str) → lines s ≡ l ∷ ls → ends_lf l ≡ true → lines (s ++ more) ≡ l ∷ lines (drop (length l) (s ++ more))
unfolding lines
first_stays [] more l ls e h = let z : ◌≡◌ {A = ℕ} 0 1 = cc in absurd (omega arith)
first_stays (b ∷ s) more l ls e h = grown b s more (λ m ms. first_stays s more m ms) (eqb b 10) refl (lines s) refl l ls e h

-- ---- the request of a line, by its frame

module _ (l : Str) where
  pub request_none : frame l ≡ none → request_of l ≡ none
  unfolding request_of bind
  request_none e = rw e

  pub request_frame : (f : Str) → frame l ≡ some f → request_of l ≡ good_request f
  unfolding request_of bind
  request_frame f e = rw e

too_long : (f : Str) → max_log_frame < length f → (x : Option Request) → good_request f ≡ x → x ≡ none
too_long f h none e = refl
too_long f h (some q) e = absurd (omega (arith, good_short f q e))

-- a line longer than any good one is bad
long_line : (l : Str) → max_log_line < length l → (x : Option Str) → frame l ≡ x → request_of l ≡ none
long_line l h none e = request_none l e
long_line l h (some f) e = request_frame l f e ∙ too_long f (omega (arith, (frame_told l f e).1)) (good_request f) refl

-- ---- the part that is read

drop_take : (a k : ℕ) (s : Str) → a ≤ length s → drop a (take (a + k) s) ≡ take k (drop a s)
drop_take a k s h = ap (drop a) (take-add a k s) ∙ drop_at (take a s) (take k (drop a s)) a (length-take-le a s h)

module _ (text : Str) (from to : ℕ) (h : from < length text) (r : Reaches from (length text) to) where
  part_long : length (take to text) ≡ to
  part_long = length-take-le to text r.within

  pub from_below : from < length (take to text)
  from_below = go r.far
    where
      go : (to ≡ length text) ⊎ (to ≡ from + max_log_line) → from < length (take to text)
      go (inl e) = omega (arith, part_long)
      go (inr e) = omega (arith, part_long)

  pub from_within : from ≤ length (take to text)
  from_within = omega (arith, from_below)

  pub line_room_lem : (room : ℕ) → max_log_frame ≤ room → 0 + (length (take to text) - from) / 2 ≤ room
  line_room_lem room m = let n = r.near in omega (arith, part_long)

  split : drop from text ≡ drop from (take to text) ++ drop to text
  split = ap (drop from) (sym (take-append-drop to text)) ∙ drop-append-le from (take to text) (drop to text) from_within

  module _ {len next : ℕ} (g : Read (take to text) from len next) where
    pub next_within : next ≤ length text
    next_within = let w = r.within in omega (arith, g.ends, part_long)

    pub first_line_lem : lines (drop from text) ≡ g.line ∷ lines (drop next text)
    first_line_lem =
        let t = frame_told g.line _ g.is in
        let n : from + length g.line ≡ next = omega (arith, t.1, g.size, g.goes) in
        ap lines split
        ∙ first_stays (drop from (take to text)) (drop to text) g.line _ g.first t.0
        ∙ ap (λ (s : Str). g.line ∷ lines (drop (length g.line) s)) (sym split)
        ∙ ap (λ (s : Str). g.line ∷ lines s) (drop-drop (length g.line) from text ∙ ap (λ (k : ℕ). drop k text) n)

  module _ (u : Unhex (take to text) from) where
    whole_text : to ≡ length text → BadLine text from
    whole_text e =
        let w : take to text ≡ text = ap (λ (k : ℕ). take k text) e ∙ take_all (length text) text (omega arith) in
        record { line = u.line; others = u.others; first = ap (λ (s : Str). lines (drop from s)) (sym w) ∙ u.first; bad = request_none u.line u.is }

    beginning : to ≡ from + max_log_line → (l : Str) (ls : List Str) → lines (drop from text) ≡ l ∷ ls → u.line ≡ take max_log_line l
    beginning e l ls i =
        sym (head_is u.line u.others)
        ∙ ap head (sym u.first)
        ∙ ap (λ (k : ℕ). head (lines (drop from (take k text)))) e
        ∙ ap (λ (s : Str). head (lines s)) (drop_take from max_log_line text (omega arith))
        ∙ head_take max_log_line (drop from text)
        ∙ ap (take max_log_line) (ap head i ∙ head_is l ls)

    cut : to ≡ from + max_log_line → BadLine text from
    cut e =
        let c = lines_cons (drop from text) (omega (arith, length-drop from text)) in
        let b = beginning e c.0 c.1 c.2 in
        by (leb (length c.0) max_log_line)
        (λ t. let w : u.line ≡ c.0 = b ∙ take_all max_log_line c.0 (leb-true _ _ t) in
        record { line = c.0; others = c.1; first = c.2; bad = request_none c.0 (ap frame (sym w) ∙ u.is) })
        (λ t. record { line = c.0; others = c.1; first = c.2; bad = long_line c.0 (leb-false _ _ t) (frame c.0) refl })

    pub bad_line : BadLine text from
    bad_line = go r.far
      where
        go : (to ≡ length text) ⊎ (to ≡ from + max_log_line) → BadLine text from
        go (inl e) = whole_text e
        go (inr e) = cut e
