-- A request is its heading and its path: what reading them apart tells of the frame.
use Prim.Native.Nat.{ℕ, ◌+◌, ◌-◌, ◌≤◌, ◌<◌}
use native.Mathlib.Omega.{arith}
use borrow.Author.Tests.{ne_eqb, eqb-true, eqb-false, ltb-true, ltb-false}
use mathlib.Core.Path.{◌≡◌, refl, sym, ap, ◌∙◌}
use mathlib.Core.Bool.{Bool, true, false, not}
use mathlib.Core.List.{List}
use mathlib.Core.Option.{Option, none, some}
use lib.Dec.{eqb, ltb}
use lib.ListN.{length, get_or, length-take, length-drop}
use Rattle.text.specs.Test.{whether◌then◌else◌}
use Rattle.text.specs.String.{Str}
use Rattle.text.specs.Refusal.{◌when◌else◌, clear}
use Rattle.text.specs.Frame.{Parsed, got, unread, and_then, ◌>>=◌, ret, byte, part, string}
use Rattle.text.proofs.Frames.{byte_got, byte_unread}
use Rattle.text.proofs.Codec.{never_got, then_got, got_move}
use Rattle.text.proofs.Tests.{by, clash, and_l, and_r, and_false}
use Rattle.path.specs.Path.{Path}
use Rattle.path.specs.Bytes.{path}
use Rattle.path.specs.Walk.{is_path_in}
use Rattle.path.specs.Refusal.{good_path}
use Rattle.table.specs.Frame.{whole}
use Rattle.table_place.specs.Place.{str_end, str_in, path_in}
use Rattle.table_place.proofs.Reading.{same_got, str_read, path_read}
use Rattle.verdict.specs.Verdict.{Request}
use Rattle.verdict_request.specs.Calls.{refusal_or, asked}
use Rattle.request_log.specs.Request.{request_body, framed_request, framed_refusal, unrefused, good_request}
use Rattle.std.specs.Prelude.{Some, None}
use Rattle.std.specs.Prelude.{Option as RustOption}
use Rattle.refusal.specs.Refusal.{code}
use Rattle.request_log.specs.Heading.{Head, heading, head_refusal, headed, At, Unread, told}
use Rattle.request_log.specs.declared.Heading.{Heading}

-- ---- reading the heading, part by part

module _ (f : List ℕ) where
  pub no_mode : length f ≡ 0 → heading f 0 ≡ unread
  unfolding heading ◌>>=◌
  no_mode e = rw (byte_unread f 0 (omega arith))

  module _ (h : 0 < length f) where
    pub no_user : string f 1 ≡ unread → heading f 0 ≡ unread
    unfolding heading ◌>>=◌
    no_user e = rw (byte_got f 0 h, e)

    module _ (o : ℕ) (u : string f 1 ≡ got (part f 2 o) o) where
      pub no_origin : string f o ≡ unread → heading f 0 ≡ unread
      unfolding heading ◌>>=◌
      no_origin e = rw (byte_got f 0 h, u, e)

      pub head_read : (p : ℕ) → string f o ≡ got (part f (o + 1) p) p
          → heading f 0 ≡ got (record { mode = get_or f 0 0; user = part f 2 o; origin = part f (o + 1) p }) p
      unfolding heading ◌>>=◌ ret
      head_read p e = rw (byte_got f 0 h, u, e)

-- the answer of `read_heading`, from what was read
pub head_unread : (x : Parsed Head) → x ≡ unread → Unread ≡ headed x
unfolding headed
head_unread x e = rw e

module _ (f : List ℕ) (o p : ℕ) (l : 2 ≤ o) (m : o ≤ length f) where
  user_long : length (part f 2 o) ≡ o - 2
  user_long = simp (length-take, length-drop) (omega arith)

  pub head_at : (n : ℕ) → n ≡ refusal_or clear (part f 2 o) (get_or f 0 0) (part f (o + 1) p) → (x : Parsed Head)
      → x ≡ got (record { mode = get_or f 0 0; user = part f 2 o; origin = part f (o + 1) p }) p → At n o p ≡ headed x
  unfolding headed head_refusal
  head_at n e x g = let k : 2 + length (part f 2 o) ≡ o = omega (arith, user_long) in rw (g, k, e)

-- what an answer of `read_heading` tells

abbrev pub head_in : List ℕ → ℕ → ℕ → Head
head_in f o p = record { mode = get_or f 0 0; user = part f 2 o; origin = part f (o + 1) p }

pub record HeadAt (f : List ℕ) (n o p : ℕ) : Type 0 where
  pub some_bytes : 0 < length f
  pub user_ends : 2 ≤ o
  pub user_end : o ≡ str_end f 1
  pub origin_ends : o + 1 ≤ p
  pub within : p ≤ length f
  pub reads : heading f 0 ≡ got (head_in f o p) p
  pub number : n ≡ head_refusal (head_in f o p)

module _ (f : List ℕ) where
  next_string : (at : ℕ) (s : Str) (t : ℕ) → string f at ≡ got s t → (s ≡ part f (at + 1) t) × (at + 1 ≤ t) × (t ≤ length f)
  unfolding str_end str_in
  next_string at s t e = let k = str_read f at s t e in (rw k.2 k.1, omega (arith, k.2), omega (arith, k.0, k.2))

  module _ (h : 0 < length f) where
    opened : heading f 0 ≡ and_then (string f 1) (λ u p. and_then (string f p) (λ o t. got (record { mode = get_or f 0 0; user = u; origin = o }) t))
    unfolding heading ◌>>=◌ ret
    opened = rw (byte_got f 0 h)

    from_strings : (u : Str) (o : ℕ) → string f 1 ≡ got u o → (v : Str) (p : ℕ) → string f o ≡ got v p
        → HeadAt f (head_refusal (record { mode = get_or f 0 0; user = u; origin = v })) (2 + length u) p
    from_strings u o e v p d =
        let a = next_string 1 u o e in
        let b = next_string o v p d in
        let l : 2 + length u ≡ o = omega (arith, ap length a.0, user_long f o p a.1 a.2) in
        rw l (record {
          some_bytes = h;
          user_ends = a.1;
          user_end = (str_read f 1 u o e).2;
          origin_ends = b.1;
          within = b.2;
          reads = head_read f h o (e ∙ ap (λ (s : Str). got s o) a.0) p (d ∙ ap (λ (s : Str). got s p) b.0);
          number =
              ap (λ (s : Str). head_refusal (record { mode = get_or f 0 0; user = s; origin = v })) a.0
              ∙ ap (λ (s : Str). head_refusal (record { mode = get_or f 0 0; user = part f 2 o; origin = s })) b.0;
        })

    from_heading : (h : Head) (t : ℕ) → heading f 0 ≡ got h t → HeadAt f (head_refusal h) (2 + length h.user) t
    from_heading x t e =
        let a = then_got (string f 1) _ (sym opened ∙ e) in
        let b = then_got (string f a.1) _ a.3 in
        got_move (λ y d. HeadAt f (head_refusal y) (2 + length y.user) d) b.3 (from_strings a.0 a.1 a.2 b.0 b.1 b.2)

  pub heading_at : (h : Head) (t : ℕ) → heading f 0 ≡ got h t → HeadAt f (head_refusal h) (2 + length h.user) t
  heading_at h t e =
      by (ltb 0 (length f)) (λ u. from_heading (ltb-true _ _ u) h t e) (λ u. never_got (no_mode f (omega (arith, ltb-false 0 (length f) u))) e)

  at_told : (x : Parsed Head) → heading f 0 ≡ x → (n o p : ℕ) → At n o p ≡ headed x → HeadAt f n o p
  unfolding headed
  at_told (got h t) i n o p e =
      let a : n ≡ head_refusal h = cc in
      let b : o ≡ 2 + length h.user = cc in
      let c : p ≡ t = cc in
      rw (a, b, c) (heading_at h t i)
  at_told unread i n o p e = let z : ◌≡◌ {A = ℕ} 0 1 = cc in absurd (omega arith)

  missed : (x : Parsed Head) → heading f 0 ≡ x → Unread ≡ headed x → heading f 0 ≡ unread
  unfolding headed
  missed (got h t) i e = let z : ◌≡◌ {A = ℕ} 0 1 = cc in absurd (omega arith)
  missed unread i e = i

  module _ (r : RustOption Heading) (e : told r ≡ headed (heading f 0)) where
    pub head_told : (h : Heading) → r ≡ Some h → HeadAt f (code h.refusal) h.origin h.path
    head_told h g = at_told (heading f 0) refl _ _ _ (sym (ap told g) ∙ e)

    pub head_missed : r ≡ None → heading f 0 ≡ unread
    head_missed g = missed (heading f 0) refl (sym (ap told g) ∙ e)

pub head_mode : (f : List ℕ) (h : Head) (t : ℕ) → heading f 0 ≡ got h t → h.mode ≡ get_or f 0 0
head_mode f h t e = ap (λ (x : Head). x.mode) (same_got f _ h (head_in f (2 + length h.user) t) t t e (heading_at f h t e).reads).0

-- ---- the whole request

-- the request of a heading and a path
abbrev pub with_path : Head → Path → Request
with_path h p = asked h.user h.mode h.origin p

-- what follows a heading
abbrev rest : List ℕ → Head → ℕ → Parsed Request
rest f h t = and_then (path f t) (λ p e. got (with_path h p) e)

-- the number of the heading is that of the request, unless it is none
clear_passes : (a b : Bool) (x : ℕ) → (20 when a else 21 when b else clear) ≡ clear → (20 when a else 21 when b else x) ≡ x
unfolding whether◌then◌else◌
clear_passes true b x e = absurd (omega arith)
clear_passes false true x e = absurd (omega arith)
clear_passes false false x e = refl

not_clear : (a b : Bool) (x : ℕ) → ((20 when a else 21 when b else clear) ≡ clear → ⊥) → (20 when a else 21 when b else x) ≡ clear → ⊥
unfolding whether◌then◌else◌
not_clear true b x n e = n e
not_clear false true x n e = n e
not_clear false false x n e = n refl

path_number : (b : Bool) → eqb (22 when not b else clear) clear ≡ b
unfolding whether◌then◌else◌
path_number true = refl
path_number false = refl

still_bad : (h : Head) (p : Path) → (head_refusal h ≡ clear → ⊥) → framed_refusal (with_path h p) ≡ clear → ⊥
unfolding head_refusal framed_refusal
still_bad h p n e = not_clear _ _ _ n e

by_path : (h : Head) (p : Path) → head_refusal h ≡ clear → eqb (framed_refusal (with_path h p)) clear ≡ good_path p
unfolding head_refusal framed_refusal
by_path h p c = ap (λ (n : ℕ). eqb n clear) (clear_passes _ _ _ c) ∙ path_number (good_path p)

module _ (h : Head) (f : List ℕ) (p : Path) (d : ℕ) (c : head_refusal h ≡ clear) where
  not_good : is_path_in f (got p d) ≡ false → unrefused (whole f (got (with_path h p) d)) ≡ none
  unfolding is_path_in whole unrefused whether◌then◌else◌
  not_good n = by (eqb d (length f)) (λ u. rw (u, by_path h p c, and_false _ _ u n)) (λ u. rw u)

  is_good : is_path_in f (got p d) ≡ true → unrefused (whole f (got (with_path h p) d)) ≡ some (with_path h p)
  unfolding is_path_in whole unrefused whether◌then◌else◌
  is_good y = rw (and_l _ _ y, by_path h p c, and_r _ _ y)

pub no_path_there : {X : Type 0} (f : List ℕ) → is_path_in f unread ≡ true → X
unfolding is_path_in
no_path_there f y = clash y refl

module _ (f : List ℕ) where
  after_origin : (m : ℕ) (u : Str) (x : Parsed Str) → and_then x (λ o t. and_then (path f t) (λ p e. got (asked u m o p) e))
      ≡ and_then (and_then x (λ o t. got (record { mode = m; user = u; origin = o }) t)) (rest f)
  after_origin m u (got o t) = refl
  after_origin m u unread = refl

  after_user : (m : ℕ) (x : Parsed Str) → and_then x (λ u t. and_then (string f t) (λ o e. and_then (path f e) (λ p d. got (asked u m o p) d)))
      ≡ and_then (and_then x (λ u t. and_then (string f t) (λ o e. got (record { mode = m; user = u; origin = o }) e))) (rest f)
  after_user m (got u t) = after_origin m u (string f t)
  after_user m unread = refl

  after_mode : (x : Parsed ℕ) → and_then x (λ m t. and_then (string f t) (λ u e. and_then (string f e) (λ o d. and_then (path f d) (λ p c. got (asked u m o p) c))))
      ≡ and_then (and_then x (λ m t. and_then (string f t) (λ u e. and_then (string f e) (λ o d. got (record { mode = m; user = u; origin = o }) d)))) (rest f)
  after_mode (got m t) = after_user m (string f t)
  after_mode unread = refl

  body_is : request_body f 0 ≡ and_then (heading f 0) (rest f)
  unfolding request_body heading ◌>>=◌ ret
  body_is = after_mode (byte f 0)

  pub no_heading : heading f 0 ≡ unread → good_request f ≡ none
  unfolding good_request framed_request whole unrefused
  no_heading e = rw (body_is, e)

  module _ (h : Head) (t : ℕ) (e : heading f 0 ≡ got h t) where
    -- by what the path reads as
    parts : (x : Parsed Path) → path f t ≡ x → good_request f ≡ unrefused (whole f (and_then x (λ p d. got (with_path h p) d)))
    unfolding good_request framed_request
    parts x i = rw (body_is, e, i)

    pub bad_heading : (head_refusal h ≡ clear → ⊥) → good_request f ≡ none
    unfolding whole unrefused whether◌then◌else◌
    bad_heading n = go (path f t) refl
      where
        go : (x : Parsed Path) → path f t ≡ x → good_request f ≡ none
        go unread i = parts unread i
        go (got p d) i = parts (got p d) i ∙ by (eqb d (length f)) (λ u. rw (u, ne_eqb _ _ (still_bad h p n))) (λ u. rw u)

    module _ (c : head_refusal h ≡ clear) where
      pub bad_path : is_path_in f (path f t) ≡ false → good_request f ≡ none
      unfolding whole unrefused
      bad_path n = go (path f t) refl
        where
          go : (x : Parsed Path) → path f t ≡ x → good_request f ≡ none
          go unread i = parts unread i
          go (got p d) i = parts (got p d) i ∙ not_good h f p d c (rw i at n)

      pub good_path_lem : is_path_in f (path f t) ≡ true → good_request f ≡ some (with_path h (path_in f t))
      good_path_lem y = go (path f t) refl
        where
          go : (x : Parsed Path) → path f t ≡ x → good_request f ≡ some (with_path h (path_in f t))
          go unread i = no_path_there f (rw i at y)
          go (got p d) i = parts (got p d) i ∙ is_good h f p d c (rw i at y) ∙ ap (λ (q : Path). some (with_path h q)) (path_read f t p d i).1

-- ---- a good request has a good heading and a good path

pub record Good (f : List ℕ) (q : Request) : Type 0 where
  pub head : Head
  pub end : ℕ
  pub reads : heading f 0 ≡ got head end
  pub clear_head : head_refusal head ≡ clear
  pub path_there : is_path_in f (path f end) ≡ true
  pub is : q ≡ with_path head (path_in f end)

some_is : {x : Option Request} {p q : Request} → x ≡ some p → x ≡ some q → p ≡ q
some_is a b = cc

none_some : {X : Type 0} {x : Option Request} {q : Request} → x ≡ none → x ≡ some q → X
none_some a b = let z : ◌≡◌ {A = ℕ} 0 1 = cc in absurd (omega arith)

pub good_parts : (f : List ℕ) (q : Request) → good_request f ≡ some q → Good f q
good_parts f q e = go (heading f 0) refl
  where
    go : (x : Parsed Head) → heading f 0 ≡ x → Good f q
    go unread i = none_some (no_heading f i) e
    go (got h t) i =
        by (eqb (head_refusal h) clear)
        (λ c. let c' : head_refusal h ≡ clear = eqb-true _ _ c in
        by (is_path_in f (path f t))
        (λ y. record { head = h; end = t; reads = i; clear_head = c'; path_there = y; is = some_is e (good_path_lem f h t i c' y) })
        (λ y. none_some (bad_path f h t i c' y) e))
        (λ c. none_some (bad_heading f h t i (eqb-false _ _ c)) e)
