-- One step of each walk over path bytes, and each way out of it.
use Rattle.std.proofs.Common.{◌∙◌, Option, ◌≡◌, ℕ, ◌+◌, ◌-◌, ◌≤◌, ◌<◌, min, Some, None, Bool, true, false, ◌||◌, List, [], ◌∷◌, length, get_or, ltb, eqb, refl, sym, ap, arith}
use native.Mathlib.Nat.{min-eq_left, min-eq_right}
use Rattle.limits.specs.Limits.{max_elements, max_keys}
use Rattle.text.specs.Test.{◌and◌, ◌or◌, any, twice}
use Rattle.text.specs.String.{Str, same}
use Rattle.text.specs.Frame.{Parsed, got, unread, and_then, ◌>>=◌, ret, string, part, times}
use Rattle.text.specs.Steps.{end_of}
use Rattle.text.specs.Refusal.{clear}
use Rattle.text.proofs.Tests.{or_none_lem}
use Rattle.refusal.proofs.Numbers.{code_high}
use Rattle.text.proofs.Frames.{ends_after, byte_got, byte_unread, string_at, string_unfit, times_turn, times_unread, times_done, times_length}
use Rattle.path_frame.proofs.Keys as read
use Rattle.path.specs.Path.{Key, Elem, Path}
use Rattle.path.specs.Bytes.{key, element, path}
use Rattle.path.specs.Walk.{key_refusal, keys_refusal, elem_name_refusal, elem_refusal, elems_refusal, has_name, twice_in, is_path_in, least_refusal, path_refusal}
use Rattle.path_frame.specs.Walked.{walked}
use Rattle.path.proofs.Refusals.{min_assoc, keys_high, keys_none, keys_refusal_lem, elem_refusal_lem, elems_high, elems_none, elems_refusal_lem, path_refusal_lem, path_clear}

-- ---- keys, of programs that read their strings: r and s are the ends of the strings at p and after it

module _ (f : List ℕ) (p : ℕ) (r : Option ℕ) (e : r ≡ end_of (string f p)) where
  pub key_got : (m t : ℕ) (s : Option ℕ) → r ≡ Some m → s ≡ end_of (string f m) → s ≡ Some t → key f p ≡ got (record { name = part f (p + 1) m; value = part f (m + 1) t }) t
  key_got m t s g h i = read.key_got f p m (sym e ∙ g) t (sym h ∙ i)

  pub key_nameless : r ≡ None → key f p ≡ unread
  key_nameless g = read.key_nameless f p (sym e ∙ g)

  pub key_valueless : (m : ℕ) (s : Option ℕ) → r ≡ Some m → s ≡ end_of (string f m) → s ≡ None → key f p ≡ unread
  key_valueless m s g h i = read.key_valueless f p m (sym e ∙ g) (sym h ∙ i)

-- ---- one of the keys has the name

has_cons : (b : Bool) (n : Str) (k : Key) (y : Parsed (List Key)) → has_name b n (and_then y (λ ks t. got (k ∷ ks) t)) ≡ has_name (b || same n k.name) n y
unfolding has_name any ◌or◌
has_cons true n k (got ks t) = refl
has_cons false n k (got ks t) = refl
has_cons b n k unread = refl

module _ (f : List ℕ) (p left : ℕ) (b : Bool) (n : Str) where
  pub has_turn : (k : Key) (t : ℕ) → key f p ≡ got k t → 0 < left → has_name b n (times left key f p) ≡ has_name (b || same n k.name) n (times (left - 1) key f t)
  has_turn k t g z = rw (times_turn key f p left k t z g) (has_cons b n k (times (left - 1) key f t))

  pub has_stop : key f p ≡ unread → 0 < left → has_name b n (times left key f p) ≡ false
  unfolding has_name
  has_stop g z = rw (times_unread key f p left z g)

  pub has_done : left ≤ 0 → has_name b n (times left key f p) ≡ b
  unfolding has_name any
  has_done z = rw (times_done key f p left z) (or_none_lem b)

-- ---- two of the keys have the same name

twice_cons : (k : Key) (y : Parsed (List Key)) → twice_in (and_then y (λ ks t. got (k ∷ ks) t)) ≡ (has_name false k.name y or twice_in y)
unfolding twice_in has_name twice ◌or◌
twice_cons k (got ks t) = refl
twice_cons k unread = refl

module _ (f : List ℕ) (p left : ℕ) where
  pub twice_turn : (k : Key) (t : ℕ) → key f p ≡ got k t → 0 < left
      → twice_in (times left key f p) ≡ (has_name false k.name (times (left - 1) key f t) or twice_in (times (left - 1) key f t))
  twice_turn k t g z = rw (times_turn key f p left k t z g) (twice_cons k (times (left - 1) key f t))

  pub twice_stop : key f p ≡ unread → 0 < left → twice_in (times left key f p) ≡ false
  unfolding twice_in
  twice_stop g z = rw (times_unread key f p left z g)

  -- one key, or none, is not twice
  pub twice_done : left ≤ 1 → twice_in (times left key f p) ≡ false
  unfolding twice_in twice any ◌or◌
  twice_done z = go (times left key f p) refl
    where
      go : (x : Parsed (List Key)) → times left key f p ≡ x → twice_in x ≡ false
      go (got [] t) e = refl
      go (got (k ∷ []) t) e = refl
      go (got (k ∷ l ∷ ks) t) e = let n = times_length key f left p _ t e in absurd (omega arith)
      go unread e = refl

-- ---- numbers on the way

-- the smaller of m and what g gives
abbrev pub lowered : {A : Type 0} → ℕ → (A → ℕ) → A → ℕ
lowered m g a = min m (g a)

walk_start : {A : Type 0} (g : A → ℕ) → ((a : A) → g a ≤ clear) → (x : Parsed A) → walked g x ≡ walked (lowered clear g) x
unfolding walked
walk_start g h (got a t) = ap (λ (n : ℕ). got n t) (sym (min-eq_right (h a)))
walk_start g h unread = refl

-- what a walk that went on, or did not, tells
pub walked_to : {A : Type 0} (g : A → ℕ) (x : Parsed A) (n t : ℕ) → got n t ≡ walked g x → (a : A) × (x ≡ got a t) × (n ≡ g a)
unfolding walked
walked_to g (got a q) n t e = let i : t ≡ q = cc in let j : n ≡ g a = cc in (a, ap (got a) (sym i), j)
walked_to g unread n t e = let x : ◌≡◌ {A = ℕ} 0 1 = cc in absurd (omega arith)

pub walked_not : {A : Type 0} (g : A → ℕ) (x : Parsed A) → unread ≡ walked g x → x ≡ unread
unfolding walked
walked_not g (got a q) e = let x : ◌≡◌ {A = ℕ} 0 1 = cc in absurd (omega arith)
walked_not g unread e = refl

-- a list's number is that of its first and of the others
walk_cons : {A : Type 0} (G : List A → ℕ) (h : A → List A → ℕ) → ((a : A) (l : List A) → G (a ∷ l) ≡ min (h a l) (G l)) → (m : ℕ) (a : A) (w : Parsed (List A) → ℕ)
    → ((l : List A) (t : ℕ) → w (got l t) ≡ h a l) → (y : Parsed (List A))
    → walked (lowered m G) (and_then y (λ l t. got (a ∷ l) t)) ≡ walked (lowered (min m (w y)) G) y
unfolding walked
walk_cons G h c m a w i (got l t) = ap (λ (n : ℕ). got n t) (rw (c a l, i l t) (sym (min_assoc m (h a l) (G l))))
walk_cons G h c m a w i unread = refl

-- ---- read_keys

pub keys_start : (x : Parsed (List Key)) → walked keys_refusal x ≡ walked (lowered clear keys_refusal) x
keys_start = walk_start keys_refusal keys_high

again_is : (n v : Str) (ks : List Key) (t : ℕ) → key_refusal n v (has_name false n (got ks t)) ≡ key_refusal n v (any (λ (k : Key). same n k.name) ks)
unfolding has_name ◌or◌
again_is n v ks t = refl

module _ (f : List ℕ) (p left m : ℕ) where
  pub keys_turn : (k : Key) (t : ℕ) → key f p ≡ got k t → 0 < left → walked (lowered m keys_refusal) (times left key f p)
      ≡ walked (lowered (min m (key_refusal k.name k.value (has_name false k.name (times (left - 1) key f t)))) keys_refusal) (times (left - 1) key f t)
  keys_turn k t g z =
      rw (times_turn key f p left k t z g)
      (walk_cons keys_refusal (λ k ks. key_refusal k.name k.value (any (λ (l : Key). same k.name l.name) ks)) keys_refusal_lem m k
      (λ y. key_refusal k.name k.value (has_name false k.name y))
      (again_is k.name k.value)
      (times (left - 1) key f t))

  pub keys_stop : key f p ≡ unread → 0 < left → walked (lowered m keys_refusal) (times left key f p) ≡ unread
  unfolding walked
  keys_stop g z = rw (times_unread key f p left z g)

  pub keys_done : m ≤ clear → left ≤ 0 → walked (lowered m keys_refusal) (times left key f p) ≡ got m p
  unfolding walked
  keys_done h z = rw (times_done key f p left z, keys_none) (ap (λ (n : ℕ). got n p) (min-eq_left h))

-- ---- read_element: where the name at `at` ends, and what the walk over the keys found

module _ (f : List ℕ) (at : ℕ) where
  pub element_nameless : end_of (string f at) ≡ None → walked elem_refusal (element f at) ≡ unread
  unfolding walked element ◌>>=◌
  element_nameless g = rw (string_unfit f at g)

  module _ (m : ℕ) (g : end_of (string f at) ≡ Some m) where
    pub element_countless : length f ≤ m → walked elem_refusal (element f at) ≡ unread
    unfolding walked element ◌>>=◌
    element_countless h = rw (string_at f at m g, byte_unread f m h)

    module _ (h : m < length f) where
      pub element_keyless : unread ≡ walked keys_refusal (times (get_or f m 0) key f (m + 1)) → walked elem_refusal (element f at) ≡ unread
      unfolding walked element ◌>>=◌
      element_keyless j = rw (string_at f at m g, byte_got f m h, walked_not keys_refusal (times (get_or f m 0) key f (m + 1)) j)

      judged : (n : ℕ) (ks : List Key) (t : ℕ) → times (get_or f m 0) key f (m + 1) ≡ got ks t → n ≡ keys_refusal ks
          → walked elem_refusal (element f at) ≡ got (min (min (elem_name_refusal (part f (at + 1) m)) (least_refusal (ltb max_keys (get_or f m 0)) false false false)) n) t
      unfolding walked element ◌>>=◌ ret
      judged n ks t k l =
          rw (string_at f at m g, byte_got f m h, k, l, ← times_length key f (get_or f m 0) (m + 1) ks t k)
          (ap (λ (x : ℕ). got x t) (elem_refusal_lem _))

      pub element_judged : (n t : ℕ) → got n t ≡ walked keys_refusal (times (get_or f m 0) key f (m + 1))
          → walked elem_refusal (element f at) ≡ got (min (min (elem_name_refusal (part f (at + 1) m)) (least_refusal (ltb max_keys (get_or f m 0)) false false false)) n) t
      element_judged n t j = let x = walked_to keys_refusal _ n t j in judged n x.0 t x.1 x.2

-- ---- read_elements

pub elems_start : (x : Parsed (List Elem)) → walked elems_refusal x ≡ walked (lowered clear elems_refusal) x
elems_start = walk_start elems_refusal elems_high

module _ (f : List ℕ) (p left m : ℕ) where
  elem_turn : (n t : ℕ) (a : Elem) → element f p ≡ got a t → n ≡ elem_refusal a → 0 < left
      → walked (lowered m elems_refusal) (times left element f p) ≡ walked (lowered (min m n) elems_refusal) (times (left - 1) element f t)
  elem_turn n t a g i z =
      rw (times_turn element f p left a t z g, i)
      (walk_cons elems_refusal (λ b l. elem_refusal b) elems_refusal_lem m a (λ y. elem_refusal a) (λ l u. refl) (times (left - 1) element f t))

  pub elems_turn : (n t : ℕ) → got n t ≡ walked elem_refusal (element f p) → 0 < left
      → walked (lowered m elems_refusal) (times left element f p) ≡ walked (lowered (min m n) elems_refusal) (times (left - 1) element f t)
  elems_turn n t g z = let x = walked_to elem_refusal _ n t g in elem_turn n t x.0 x.1 x.2 z

  pub elems_stop : unread ≡ walked elem_refusal (element f p) → 0 < left → walked (lowered m elems_refusal) (times left element f p) ≡ unread
  unfolding walked
  elems_stop g z = rw (times_unread element f p left z (walked_not elem_refusal _ g))

  pub elems_done : m ≤ clear → left ≤ 0 → walked (lowered m elems_refusal) (times left element f p) ≡ got m p
  unfolding walked
  elems_done h z = rw (times_done element f p left z, elems_none) (ap (λ (n : ℕ). got n p) (min-eq_left h))

-- ---- read_path, is_path

pub path_countless : (f : List ℕ) (at : ℕ) → length f ≤ at → walked path_refusal (path f at) ≡ unread
unfolding walked path ◌>>=◌
path_countless f at h = rw (byte_unread f at h)

module _ (f : List ℕ) (at : ℕ) (h : at < length f) where
  pub path_unread : unread ≡ walked elems_refusal (times (get_or f at 0) element f (at + 1)) → walked path_refusal (path f at) ≡ unread
  unfolding walked path ◌>>=◌
  path_unread g = rw (byte_got f at h, walked_not elems_refusal (times (get_or f at 0) element f (at + 1)) g)

  numbered : (n : ℕ) (es : List Elem) (t : ℕ) → times (get_or f at 0) element f (at + 1) ≡ got es t → n ≡ elems_refusal es
      → walked path_refusal (path f at) ≡ got (min (least_refusal (ltb max_elements (get_or f at 0)) false false false) n) t
  unfolding walked path ◌>>=◌
  numbered n es t k l =
      rw (byte_got f at h, k, l, ← times_length element f (get_or f at 0) (at + 1) es t k)
      (ap (λ (x : ℕ). got x t) (path_refusal_lem es))

  pub path_judged : (n t : ℕ) → got n t ≡ walked elems_refusal (times (get_or f at 0) element f (at + 1))
      → walked path_refusal (path f at) ≡ got (min (least_refusal (ltb max_elements (get_or f at 0)) false false false) n) t
  path_judged n t g = let x = walked_to elems_refusal _ n t g in numbered n x.0 t x.1 x.2

module _ (f : List ℕ) (at : ℕ) where
  pub no_path : unread ≡ walked path_refusal (path f at) → is_path_in f (path f at) ≡ false
  unfolding is_path_in
  no_path g = rw (walked_not path_refusal _ g)

  good_path_lem : (n t : ℕ) (p : Path) → path f at ≡ got p t → n ≡ path_refusal p → is_path_in f (path f at) ≡ (eqb t (length f) and eqb n clear)
  unfolding is_path_in
  good_path_lem n t p g i = rw (g, i, path_clear p)

  pub a_path : (n t : ℕ) → got n t ≡ walked path_refusal (path f at) → is_path_in f (path f at) ≡ (eqb t (length f) and eqb n clear)
  a_path n t g = let x = walked_to path_refusal _ n t g in good_path_lem n t x.0 x.1 x.2

-- ---- for the tactic attribute of each function

pub ruleset having = (has_turn, has_stop, has_done)

pub ruleset twices = (twice_turn, twice_stop, twice_done)

pub ruleset keys = (keys_start, keys_turn, keys_stop, keys_done, code_high)

pub ruleset of_element = (ends_after, element_nameless, element_countless, element_keyless, element_judged)

pub ruleset elements = (elems_start, elems_turn, elems_stop, elems_done, code_high)

pub ruleset of_path = (path_countless, path_unread, path_judged)
