-- One step of each program that writes path text.
use mathlib.Core.Path.{◌≡◌, refl, sym, ap, ◌∙◌, subst}
use mathlib.Core.Bool.{true, false}
use mathlib.Core.List.{List, [], ◌∷◌, ◌++◌, append-nil}
use Prim.Native.Nat.{ℕ, ◌+◌, ◌-◌, ◌≤◌, ◌<◌}
use native.Mathlib.Numerals.{add-one}
use native.Mathlib.Omega.{arith}
use lib.ListN.{length, drop, get_or, set, drop_of_length-le}
use lib.Seq.{drop-cons}
use Rattle.text.specs.String.{Str, joined}
use Rattle.text.specs.Frame.{Parsed, got, unread, and_then, ◌>>=◌, ret, part, string, times}
use Rattle.text.specs.Fill.{put}
use Rattle.text.specs.Steps.{Wrote, end_of}
use Rattle.std.specs.Prelude.{Option, Some, None}
use Rattle.text.proofs.Tests.{clash}
use Rattle.text.proofs.Frames.{byte_got, byte_unread, string_ends, string_misses, times_turn, times_unread, times_done, times_length}
use Rattle.text.proofs.Filling.{Pending, fill_start, fill_room, fill_put, fill_set, wrote}
use Rattle.path.specs.Path.{Key, Elem, Path}
use Rattle.path.specs.Bytes.{key, element, path}
use Rattle.path_read.specs.Text.{is_mark, escaped, key_text, elem_text, path_text}
use Rattle.path_write.specs.Steps.{is_read, written, end_at, Fits, Writes}
use Rattle.path_write.specs.declared.Place.{Place}
use Rattle.path_read.proofs.Sound.{escaped_plain, escaped_mark}

-- ---- a byte of a value

module _ (d : List ℕ) (at b : ℕ) (h : at + length (escaped b) ≤ length d) where
  pub mark_room : is_mark b ≡ true → at + 2 ≤ length d
  mark_room m = omega (arith, ap length (escaped_mark b m))

  pub plain_room : is_mark b ≡ false → at + 1 ≤ length d
  plain_room m = omega (arith, ap length (escaped_plain b m))

  pub mark_wrote : is_mark b ≡ true → Wrote d at (escaped b) (set (set d at 92) (at + 1) b) (at + 2)
  mark_wrote m =
      let a : at + 2 ≡ at + 1 + 1 = omega arith in
      let g = fill_set d at _ d at 92 (b ∷ []) (fill_start d at (92 ∷ b ∷ []) (mark_room m)) in
      rw (escaped_mark b m, a) (wrote d at _ _ _ (fill_set d at _ _ _ b [] g))

  pub plain_wrote : is_mark b ≡ false → Wrote d at (escaped b) (set d at b) (at + 1)
  plain_wrote m = rw (escaped_plain b m) (wrote d at _ _ _ (fill_set d at _ d at b [] (fill_start d at (b ∷ []) (plain_room m))))

-- ---- a value

pub joined_here : (w : ℕ → Str) (v : Str) (i : ℕ) → i < length v → joined w (drop i v) ≡ w (get_or v i 0) ++ joined w (drop (i + 1) v)
unfolding joined
joined_here w v i h = rw (add-one, drop-cons v i 0 h)

pub joined_end : (w : ℕ → Str) (v : Str) (i : ℕ) → length v ≤ i → joined w (drop i v) ≡ []
unfolding joined
joined_end w v i h = rw (drop_of_length-le v h)

module _ (d : List ℕ) (to : ℕ) (w v out : List ℕ) (p i : ℕ) (g : Pending d to w out p (joined escaped (drop i v))) where
  value_here : i < length v → Pending d to w out p (escaped (get_or v i 0) ++ joined escaped (drop (i + 1) v))
  value_here h = rw (joined_here escaped v i h) at g

  pub value_room : i < length v → p + length (escaped (get_or v i 0)) ≤ length out
  value_room h = fill_room d to w out p (escaped (get_or v i 0)) (joined escaped (drop (i + 1) v)) (value_here h)

  pub value_turn : (out' : List ℕ) (r : ℕ) → i < length v → Wrote out p (escaped (get_or v i 0)) out' r → Pending d to w out' r (joined escaped (drop (i + 1) v))
  value_turn out' r h e = fill_put d to w out p (escaped (get_or v i 0)) (joined escaped (drop (i + 1) v)) out' r (value_here h) e.ends e.same

  pub value_done : length v ≤ i → Wrote d to w out p
  value_done h = wrote d to w out p (rw (joined_end escaped v i h) at g)

-- ---- a key

module _ (d : List ℕ) (at : ℕ) (n v : Str) (h : at + length (key_text (record { name = n; value = v })) ≤ length d) where
  abbrev pub text : Str
  text = key_text (record { name = n; value = v })

  abbrev pub tail : Str
  tail = 61 ∷ (joined escaped v ++ 93 ∷ [])

  pub key_start : Pending d at text d at (91 ∷ (n ++ tail))
  unfolding key_text
  key_start = fill_start d at _ h

  pub key_name : Pending d at text (set d at 91) (at + 1) (n ++ tail)
  key_name = fill_set d at text d at 91 (n ++ tail) key_start

  pub key_room : at + 1 + length n ≤ length (set d at 91)
  key_room = fill_room d at text _ (at + 1) n tail key_name

  module _ (o : List ℕ) (e : o ≡ put (set d at 91) (at + 1) n) where
    pub key_equals : Pending d at text o (at + 1 + length n) tail
    key_equals = fill_put d at text _ (at + 1) n tail o _ key_name refl e

    pub key_value : Pending d at text (set o (at + 1 + length n) 61) (at + 1 + length n + 1) (joined escaped v ++ 93 ∷ [])
    key_value = fill_set d at text o _ 61 _ key_equals

    pub value_fits : at + 1 + length n + 1 + length (joined escaped v) ≤ length (set o (at + 1 + length n) 61)
    value_fits = fill_room d at text _ _ (joined escaped v) (93 ∷ []) key_value

    module _ (q : List ℕ) (c : ℕ) (w : Wrote (set o (at + 1 + length n) 61) (at + 1 + length n + 1) (joined escaped v) q c) where
      pub key_close : Pending d at text q c (93 ∷ [])
      key_close = fill_put d at text _ _ (joined escaped v) (93 ∷ []) q c key_value w.ends w.same

      pub key_end_lem : Pending d at text (set q c 93) (c + 1) []
      key_end_lem = fill_set d at text q c 93 [] key_close

-- ---- lists of things

-- of `whole`, which goes into d from `to` on, what x holds is pending, to be stored into out from q on; x ends at stop
pub record Writing {A : Type 0} (write : A → Str) (d : List ℕ) (to : ℕ) (whole : Str) (stop : ℕ) (x : Parsed (List A)) (out : List ℕ) (q : ℕ) : Type 0 where
  pub reads : is_read x ≡ true
  pub stops : end_at x ≡ stop
  pub pending : Pending d to whole out q (written (joined write) x)

module _ {A : Type 0} (write : A → Str) where
  cons_read : (a : A) (x : Parsed (List A)) → is_read (and_then x (λ l t. got (a ∷ l) t)) ≡ true → is_read x ≡ true
  cons_read a (got l t) h = refl
  cons_read a unread h = h

  cons_text : (a : A) (x : Parsed (List A)) → is_read x ≡ true → written (joined write) (and_then x (λ l t. got (a ∷ l) t)) ≡ write a ++ written (joined write) x
  unfolding joined
  cons_text a (got l t) h = refl
  cons_text a unread h = clash h refl

  cons_end : (a : A) (x : Parsed (List A)) → end_at (and_then x (λ l t. got (a ∷ l) t)) ≡ end_at x
  cons_end a (got l t) = refl
  cons_end a unread = refl

  pub writing_start : (d : List ℕ) (to : ℕ) (x : Parsed (List A)) → Fits (joined write) x d to → Writing write d to (written (joined write) x) (end_at x) x d to
  writing_start d to x h = record { reads = h.reads; stops = refl; pending = fill_start d to _ h.room }

  module _ (d : List ℕ) (to : ℕ) (w : Str) (stop : ℕ) (x : Parsed (List A)) (out : List ℕ) (q : ℕ) (s : Writing write d to w stop x out q) where
    pub writing_never {ℓ} : {X : Type ℓ} → x ≡ unread → X
    writing_never e = clash s.reads (ap is_read e)

    pub writing_done : (p : ℕ) → x ≡ got [] p → (p ≡ stop) × Wrote d to w out q
    unfolding joined
    writing_done p e =
        let g = s.pending in
        (ap end_at (sym e) ∙ s.stops, wrote d to w out q (rw e at g))

    module _ (a : A) (y : Parsed (List A)) (e : x ≡ and_then y (λ l t. got (a ∷ l) t)) where
      rest_read : is_read y ≡ true
      rest_read = cons_read a y (ap is_read (sym e) ∙ s.reads)

      here : Pending d to w out q (write a ++ written (joined write) y)
      here =
          let t : written (joined write) x ≡ write a ++ written (joined write) y = ap (written (joined write)) e ∙ cons_text a y rest_read in
          let g = s.pending in
          rw t at g

      pub writing_room : q + length (write a) ≤ length out
      writing_room = fill_room d to w out q (write a) (written (joined write) y) here

      pub writing_turn : (out' : List ℕ) (q' : ℕ) → Wrote out q (write a) out' q' → Writing write d to w stop y out' q'
      writing_turn out' q' v = record {
        reads = rest_read;
        stops = sym (cons_end a y) ∙ ap end_at (sym e) ∙ s.stops;
        pending = fill_put d to w out q (write a) (written (joined write) y) out' q' here v.ends v.same;
      }

-- ---- an element

-- y is an element with this name, and what was read of its keys
pub record Element (name : Str) (keys : Parsed (List Key)) (y : Parsed Elem) : Type 0 where
  pub is : y ≡ and_then keys (λ ks t. got (record { name = name; keys = ks }) t)

-- r is the end of the name at `from`
module _ (f : List ℕ) (from : ℕ) (r : Option ℕ) (h : r ≡ end_of (string f from)) where
  pub element_is : (m : ℕ) → r ≡ Some m → m < length f → Element (part f (from + 1) m) (times (get_or f m 0) key f (m + 1)) (element f from)
  unfolding element ◌>>=◌ ret
  element_is m g l = record { is = rw ((string_ends f from r h m g).0, byte_got f m l) }

  module _ (i : is_read (element f from) ≡ true) where
    pub element_named {ℓ} : {X : Type ℓ} → r ≡ None → X
    unfolding element ◌>>=◌
    element_named g = clash i (rw (string_misses f from r h g))

    pub element_counted {ℓ} : {X : Type ℓ} (m : ℕ) → r ≡ Some m → length f ≤ m → X
    unfolding element ◌>>=◌
    element_counted m g l = clash i (rw ((string_ends f from r h m g).0, byte_unread f m l))

keys_read : (n : Str) (x : Parsed (List Key)) → is_read {A = Elem} (and_then x (λ ks t. got (record { name = n; keys = ks }) t)) ≡ true → is_read x ≡ true
keys_read n (got ks t) h = refl
keys_read n unread h = h

keys_text : (n : Str) (x : Parsed (List Key)) → is_read x ≡ true → written elem_text (and_then x (λ ks t. got (record { name = n; keys = ks }) t)) ≡ 47 ∷ (n ++ written (joined key_text) x)
unfolding elem_text
keys_text n (got ks t) h = refl
keys_text n unread h = clash h refl

keys_end_lem : (n : Str) (x : Parsed (List Key)) → end_at {A = Elem} (and_then x (λ ks t. got (record { name = n; keys = ks }) t)) ≡ end_at x
keys_end_lem n (got ks t) = refl
keys_end_lem n unread = refl

module _ {d : List ℕ} {to : ℕ} {n : Str} {x : Parsed (List Key)} {y : Parsed Elem} (e : Element n x y) (pre : Fits elem_text y d to) where
  abbrev pub keys' : Str
  keys' = written (joined key_text) x

  pub elem_read : is_read x ≡ true
  elem_read = keys_read n x (ap is_read (sym e.is) ∙ pre.reads)

  pub elem_ends : end_at x ≡ end_at y
  elem_ends = sym (keys_end_lem n x) ∙ ap end_at (sym e.is)

  pub elem_start : Pending d to (written elem_text y) d to (47 ∷ (n ++ keys'))
  elem_start =
      let t : written elem_text y ≡ 47 ∷ (n ++ keys') = ap (written elem_text) e.is ∙ keys_text n x elem_read in
      subst (λ (l : List ℕ). Pending d to (written elem_text y) d to l) t (fill_start d to _ pre.room)

  elem_name : Pending d to (written elem_text y) (set d to 47) (to + 1) (n ++ keys')
  elem_name = fill_set d to _ d to 47 (n ++ keys') elem_start

  pub elem_room : to + 1 + length n ≤ length (set d to 47)
  elem_room = fill_room d to _ _ (to + 1) n keys' elem_name

  module _ (o : List ℕ) (i : o ≡ put (set d to 47) (to + 1) n) where
    elem_keys : Pending d to (written elem_text y) o (to + 1 + length n) (keys' ++ [])
    elem_keys = rw append-nil (fill_put d to _ _ (to + 1) n keys' o _ elem_name refl i)

    pub keys_room : to + 1 + length n + length keys' ≤ length o
    keys_room = fill_room d to _ o _ keys' [] elem_keys

    pub elem_wrote : (q : List ℕ) (c : ℕ) → Wrote o (to + 1 + length n) keys' q c → Pending d to (written elem_text y) q c []
    elem_wrote q c w = fill_put d to _ o _ keys' [] q c elem_keys w.ends w.same

-- ---- elements

first : (x : Parsed Elem) → is_read x ≡ true → (a : Elem) × (x ≡ got a (end_at x)) × (written elem_text x ≡ elem_text a)
first (got a t) h = (a, refl, refl)
first unread h = clash h refl

module _ (d : List ℕ) (to : ℕ) (w : Str) (stop : ℕ) (f : List ℕ) (p : ℕ) (out : List ℕ) (q left : ℕ) (s : Writing elem_text d to w stop (times left element f p) out q) where
  module _ (z : 0 < left) where
    first_read : is_read (element f p) ≡ true
    first_read = go (element f p) refl
      where
        go : (x : Parsed Elem) → element f p ≡ x → is_read x ≡ true
        go (got a t) e = refl
        go unread e = writing_never elem_text d to w stop (times left element f p) out q s (times_unread element f p left z e)

    first_is : (a : Elem) × (element f p ≡ got a (end_at (element f p))) × (written elem_text (element f p) ≡ elem_text a)
    first_is = first (element f p) first_read

    turned : times left element f p ≡ and_then (times (left - 1) element f (end_at (element f p))) (λ es t. got (first_is.0 ∷ es) t)
    turned = times_turn element f p left first_is.0 (end_at (element f p)) z first_is.1

    pub elems_room : Fits elem_text (element f p) out q
    elems_room = record {
      reads = first_read;
      room = rw first_is.2 (writing_room elem_text d to w stop _ out q s first_is.0 (times (left - 1) element f (end_at (element f p))) turned);
    }

    pub elems_turn : (out' : List ℕ) (r : Place) → Writes elem_text (element f p) out q out' r → Writing elem_text d to w stop (times (left - 1) element f r.from) out' r.to
    elems_turn out' r v =
        let u = v.wrote in
        rw v.next (writing_turn elem_text d to w stop _ out q s first_is.0 (times (left - 1) element f (end_at (element f p))) turned out' r.to (rw first_is.2 at u))

  pub elems_done : left ≤ 0 → (p ≡ stop) × Wrote d to w out q
  elems_done z = writing_done elem_text d to w stop _ out q s p (times_done element f p left z)

-- ---- a path

path_words : (x : Parsed Path) → ((p : Path) (t : ℕ) → x ≡ got p t → (p ≡ [] → ⊥)) → written path_text x ≡ written (joined elem_text) x
unfolding path_text
path_words (got [] t) h = absurd (h [] t refl refl)
path_words (got (a ∷ p) t) h = refl
path_words unread h = refl

module _ (d f : List ℕ) (pre : Fits path_text (path f 0) d 0) where
  pub path_counted {ℓ} : {X : Type ℓ} → length f ≤ 0 → X
  unfolding path ◌>>=◌
  path_counted h = let p = pre.reads in clash p (rw (byte_unread f 0 h))

  module _ (h : 0 < length f) where
    path_is : path f 0 ≡ times (get_or f 0 0) element f 1
    unfolding path ◌>>=◌
    path_is = rw (byte_got f 0 h)

    path_root : get_or f 0 0 ≡ 0 → written path_text (path f 0) ≡ 47 ∷ []
    unfolding path_text
    path_root z = rw (path_is, z, times_done element f 1 0 (omega arith))

    pub root_room : get_or f 0 0 ≡ 0 → 0 < length d
    root_room z = let p = pre.room in omega (arith, p, ap length (path_root z))

    pub root_wrote : get_or f 0 0 ≡ 0 → Wrote d 0 (written path_text (path f 0)) (set d 0 47) 1
    root_wrote z = rw (path_root z) (wrote d 0 _ _ _ (fill_set d 0 _ d 0 47 [] (fill_start d 0 (47 ∷ []) (omega (arith, root_room z)))))

    module _ (z : get_or f 0 0 ≡ 0 → ⊥) where
      path_more : written path_text (path f 0) ≡ written (joined elem_text) (times (get_or f 0 0) element f 1)
      path_more =
          ap (written path_text) path_is
          ∙ path_words (times (get_or f 0 0) element f 1)
          (λ p t e n. z (sym (times_length element f (get_or f 0 0) 1 p t e) ∙ ap length n))

      pub more_room : Fits (joined elem_text) (times (get_or f 0 0) element f 1) d 0
      more_room = let p = pre.room in record { reads = ap is_read (sym path_is) ∙ pre.reads; room = omega (arith, p, ap length path_more) }

      pub more_wrote : (d' : List ℕ) (r : ℕ) → Wrote d 0 (written (joined elem_text) (times (get_or f 0 0) element f 1)) d' r → Wrote d 0 (written path_text (path f 0)) d' r
      more_wrote d' r w = rw path_more w
