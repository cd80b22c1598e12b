-- Storing what is read, one thing after another.
use mathlib.Core.Path.{◌≡◌, refl, sym, ap, ◌∙◌}
use mathlib.Core.List.{List, [], ◌∷◌, ◌++◌, append_assoc, append-nil}
use Prim.Native.Nat.{ℕ, ◌+◌, ◌-◌, ◌≤◌, ◌<◌}
use native.Mathlib.Omega.{arith}
use lib.ListN.{length, take, drop, length-append}
use lib.Seq.{length-take-le, take_at, drop_at}
use Rattle.std.proofs.lemmas.Option.{same_Some, none-some}
use Rattle.text.specs.String.{Str, joined}
use Rattle.text.specs.Frame.{Parsed, got, unread, and_then, Reader, part, string_bytes}
use Rattle.text.specs.Fill.{put}
use Rattle.text.specs.Steps.{Wrote}
use Rattle.text.proofs.Codec.{joined_append, joined_one}
use Rattle.text.proofs.Filling.{wrote_long, wrote_more, wrote_nothing}
use Rattle.std.specs.Prelude.{Some, None}
use Rattle.path_read.specs.Steps.{MaybeStored, Within, Room, Stores, stores, nothing}
use Rattle.path_read.specs.declared.reader.Stored.{Stored}

-- ---- what an answer tells

module _ {A : Type 0} {most more : ℕ} {w : A → Str} {r : Reader A} {s : Str} {at : ℕ} {d : List ℕ} {to : ℕ} {d' : List ℕ} where
  pub stored_to : {q : MaybeStored} {v : Stored} → Stores most more w r s at d to d' q → q ≡ Some v → (a : A) × (r s at ≡ got a v.next) × Wrote d to (w a) d' v.end × Within most more s at v.next to v.end
  stored_to {v = v} (stores {a = a} {t = t} {end = e} i x b) h =
      let g : record { next = t; end = e } ≡ v = same_Some _ _ h in
      let j : t ≡ v.next = ap (λ (u : Stored). u.next) g in
      let k : e ≡ v.end = ap (λ (u : Stored). u.end) g in
      (a, i ∙ ap (got a) j, rw k at x, rw (j, k) at b)
  stored_to (nothing i) h = absurd (none-some _ h)

  pub stored_not : {q : MaybeStored} → Stores most more w r s at d to d' q → q ≡ None → r s at ≡ unread
  stored_not (stores i v b) h = absurd (none-some _ (sym h))
  stored_not (nothing i) h = i

-- ---- bounds, and room

-- one part after another, which starts at p₁
pub within_after : (m k m₁ k₁ m₂ k₂ : ℕ) (s : Str) (at p p₁ p' to q q' : ℕ) → Within m k s at p to q → Within m₁ k₁ s p₁ p' q q' → m + m₁ ≤ m₂ → p + k + k₁ ≤ p₁ + k₂
    → Within m₂ k₂ s at p' to q'
within_after m k m₁ k₁ m₂ k₂ s at p p₁ p' to q q' a b h i =
    record { few = omega (arith, a.few, b.few); near = omega (arith, a.near, b.near); inside = b.inside }

pub within_less : (m k m₁ k₁ : ℕ) (s : Str) (at p to q : ℕ) → Within m k s at p to q → m ≤ m₁ → k ≤ k₁ → Within m₁ k₁ s at p to q
within_less m k m₁ k₁ s at p to q a h i = record { few = omega (arith, a.few); near = omega (arith, a.near); inside = a.inside }

-- v was stored, and then, as w₂ writes it, what makes the rest of the thing
pub stores_after : {A B : Type 0} {w₂ : A → Str} {r₂ : Reader A} {w : B → Str} {r : Reader B} (make : A → B) (v : Str) (m₁ k₁ m₂ k₂ m k : ℕ) (s : Str) (at p p₁ : ℕ) (d : List ℕ) (to : ℕ)
    (d' : List ℕ) (end : ℕ) (d'' : List ℕ) (q : MaybeStored) → r s at ≡ and_then (r₂ s p₁) (λ a t. got (make a) t) → ((a : A) → w (make a) ≡ v ++ w₂ a) → Wrote d to v d' end
    → Within m₁ k₁ s at p to end → end ≤ length d → m₁ + m₂ ≤ m → p + k₁ + k₂ ≤ p₁ + k → Stores m₂ k₂ w₂ r₂ s p₁ d' end d'' q → Stores m k w r s at d to d'' q
stores_after {w₂ = w₂} {r₂} {w} {r} make v m₁ k₁ m₂ k₂ m k s at p p₁ d to d' end d'' q e f x b room h i y = go q y
  where
    go : (o : MaybeStored) → Stores m₂ k₂ w₂ r₂ s p₁ d' end d'' o → Stores m k w r s at d to d'' o
    go (Some o) z =
        let u = stored_to z refl in
        let t = o.next in
        let last = o.end in
        let read : r s at ≡ got (make u.0) t = e ∙ rw u.1 in
        let both : Wrote d to (v ++ w₂ u.0) d'' last = wrote_more d to v d' end x (omega (arith, x.ends)) (w₂ u.0) d'' last u.2 in
        let wrote : Wrote d to (w (make u.0)) d'' last = rw (f u.0) both in
        stores read wrote (within_after m₁ k₁ m₂ k₂ m k s at p p₁ t to end last b u.3 h i)
    go None z = nothing (let g = stored_not z refl in e ∙ rw g)

module _ (m k : ℕ) (s : Str) (at : ℕ) (d : List ℕ) (to : ℕ) (r : Room m k s at d to) where
  pub room_start : to ≤ length d
  room_start = omega (arith, r.fits 0 (omega arith) (omega (arith, r.starts)))

  pub room_byte : 0 < m → 0 < k → to < length d
  room_byte h i = omega (arith, r.fits 1 (omega arith) (omega (arith, r.starts)))

  pub room_less : (m₁ k₁ : ℕ) → m₁ ≤ m → k₁ ≤ k → Room m₁ k₁ s at d to
  room_less m₁ k₁ h i = record { starts = r.starts; fits = λ n f g. r.fits n (omega arith) (omega arith) }

  -- a part was stored, up to q
  module _ (m₁ k₁ p q : ℕ) (b : Within m₁ k₁ s at p to q) (l : to ≤ q) where
    pub room_end : m₁ ≤ m → k₁ ≤ k → q ≤ length d
    room_end h i = omega (arith, r.fits (q - to) (omega (arith, b.few)) (omega (arith, b.near, b.inside)))

    -- the room for the next part, which is read from p₁ on
    pub room_after : (m₂ k₂ p₁ : ℕ) (d' : List ℕ) → length d' ≡ length d → m₁ + m₂ ≤ m → p + k₁ + k₂ ≤ p₁ + k → p₁ ≤ length s → Room m₂ k₂ s p₁ d' q
    room_after m₂ k₂ p₁ d' e i j z = record {
      starts = z;
      fits = λ n f g. omega (arith, r.fits (q - to + n) (omega (arith, b.few)) (omega (arith, b.near)));
    }

    pub room_then : (m₂ k₂ p₁ : ℕ) (v d' : List ℕ) → Wrote d to v d' q → m₁ ≤ m → k₁ ≤ k → m₁ + m₂ ≤ m → p + k₁ + k₂ ≤ p₁ + k → p₁ ≤ length s → Room m₂ k₂ s p₁ d' q
    room_then m₂ k₂ p₁ v d' w h i = room_after m₂ k₂ p₁ d' (wrote_long d to v d' q w (omega (arith, w.ends, room_end h i)))

-- ---- what was stored, as it stands there

pub stored_rest : (d : List ℕ) (to : ℕ) (x y d' : List ℕ) (end : ℕ) → Wrote d to (x ++ y) d' end → to + length (x ++ y) ≤ length d → part d' (to + length x) end ≡ y
unfolding put
stored_rest d to x y d' end w h =
    let l = length-append x y in
    let a : length (take to d) ≡ to = length-take-le to d (omega arith) in
    let b : length (take to d ++ x) ≡ to + length x = length-append (take to d) x ∙ ap (λ (n : ℕ). n + length x) a in
    let c : d' ≡ (take to d ++ x) ++ (y ++ drop (to + length (x ++ y)) d) = w.same ∙ simp append_assoc in
    rw (c, drop_at (take to d ++ x) (y ++ drop (to + length (x ++ y)) d) (to + length x) b) (take_at y (drop (to + length (x ++ y)) d) (end - (to + length x)) (omega (arith, w.ends)))

-- a string after its length byte
pub stored_string : (d : List ℕ) (to : ℕ) (v d' : List ℕ) (end : ℕ) → Wrote d to (string_bytes v) d' end → end ≤ length d → part d' (to + 1) end ≡ v
unfolding string_bytes
stored_string d to v d' end w h = stored_rest d to (length v ∷ []) v d' end w (omega (arith, w.ends))

pub string_longer : (d : List ℕ) (to : ℕ) (v d' : List ℕ) (end : ℕ) → Wrote d to (string_bytes v) d' end → to + 1 ≤ end
unfolding string_bytes
string_longer d to v d' end w = omega (arith, w.ends)

-- ---- a list of things

abbrev after : {A : Type 0} → List A → Parsed (List A) → Parsed (List A)
after xs (got ys t) = got (xs ++ ys) t
after xs unread = unread

after_none : {A : Type 0} (y : Parsed (List A)) → after [] y ≡ y
after_none (got ys t) = refl
after_none unread = refl

after_cons : {A : Type 0} (xs : List A) (a : A) (y : Parsed (List A)) → after xs (and_then y (λ l t. got (a ∷ l) t)) ≡ after (xs ++ a ∷ []) y
after_cons {A = A} xs a (got ys t) = ap (λ (l : List A). got l t) (sym (append_assoc xs (a ∷ []) ys))
after_cons xs a unread = refl

-- of x, n things were stored into d from `to` on, up to q, which made it `out`; what is left to read is y
pub record Storing {A : Type 0} (w : A → Str) (d : List ℕ) (to : ℕ) (x : Parsed (List A)) (n : ℕ) (out : List ℕ) (q : ℕ) (y : Parsed (List A)) : Type 0 where
  pub so_far : List A
  pub count : length so_far ≡ n
  pub same : x ≡ after so_far y
  pub wrote : Wrote d to (joined w so_far) out q
  pub room : to + length (joined w so_far) ≤ length d

module _ {A : Type 0} (w : A → Str) (d : List ℕ) (to : ℕ) (x : Parsed (List A)) where
  pub storing_start : to ≤ length d → Storing w d to x 0 d to x
  unfolding joined
  storing_start h = record { so_far = []; count = refl; same = sym (after_none x); wrote = wrote_nothing d to; room = omega arith }

  module _ (n : ℕ) (out : List ℕ) (q : ℕ) (y : Parsed (List A)) (s : Storing w d to x n out q y) where
    pub storing_long : length out ≡ length d
    storing_long = wrote_long d to (joined w s.so_far) out q s.wrote s.room

    pub storing_from : to ≤ q
    storing_from = omega (arith, s.wrote.ends)

    pub storing_none : y ≡ unread → x ≡ unread
    storing_none e = s.same ∙ ap (after s.so_far) e

    pub storing_done : (t : ℕ) → y ≡ got [] t → x ≡ got s.so_far t
    storing_done t e = s.same ∙ ap (after s.so_far) e ∙ ap (λ (l : List A). got l t) (append-nil s.so_far)

    pub storing_turn : (a : A) (z : Parsed (List A)) (out' : List ℕ) (q' m : ℕ) → y ≡ and_then z (λ l t. got (a ∷ l) t) → Wrote out q (w a) out' q'
        → q + length (w a) ≤ length out → m ≡ n + 1 → Storing w d to x m out' q' z
    storing_turn a z out' q' m e v r i =
        let j : joined w (s.so_far ++ a ∷ []) ≡ joined w s.so_far ++ w a = joined_append w s.so_far (a ∷ []) ∙ ap (λ (t : Str). joined w s.so_far ++ t) (joined_one w a) in
        record {
          so_far = s.so_far ++ a ∷ [];
          count = length-append s.so_far (a ∷ []) ∙ (let k : length s.so_far + 1 ≡ m = omega (arith, s.count) in k);
          same = s.same ∙ ap (after s.so_far) e ∙ after_cons s.so_far a z;
          wrote = rw j (wrote_more d to (joined w s.so_far) out q s.wrote s.room (w a) out' q' v);
          room = rw j (let l = storing_long in omega (arith, length-append (joined w s.so_far) (w a), s.wrote.ends));
        }
