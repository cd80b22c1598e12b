-- Filling a buffer piece by piece: what is still to be stored.
use Rattle.std.proofs.Common.{◌≡◌, ℕ, suc, ◌+◌, ◌<◌, ◌≤◌, List, [], ◌∷◌, ◌++◌, length, get_or, take, drop, set, sym, refl, ap, ◌∙◌, append_assoc, add-one, arith, length-append, length-drop, take-append-drop, drop_of_length-le, length-take-le, drop-cons, drop-drop, take-suc-set, take_at, drop_at}
use lib.Seq.{set_split, take-set-lt, set-append_left}
use Rattle.text.specs.Fill.{put}
use Rattle.text.specs.Steps.{Wrote}

put_open : (d : List ℕ) (at : ℕ) (s : List ℕ) → put d at s ≡ take at d ++ (s ++ drop (at + length s) d)
unfolding put
put_open d at s = refl

module _ (d : List ℕ) (at : ℕ) (s : List ℕ) (h : at + length s ≤ length d) where
  pub put_length : length (put d at s) ≡ length d
  unfolding put
  put_length =
      let a : length (take at d) ≡ at = length-take-le at d (omega arith) in
      simp (length-append, length-drop, a) (omega arith)

  -- the front of what was put
  pub put_take : take (at + length s) (put d at s) ≡ take at d ++ s
  unfolding put
  put_take =
      let a : length (take at d) ≡ at = length-take-le at d (omega arith) in
      rw (← append_assoc) (take_at (take at d ++ s) _ _ (length-append (take at d) s ∙ ap (λ (n : ℕ). n + length s) a))

  put_drop : (t : List ℕ) → drop (at + length s + length t) (put d at s) ≡ drop (at + length s + length t) d
  unfolding put
  put_drop t =
      let a : length (take at d) ≡ at = length-take-le at d (omega arith) in
      let l : length (take at d ++ s) ≡ at + length s = length-append (take at d) s ∙ ap (λ (n : ℕ). n + length s) a in
      rw (← append_assoc (take at d) s _, ← drop-drop (length t) (at + length s) (take at d ++ s ++ drop (at + length s) d), drop_at (take at d ++ s) _ (at + length s) l) (drop-drop (length t) (at + length s) d)

  -- one piece after another
  pub put_append : (t : List ℕ) → put (put d at s) (at + length s) t ≡ put d at (s ++ t)
  put_append t =
      let q : at + length (s ++ t) ≡ at + length s + length t = omega (arith, length-append s t) in
      let a : put (put d at s) (at + length s) t ≡ (take at d ++ s) ++ (t ++ drop (at + length s + length t) d) = rw (put_open (put d at s) (at + length s) t, put_take, put_drop t) in
      let b : put d at (s ++ t) ≡ (take at d ++ s) ++ (t ++ drop (at + length s + length t) d) = rw (put_open d at (s ++ t), q) (simp append_assoc) in
      a ∙ sym b

pub put_nil : (d : List ℕ) (at : ℕ) → put d at [] ≡ d
unfolding put
put_nil d at = let e : at + 0 ≡ at = omega arith in rw e (take-append-drop at d)

pub set_put : (d : List ℕ) (at b : ℕ) → at < length d → set d at b ≡ put d at (b ∷ [])
unfolding put
set_put d at b h = rw add-one (set_split d at b h)

-- w is being stored into d from `to` on: so far `out` has come of it, and r is pending, to be stored at `at`
pub record Pending (d : List ℕ) (to : ℕ) (w out : List ℕ) (at : ℕ) (r : List ℕ) : Type 0 where
  pub same : put out at r ≡ put d to w
  pub room : at + length r ≡ to + length w
  pub long : length out ≡ length d
  pub fits : to + length w ≤ length d

pub fill_start : (d : List ℕ) (to : ℕ) (w : List ℕ) → to + length w ≤ length d → Pending d to w d to w
fill_start d to w h = record { same = refl; room = refl; long = refl; fits = h }

module _ (d : List ℕ) (to : ℕ) (w out : List ℕ) (at : ℕ) where
  -- there is room for what comes next
  pub fill_room : (s r : List ℕ) → Pending d to w out at (s ++ r) → at + length s ≤ length out
  fill_room s r g = omega (arith, g.room, g.long, g.fits, length-append s r)

  -- a piece was put
  pub fill_put : (s r out' : List ℕ) (at' : ℕ) → Pending d to w out at (s ++ r) → at' ≡ at + length s → out' ≡ put out at s → Pending d to w out' at' r
  fill_put s r out' at' g i e =
      let h = fill_room s r g in
      rw (e, i)
      (record { same = put_append out at s h r ∙ g.same; room = omega (arith, g.room, length-append s r); long = put_length out at s h ∙ g.long; fits = g.fits })

  -- a byte was stored
  pub fill_set : (b : ℕ) (r : List ℕ) → Pending d to w out at (b ∷ r) → Pending d to w (set out at b) (at + 1) r
  fill_set b r g = fill_put (b ∷ []) r _ _ g refl (set_put out at b (omega (arith, fill_room (b ∷ []) r g)))

  pub fill_byte : (b : ℕ) (r : List ℕ) → Pending d to w out at (b ∷ r) → at < length out
  fill_byte b r g = omega (arith, fill_room (b ∷ []) r g)

  -- nothing is left
  pub fill_done : Pending d to w out at [] → (at ≡ to + length w) × (out ≡ put d to w)
  fill_done g = (omega (arith, g.room), sym (put_nil out at) ∙ g.same)

pub wrote : (d : List ℕ) (to : ℕ) (w out : List ℕ) (at : ℕ) → Pending d to w out at [] → Wrote d to w out at
wrote d to w out at g = let h = fill_done d to w out at g in record { ends = h.0; same = h.1 }

-- ---- copy

pub copy_start : (d : List ℕ) (at : ℕ) (s : List ℕ) → at + length s ≤ length d → Pending d at s d (at + 0) s
copy_start d at s h = let e : at + 0 ≡ at = omega arith in rw e (fill_start d at s h)

module _ (d : List ℕ) (at : ℕ) (s out : List ℕ) (i : ℕ) (g : Pending d at s out (at + i) (drop i s)) where
  copy_here : i < length s → Pending d at s out (at + i) (get_or s i 0 ∷ drop (i + 1) s)
  copy_here h = let e : drop i s ≡ get_or s i 0 ∷ drop (i + 1) s = rw add-one (drop-cons s i 0 h) in rw e at g

  pub copy_room : i < length s → at + i < length out
  copy_room h = fill_byte d at s out (at + i) _ _ (copy_here h)

  pub copy_turn : i < length s → Pending d at s (set out (at + i) (get_or s i 0)) (at + (i + 1)) (drop (i + 1) s)
  copy_turn h =
      let e : at + (i + 1) ≡ at + i + 1 = omega arith in
      rw e (fill_set d at s out (at + i) _ _ (copy_here h))

  pub copy_done : length s ≤ i → out ≡ put d at s
  copy_done h = (fill_done d at s out (at + i) (rw (drop_of_length-le s h) at g)).1

-- ---- one thing after another

module _ (d : List ℕ) (to : ℕ) (s d' : List ℕ) (e : ℕ) (w : Wrote d to s d' e) (h : to + length s ≤ length d) where
  pub wrote_long : length d' ≡ length d
  wrote_long = ap length w.same ∙ put_length d to s h

  pub wrote_more : (t d'' : List ℕ) (e' : ℕ) → Wrote d' e t d'' e' → Wrote d to (s ++ t) d'' e'
  wrote_more t d'' e' v = record {
    ends = omega (arith, v.ends, w.ends, length-append s t);
    same = v.same ∙ rw (w.same, w.ends) (put_append d to s h t);
  }

pub wrote_nothing : (d : List ℕ) (to : ℕ) → Wrote d to [] d to
wrote_nothing d to = record { ends = omega arith; same = sym (put_nil d to) }

-- a byte in front of what was stored, and stored after it
pub wrote_before : (d : List ℕ) (to b : ℕ) (s d' : List ℕ) (e : ℕ) → to + 1 + length s ≤ length d → Wrote d (to + 1) s d' e → Wrote d to (b ∷ s) (set d' to b) e
wrote_before d to b s d' e h w = record { ends = omega (arith, w.ends); same = rw w.same front }
  where
    head : set (take (suc to) d) to b ≡ take to d ++ (b ∷ [])
    head = sym (take-set-lt (suc to) d to b (omega arith)) ∙ take-suc-set d to b (omega arith)

    front : set (put d (to + 1) s) to b ≡ put d to (b ∷ s)
    front =
        let l : to + length (b ∷ s) ≡ to + 1 + length s = omega arith in
        let m : to < length (take (suc to) d) = let k = length-take-le (suc to) d (omega arith) in omega arith in
        rw (put_open d (to + 1) s, put_open d to (b ∷ s), l, add-one to)
        (set-append_left (take (suc to) d) _ to b m ∙ rw head (append_assoc (take to d) (b ∷ []) _))

pub wrote_byte : (d : List ℕ) (to b : ℕ) → to < length d → Wrote d to (b ∷ []) (set d to b) (to + 1)
wrote_byte d to b h = record { ends = refl; same = set_put d to b h }
