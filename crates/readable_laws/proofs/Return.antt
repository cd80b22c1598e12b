-- Each part that is shown or packed comes back: strings, words, bytes that stand for themselves, the time, paths.
use mathlib.Core.Path.{◌≡◌, refl, sym, ap, ◌∙◌}
use mathlib.Core.Bool.{true, false}
use mathlib.Core.List.{[], ◌∷◌, ◌++◌, append_assoc, append-nil}
use mathlib.Core.Option.{Option, none, some}
use Prim.Native.Nat.{ℕ, zero, suc, ◌+◌, ◌-◌, ◌≤◌, ◌<◌}
use native.Mathlib.Omega.{arith}
use borrow.Author.Tests.{eq-eqb, ne_eqb, eqb-true, lt-ltb, ltb-true, le-leb, leb-true}
use lib.Dec.{eqb, leb, ltb}
use lib.ListN.{length, take, drop, get_or, length-append, length-drop, take-append-drop}
use lib.Seq.{take_at, drop_at, drop-drop, drop-length}
use Rattle.limits.specs.Limits.{max_string}
use Rattle.text.specs.Test.{◌and◌, whether◌then◌else◌}
use Rattle.text.specs.String.{Str, same, joined}
use Rattle.text.specs.Frame.{got, unread, ◌>>=◌, ret, byte, part, string, string_bytes}
use Rattle.text.proofs.Tests.{by, and_l, and_r, same→≡, ≡→same}
use Rattle.text.proofs.Codec.{never_got, then_got, got_move, Took, took_both, took_none, byte_took, string_took, Gives, then_gives, first_byte, byte_gives, string_gives}
use Rattle.path_read.specs.Text.{escaped}
use Rattle.path_read.specs.TextReader.{literal, item, value, read_text}
use Rattle.path.specs.Bytes.{path}
use Rattle.path.specs.Spells.{read_bytes, whole}
use Rattle.path_read.specs.Calls.{bytes_for, text_for}
use Rattle.path_read.proofs.Sound.{literal_took, value_took, one_took}
use Rattle.path_read.proofs.Complete.{literal_gives, value_gives}
use Rattle.path_read.proofs.RoundTrip.{read_write, write_read}
use Rattle.table.specs.Frame.{unknown}
use Rattle.readable_parts.specs.Parts.{rest, of_rest, quoted, shown_string, shown_path, shown_code, shown_plain, packed_string, packed_path, stands_at, packed_code, packed_plain}
use Rattle.readable_laws.proofs.Inverse.{Back, BackLast}

-- ---- strings

value_few : (n : ℕ) (s : Str) (at : ℕ) (v : Str) (t : ℕ) → value n s at ≡ got v t → length v ≤ n
unfolding value whether◌then◌else◌ ◌>>=◌ ret
value_few zero s at v t e =
    by (eqb (get_or s at 0) 93)
    (λ u. got_move (λ x q. length x ≤ 0) (rw u at e) (omega arith))
    (λ u. never_got refl (rw u at e))
value_few (suc n) s at v t e =
    by (eqb (get_or s at 0) 93)
    (λ u. got_move (λ x q. length x ≤ suc n) (rw u at e) (omega arith))
    (λ u. let e' = rw u at e in
    let a = then_got (item s at) _ e' in
    let b = then_got (value n s a.1) _ a.3 in
    got_move (λ x q. length x ≤ suc n) b.3 (let h = value_few n s a.1 b.0 b.1 b.2 in omega arith))

shown_gives : (v : Str) → length v ≤ max_string → (f : Str) (k : ℕ) (more : Str) → drop k f ≡ string_bytes v ++ more → Gives (shown_string f k) f (quoted v) more
unfolding shown_string ◌>>=◌ ret whether◌then◌else◌
shown_gives v h f k more i = then_gives (string f k) _ f v _ more more (string_gives f k v more i) (λ p j. (p, rw (le-leb (length v) max_string h), j))

packed_gives : (v : Str) → length v ≤ max_string → (s : Str) (k : ℕ) (more : Str) → drop k s ≡ quoted v ++ more → Gives (packed_string s k) s (string_bytes v) more
unfolding packed_string ◌>>=◌ ret quoted
packed_gives v h s k more i =
    let j : drop k s ≡ 91 ∷ (joined escaped v ++ 93 ∷ more) = i ∙ ap (λ (z : Str). 91 ∷ z) (append_assoc (joined escaped v) (93 ∷ []) more) in
    then_gives (literal 91 s k) _ s 91 _ (joined escaped v ++ 93 ∷ more) more (literal_gives s k 91 _ j)
    (λ p l. then_gives (value max_string s p) _ s v _ more more (value_gives v max_string s p more h l) (λ t m. (t, refl, m)))

shown_took : (v : Str) (s : Str) (at p t : ℕ) (b : ℕ) → literal 91 s at ≡ got b p → value max_string s p ≡ got v t → Took s at (quoted v) t
unfolding quoted
shown_took v s at p t b e i = took_both s at p t (91 ∷ []) (joined escaped v ++ 93 ∷ []) (literal_took s at 91 b p (omega arith) e) (value_took max_string s p v t i)

module _ (P : Str → Type 0) where
  pub string_packed : Back P packed_string shown_string
  unfolding packed_string ◌>>=◌ ret
  string_packed s at b t x l e =
      let a = then_got (literal 91 s at) _ e in
      let c = then_got (value max_string s a.1) _ a.3 in
      got_move (λ d u. (w : Str) × Took s at w u × ((f : Str) (k : ℕ) (more : Str) → drop k f ≡ d ++ more → Gives (shown_string f k) f w more)) c.3
      (quoted c.0, shown_took c.0 s at a.1 c.1 a.0 a.2 c.2, shown_gives c.0 (value_few max_string s a.1 c.0 c.1 c.2))

  pub string_shown : Back P shown_string packed_string
  unfolding shown_string ◌>>=◌ ret whether◌then◌else◌ unknown
  string_shown f at w t x l e =
      let a = then_got (string f at) _ e in
      by (leb (length a.0) max_string)
      (λ u. got_move (λ d z. (b : Str) × Took f at b z × ((s : Str) (k : ℕ) (more : Str) → drop k s ≡ d ++ more → Gives (packed_string s k) s b more)) (rw u at a.3)
      (string_bytes a.0, string_took f at a.0 a.1 a.2, packed_gives a.0 (leb-true _ _ u)))
      (λ u. never_got refl (rw u at a.3))

-- ---- words

stands_took : (w s : Str) (at : ℕ) → stands_at w s at ≡ true → Took s at w (at + length w)
unfolding stands_at
stands_took w s at e =
    let h : at + length w ≤ length s = leb-true _ _ (and_l _ _ e) in
    let i : part s at (at + length w) ≡ w = same→≡ _ _ (and_r (leb (at + length w) (length s)) _ e) in
    let k : (at + length w) - at ≡ length w = omega arith in
    let j : take (length w) (drop at s) ≡ w = rw k at i in
    record { same = sym (take-append-drop (length w) (drop at s)) ∙ rw (j, drop-drop (length w) at s); fits = h }

gives_stands : (w s : Str) (k : ℕ) (more : Str) → k ≤ length s → drop k s ≡ w ++ more → stands_at w s k ≡ true
unfolding stands_at ◌and◌
gives_stands w s k more l e =
    let n : length s - k ≡ length w + length more = sym (length-drop k s) ∙ ap length e ∙ length-append w more in
    let m : (k + length w) - k ≡ length w = omega arith in
    let i : part s k (k + length w) ≡ w = rw (m, e) (take_at w more (length w) refl) in
    rw (le-leb (k + length w) (length s) (omega arith), i) (≡→same refl)

-- two words that begin with different letters
module _ (P : Str → Type 0) (n x y : ℕ) (xs ys : Str) (d : x ≡ y → ⊥) where
  stands_not : (s : Str) (k : ℕ) (more : Str) → drop k s ≡ (y ∷ ys) ++ more → stands_at (x ∷ xs) s k ≡ false
  unfolding stands_at ◌and◌ same
  stands_not s k more e =
      by (leb (k + suc (length xs)) (length s))
      (λ u. let m : (k + suc (length xs)) - k ≡ suc (length xs) = omega arith in
      rw (u, m, e, ne_eqb y x (λ z. d (sym z))))
      (λ u. rw u)

  pub code_packed : Back P (packed_code n (x ∷ xs) (y ∷ ys)) (shown_code n (x ∷ xs) (y ∷ ys))
  unfolding packed_code whether◌then◌else◌
  code_packed s at b t z l e =
      by (stands_at (x ∷ xs) s at)
      (λ u. got_move (λ c q. (w : Str) × Took s at w q × ((f : Str) (k : ℕ) (more : Str) → drop k f ≡ c ++ more → Gives (shown_code n (x ∷ xs) (y ∷ ys) f k) f w more)) (rw u at e)
      (x ∷ xs, stands_took (x ∷ xs) s at u, λ f k more i. first f k more i))
      (λ u. by (stands_at (y ∷ ys) s at)
      (λ v. got_move (λ c q. (w : Str) × Took s at w q × ((f : Str) (k : ℕ) (more : Str) → drop k f ≡ c ++ more → Gives (shown_code n (x ∷ xs) (y ∷ ys) f k) f w more)) (rw (u, v) at e)
      (y ∷ ys, stands_took (y ∷ ys) s at v, λ f k more i. second f k more i))
      (λ v. never_got refl (rw (u, v) at e)))
    where
      first : (f : Str) (k : ℕ) (more : Str) → drop k f ≡ n ∷ more → Gives (shown_code n (x ∷ xs) (y ∷ ys) f k) f (x ∷ xs) more
      first f k more i = unfold shown_code ◌>>=◌ ret in then_gives (byte f k) _ f n _ more more (byte_gives f k n more i) (λ p j. (p, rw (eq-eqb n n refl), j))

      second : (f : Str) (k : ℕ) (more : Str) → drop k f ≡ (n + 1) ∷ more → Gives (shown_code n (x ∷ xs) (y ∷ ys) f k) f (y ∷ ys) more
      second f k more i =
          unfold shown_code ◌>>=◌ ret in
          then_gives (byte f k) _ f (n + 1) _ more more (byte_gives f k (n + 1) more i) (λ p j. (p, rw (ne_eqb (n + 1) n (λ z. omega arith), eq-eqb (n + 1) (n + 1) refl), j))

  gives_first : (s : Str) (k : ℕ) (more : Str) → drop k s ≡ (x ∷ xs) ++ more → Gives (packed_code n (x ∷ xs) (y ∷ ys) s k) s (n ∷ []) more
  unfolding packed_code whether◌then◌else◌
  gives_first s k more i =
      let b = first_byte s k x (xs ++ more) i in
      let h = gives_stands (x ∷ xs) s k more (omega (arith, b.0)) i in
      (k + length (x ∷ xs), rw h, sym (drop-drop (length (x ∷ xs)) k s) ∙ rw i (drop_at (x ∷ xs) more (length (x ∷ xs)) refl))

  gives_second : (s : Str) (k : ℕ) (more : Str) → drop k s ≡ (y ∷ ys) ++ more → Gives (packed_code n (x ∷ xs) (y ∷ ys) s k) s ((n + 1) ∷ []) more
  unfolding packed_code whether◌then◌else◌
  gives_second s k more i =
      let b = first_byte s k y (ys ++ more) i in
      let h = gives_stands (y ∷ ys) s k more (omega (arith, b.0)) i in
      let g = stands_not s k more i in
      (k + length (y ∷ ys), rw (g, h), sym (drop-drop (length (y ∷ ys)) k s) ∙ rw i (drop_at (y ∷ ys) more (length (y ∷ ys)) refl))

  pub code_shown : Back P (shown_code n (x ∷ xs) (y ∷ ys)) (packed_code n (x ∷ xs) (y ∷ ys))
  unfolding shown_code ◌>>=◌ ret whether◌then◌else◌ unknown
  code_shown f at w t z l e =
      let a = then_got (byte f at) _ e in
      by (eqb a.0 n)
      (λ u. got_move (λ c q. (b : Str) × Took f at b q × ((s : Str) (k : ℕ) (more : Str) → drop k s ≡ c ++ more → Gives (packed_code n (x ∷ xs) (y ∷ ys) s k) s b more)) (rw u at a.3)
      (a.0 ∷ [], byte_took f at a.0 a.1 a.2, λ s k more i. let g = gives_first s k more i in (g.0, g.1 ∙ ap (λ (c : ℕ). got (c ∷ []) g.0) (sym (eqb-true a.0 n u)), g.2)))
      (λ u. by (eqb a.0 (n + 1))
      (λ v. got_move (λ c q. (b : Str) × Took f at b q × ((s : Str) (k : ℕ) (more : Str) → drop k s ≡ c ++ more → Gives (packed_code n (x ∷ xs) (y ∷ ys) s k) s b more)) (rw (u, v) at a.3)
      (a.0 ∷ [], byte_took f at a.0 a.1 a.2, λ s k more i. let g = gives_second s k more i in (g.0, g.1 ∙ ap (λ (c : ℕ). got (c ∷ []) g.0) (sym (eqb-true a.0 (n + 1) v)), g.2)))
      (λ v. never_got refl (rw (u, v) at a.3)))

-- ---- bytes that stand for themselves

module _ (P : Str → Type 0) (c : ℕ) where
  pub plain_packed : Back P (packed_plain c) (shown_plain c)
  unfolding packed_plain ◌and◌ whether◌then◌else◌ shown_plain ret
  plain_packed s at b t z l e =
      by (ltb at (length s))
      (λ u. by (eqb (get_or s at 0) c)
      (λ v. got_move (λ d q. (w : Str) × Took s at w q × ((f : Str) (k : ℕ) (more : Str) → drop k f ≡ d ++ more → Gives (got (c ∷ []) k) f w more)) (rw (u, v) at e)
      (c ∷ [], rw (sym (eqb-true (get_or s at 0) c v)) (one_took s at (ltb-true _ _ u)), λ f k more i. (k, refl, i)))
      (λ v. never_got refl (rw (u, v) at e)))
      (λ u. never_got refl (rw u at e))

  plain_gives : (s : Str) (k : ℕ) (more : Str) → drop k s ≡ c ∷ more → Gives (packed_plain c s k) s [] more
  unfolding packed_plain ◌and◌ whether◌then◌else◌
  plain_gives s k more i = let h = first_byte s k c more i in (k + 1, rw (lt-ltb k (length s) h.0, eq-eqb (get_or s k 0) c h.1), h.2)

  pub plain_shown : Back P (shown_plain c) (packed_plain c)
  unfolding shown_plain ret
  plain_shown f at w t z l e =
      got_move (λ d q. (b : Str) × Took f at b q × ((s : Str) (k : ℕ) (more : Str) → drop k s ≡ d ++ more → Gives (packed_plain c s k) s b more)) e
      ([], took_none f at l, plain_gives)

-- ---- paths

-- what stands from `at` on, where nothing comes after it
pub all_took : (s : Str) (at : ℕ) → Took s at (drop at s) (length s)
all_took s at = record { same = sym (append-nil (drop at s)) ∙ ap (λ (z : Str). drop at s ++ z) (sym (drop-length s)); fits = omega arith }

-- f and g are each other's inverse
module _ (f g : Str → Option Str) (inverse : (s b : Str) → f s ≡ some b → g b ≡ some s) where
  rest_gives : (w b : Str) → g b ≡ some w → (s : Str) (k : ℕ) → drop k s ≡ b → 0 < length b → Gives (whether ltb k (length s) then rest (g (drop k s)) (length s) else unread) s w []
  unfolding whether◌then◌else◌ rest
  rest_gives w b e s k i h =
      let l : length s - k ≡ length b = sym (length-drop k s) ∙ ap length i in
      (length s, rw (lt-ltb k (length s) (omega arith), i, e), drop-length s)

  rest_back : (s : Str) (at : ℕ) (o : Option Str) (b : Str) (t : ℕ) → f (drop at s) ≡ o → rest o (length s) ≡ got b t → ((b : Str) → g b ≡ some (drop at s) → 0 < length b)
      → (w : Str) × Took s at w t × ((z : Str) (k : ℕ) → drop k z ≡ b → Gives (whether ltb k (length z) then rest (g (drop k z)) (length z) else unread) z w [])
  unfolding rest
  rest_back s at none b t e h n = never_got refl h
  rest_back s at (some c) b t e h n =
      got_move (λ d q. (w : Str) × Took s at w q × ((z : Str) (k : ℕ) → drop k z ≡ d → Gives (whether ltb k (length z) then rest (g (drop k z)) (length z) else unread) z w [])) h
      (drop at s, all_took s at, λ z k i. rest_gives (drop at s) c (inverse (drop at s) c e) z k i (n c (inverse (drop at s) c e)))

no_text : text_for [] ≡ none
no_text = unfold text_for read_bytes path whole byte ◌>>=◌ whether◌then◌else◌ in refl

no_bytes : bytes_for [] ≡ none
no_bytes = unfold bytes_for read_text same whether◌then◌else◌ in refl

some_long : (f : Str → Option Str) → f [] ≡ none → (b w : Str) → f b ≡ some w → 0 < length b
some_long f e [] w i = let z : none ≡ some w = sym e ∙ i in let y : ◌≡◌ {A = ℕ} 0 1 = cc in absurd (omega arith)
some_long f e (x ∷ b) w i = omega arith

module _ (P : Str → Type 0) where
  pub path_packed : BackLast P packed_path shown_path
  unfolding packed_path shown_path of_rest whether◌then◌else◌
  path_packed s at b t z l e =
      by (ltb at (length s))
      (λ u. rest_back bytes_for text_for read_write s at (bytes_for (drop at s)) b t refl (rw u at e) (λ c i. some_long text_for no_text c (drop at s) i))
      (λ u. never_got refl (rw u at e))

  pub path_shown : BackLast P shown_path packed_path
  unfolding packed_path shown_path of_rest whether◌then◌else◌
  path_shown s at b t z l e =
      by (ltb at (length s))
      (λ u. rest_back text_for bytes_for write_read s at (text_for (drop at s)) b t refl (rw u at e) (λ c i. some_long bytes_for no_bytes c (drop at s) i))
      (λ u. never_got refl (rw u at e))
