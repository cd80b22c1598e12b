-- Lines converted one after another.
use Prim.Native.Nat.{ℕ, ◌+◌, ◌-◌, ◌≤◌, ◌<◌}
use native.Mathlib.Omega.{arith}
use mathlib.Core.Path.{◌≡◌, refl, sym, ap, ◌∙◌}
use mathlib.Core.Bool.{true, false, ◌&&◌}
use mathlib.Core.List.{List, [], ◌∷◌, ◌++◌, append_assoc, append-nil}
use mathlib.Core.Option.{Option, none, some}
use borrow.Author.Tests.{eqb-true, eqb-false, lt-ltb, ltb-true, le-leb, leb-true}
use lib.Dec.{eqb, leb, ltb}
use lib.ListN.{length, take, drop, length-append, length-drop}
use lib.Seq.{take_at, length-take-le}
use Rattle.text.specs.String.{Str}
use Rattle.text.specs.Fill.{put}
use Rattle.text.proofs.Tests.{by, clash, and_left, and_right}
use Rattle.text.proofs.Filling.{put_length, put_take}
use Rattle.table_line.specs.Lines.{lines}
use Rattle.path_read.specs.declared.reader.Stored.{Stored}
use Rattle.std.specs.Prelude.{Some, None}
use Rattle.path_read.specs.Steps.{MaybeStored}
use Rattle.readable_parts.proofs.Rest.{part_put}
use Rattle.readable_lines.specs.Steps.{max_made_line, Lays}
use Rattle.readable_lines.proofs.Stored.{laid_to, laid_not}
use Rattle.readable_log.specs.Run.{before, converted, Runs}

-- ---- the test of the loop

module _ (n l c m x y : ℕ) where
  tested : ((ltb n l && ltb c m) && leb x y) ≡ true → (n < l) × (c < m) × (x ≤ y)
  tested h = (
    ltb-true n l (and_left _ _ (and_left (ltb n l && ltb c m) _ h)),
    ltb-true c m (and_right (ltb n l) _ (and_left (ltb n l && ltb c m) _ h)),
    leb-true x y (and_right (ltb n l && ltb c m) _ h),
  )

  untested : ((ltb n l && ltb c m) && leb x y) ≡ false → n < l → c < m → x ≤ y → ⊥
  untested h a b d = clash refl (rw (lt-ltb n l a, lt-ltb c m b, le-leb x y d) at h)

-- ---- lines

-- one line more
converted_more : (g : Str → Option Str) (ls : List Str) (l w v : Str) → converted g ls ≡ some w → g l ≡ some v → converted g (ls ++ (l ∷ [])) ≡ some (w ++ v)
unfolding converted before
converted_more g [] l w v e i =
    let k : w ≡ [] = cc in
    rw (i, k) (ap some (append-nil v))
converted_more g (m ∷ ls) l w v e i = go (λ b k. converted_more g ls l b v k i) (g m) refl (converted g ls) refl e
  where
    go : ((b : Str) → converted g ls ≡ some b → converted g (ls ++ (l ∷ [])) ≡ some (b ++ v)) → (o : Option Str) → g m ≡ o → (p : Option Str) → converted g ls ≡ p → before o p ≡ some w → before (g m) (converted g (ls ++ (l ∷ []))) ≡ some (w ++ v)
    go ih none j p k h = let z : none ≡ some w = (unfold before in h) in let y : ◌≡◌ {A = ℕ} 0 1 = cc in absurd (omega arith)
    go ih (some a) j none k h = let z : none ≡ some w = (unfold before in h) in let y : ◌≡◌ {A = ℕ} 0 1 = cc in absurd (omega arith)
    go ih (some a) j (some b) k h =
        let z : some (a ++ b) ≡ some w = (unfold before in h) in
        let y : w ≡ a ++ b = cc in
        rw (j, ih b k, y) (unfold before in ap some (sym (append_assoc a b v)))

-- the lines before `next` are converted, and what is made of them stands at the start of `out`
pub record Running (g : Str → Option Str) (text : Str) (most : ℕ) (d : List ℕ) (out : List ℕ) (next count made : ℕ) : Type 0 where
  pub taken : List Str
  pub text_is : lines text ≡ taken ++ lines (drop next text)
  pub count_is : length taken ≡ count
  pub few : count ≤ most
  pub inside : next ≤ length text
  pub result : Str
  pub result_is : converted g taken ≡ some result
  pub stands : take made out ≡ result
  pub made_is : made ≡ length result
  pub long : length out ≡ length d
  pub room : made ≤ length out
  pub begun : next ≡ 0 → (count ≡ 0) × (made ≡ 0)

module _ (g : Str → Option Str) (text : Str) (most : ℕ) (d : List ℕ) where
  pub running_start : Running g text most d d 0 0 0
  running_start = record {
    taken = [];
    text_is = refl;
    count_is = refl;
    few = omega arith;
    inside = omega arith;
    result = [];
    result_is = unfold converted in refl;
    stands = refl;
    made_is = refl;
    long = refl;
    room = omega arith;
    begun = λ e. (refl, refl);
  }

  module _ (out : List ℕ) (next count made : ℕ) (r : Running g text most d out next count made) where
    pub running_test : ((ltb next (length text) && ltb count most) && leb max_made_line (length out - made)) ≡ true → (next < length text) × (count < most) × (max_made_line ≤ length out - made)
    running_test = tested next (length text) count most max_made_line (length out - made)

    -- the part of the buffer behind what was made
    abbrev pub behind : List ℕ
    behind = take (length out - made) (drop made out)

    pub behind_long : length behind ≡ length out - made
    behind_long = length-take-le (length out - made) (drop made out) (omega (arith, length-drop made out))

    abbrev back : List ℕ → List ℕ
    back p = take made out ++ (p ++ drop (length out - made) (drop made out))

    pub back_long : (p : List ℕ) → length p ≡ length behind → length (back p) ≡ length out
    back_long p e =
        omega (
          arith,
          length-append (take made out) (p ++ drop (length out - made) (drop made out)),
          length-append p (drop (length out - made) (drop made out)),
          length-take-le made out r.room,
          length-drop (length out - made) (drop made out),
          length-drop made out,
          behind_long,
        )

    module _ (p : List ℕ) (q : MaybeStored) (c : Lays g text next behind p q) where
      module _ (h : q ≡ None) where
        pub running_stop : length (back p) ≡ length out → Runs g text most d (back p) (record { next = next; count = count; made = made; stopped = true })
        running_stop k =
            let u = laid_not c h in
            record {
              taken = r.taken;
              text_is = r.text_is;
              count_is = r.count_is;
              few = r.few;
              inside = r.inside;
              result = r.result;
              result_is = r.result_is;
              stands = take_at (take made out) (p ++ drop (length out - made) (drop made out)) made (length-take-le made out r.room) ∙ r.stands;
              made_is = r.made_is;
              room = omega (arith, r.room);
              stops = λ e. (u.0, u.1, u.2, u.3);
              goes = λ e. (let z : ◌≡◌ {A = ℕ} 0 1 = cc in absurd (omega arith));
            }

      module _ (o : Stored) (h : q ≡ Some o) where
        pub running_fits : made + o.end ≤ length out
        running_fits = let u = laid_to c h in omega (arith, u.5, behind_long, r.room)

        pub running_past : (next < o.next) × (o.next ≤ length text)
        running_past = let u = laid_to c h in (u.6, u.7)

        pub running_turn : count < most → Running g text most d (back p) o.next (count + 1) (made + o.end)
        running_turn f =
            let u = laid_to c h in
            let l = u.0 in
            let w = u.1 in
            let n : o.end ≡ length w = omega (arith, u.4.ends) in
            let b : back p ≡ put out made w = ap back u.4.same ∙ part_put out made w r.room in
            let k : made + length w ≤ length out = omega (arith, running_fits) in
            record {
              taken = r.taken ++ (l ∷ []);
              text_is = r.text_is ∙ ap (λ (z : List Str). r.taken ++ z) u.2 ∙ sym (append_assoc r.taken (l ∷ []) (lines (drop o.next text)));
              count_is = omega (arith, length-append r.taken (l ∷ []), r.count_is);
              few = omega arith;
              inside = u.7;
              result = r.result ++ w;
              result_is = converted_more g r.taken l r.result w r.result_is u.3;
              stands = ap (take (made + o.end)) b ∙ ap (λ (j : ℕ). take (made + j) (put out made w)) n ∙ put_take out made w k ∙ ap (λ (z : Str). z ++ w) r.stands;
              made_is = omega (arith, r.made_is, length-append r.result w);
              long = ap length b ∙ put_length out made w k ∙ r.long;
              room = rw b (omega (arith, put_length out made w k, running_fits));
              begun = λ z. absurd (omega (arith, u.6));
            }

    pub running_done : ((ltb next (length text) && ltb count most) && leb max_made_line (length out - made)) ≡ false
        → Runs g text most d out (record { next = next; count = count; made = made; stopped = false })
    running_done f = record {
      taken = r.taken;
      text_is = r.text_is;
      count_is = r.count_is;
      few = r.few;
      inside = r.inside;
      result = r.result;
      result_is = r.result_is;
      stands = r.stands;
      made_is = r.made_is;
      room = r.room;
      stops = λ e. (let z : ◌≡◌ {A = ℕ} 0 1 = cc in absurd (omega arith));
      goes = λ e t m k. by (eqb next 0)
          (λ u. let z = r.begun (eqb-true next 0 u) in
          absurd (untested next (length text) count most max_made_line (length out - made) f (omega (arith, eqb-true next 0 u)) (omega (arith, z.0)) (omega (arith, z.1, r.long))))
          (λ u. let z = eqb-false next 0 u in omega (arith, z));
    }
