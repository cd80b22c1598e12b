-- The theorems on the verdicts: the deciding rule, and that it is the only one; the tree answer; the order of the lines.
use mathlib.Core.Path.{◌≡◌, refl, sym, ap, ◌∙◌}
use mathlib.Core.Bool.{Bool, true, false}
use mathlib.Core.List.Memᴰ
use mathlib.Core.List.{List, [], ◌∷◌}
use mathlib.Core.Option.{Option, none, some}
use Prim.Native.Nat.{ℕ, zero, suc}
use native.Mathlib.Omega.{arith}
use lib.ListN.{get_elem?}
use Rattle.text.specs.Test.{◌∈◌, twice}
use Rattle.text.proofs.Tests.{clash, ≡→same}
use Rattle.path.specs.Refusal.{key_twice}
use Rattle.table.specs.Table.{Rule, Table}
use Rattle.verdict.specs.Order.{better, earlier, Numbered, choose}
use Rattle.verdict.specs.Verdict.{Request, matches, decider, permits, opposes, Tree, ALL, NONE, MIXED, word, answer, tree}
use Rattle.table.specs.Refusal.{same_id}
use Rattle.verdict.specs.Laws.{Best, Decided, of_bytes, Everywhere, TreeDecided, Reordered, SameAnswers}
use Rattle.verdict.specs.Orderly.{Orderly}
use Rattle.verdict.proofs.Twice.{first_alone, rest_alone}
use Rattle.verdict.proofs.Order.{Order, better_order, earlier_order}
use Rattle.verdict.proofs.Choose.{Chosen, numbered, tied_same}
use Rattle.verdict.proofs.Beneath.{decided, judged, tree_all, tree_none}
use Rattle.verdict.proofs.Reorder.{same_action, same_decider, same_tree, orderly_again}

pub verdict : (t : Table) (q : Request) → Decided t q (decider t q)
unfolding decider
verdict t q = go (decider t q) refl (decided t q)
  where
    go : (o : Option Numbered) → decider t q ≡ o → Chosen better (matches t q) t.rules o → Decided t q o
    go none e h = h
    go (some n) e w = record { numbered = numbered better (matches t q) t.rules n e; passes = w.passes; unbeaten = w.unbeaten }

pub reordered : (t u : Table) → Orderly t → Reordered t u → Orderly u × ((q : Request) → SameAnswers t u q)
reordered t u ok p =
    (orderly_again t u p ok, λ q. record { action = same_action t u ok p q; deciding = same_decider t u ok p q; word = same_tree t u ok p q })

-- ---- only one answer is right

none_some {ℓ} : {A : Type 0} {X : Type ℓ} {x : A} → ◌≡◌ {A = Option A} none (some x) → X
none_some e = let z : ◌≡◌ {A = ℕ} 0 1 = cc in absurd (omega arith)

at_place : {A : Type 0} (xs : List A) (i : ℕ) {x : A} → get_elem? xs i ≡ some x → x ∈ xs
at_place [] i e = none_some e
at_place (y ∷ ys) zero {x} e = let p : x ≡ y = cc in Memᴰ.head p
at_place (y ∷ ys) (suc i) e = Memᴰ.tail (at_place ys i e)

same_id_lem : (r s : Rule) → r ≡ s → same_id r s ≡ true
unfolding same_id
same_id_lem r s e = ≡→same (ap (λ (x : Rule). x.id) e)

-- a rule has one place
one_place : (xs : List Rule) → twice same_id xs ≡ false → (i j : ℕ) {x : Rule} → get_elem? xs i ≡ some x → get_elem? xs j ≡ some x → i ≡ j
one_place [] d i j e h = none_some e
one_place (y ∷ ys) d zero zero e h = refl
one_place (y ∷ ys) d zero (suc j) {x} e h = let p : y ≡ x = cc in clash (same_id_lem y x p) (first_alone same_id y ys d (at_place ys j h))
one_place (y ∷ ys) d (suc i) zero {x} e h = let p : y ≡ x = cc in clash (same_id_lem y x p) (first_alone same_id y ys d (at_place ys i e))
one_place (y ∷ ys) d (suc i) (suc j) e h = ap suc (one_place ys (rest_alone same_id y ys d) i j e h)

pub best_unique : {over : Rule → Rule → Bool} → Order over → (test : Rule → Bool) (t : Table) → Orderly t
    → (m n : Numbered) → Best over test t m → Best over test t n → m ≡ n
best_unique o test t ok m n a b =
    let i : m.rule ∈ t.rules = at_place _ _ a.numbered in
    let j : n.rule ∈ t.rules = at_place _ _ b.numbered in
    let e : m.rule ≡ n.rule = tied_same o t.rules ok.ids _ _ i j (b.unbeaten _ i a.passes) (a.unbeaten _ j b.passes) in
    let k : m.number ≡ n.number = one_place t.rules ok.ids _ _ a.numbered (b.numbered ∙ ap some (sym e)) in
    λ x. record { number = k x; rule = e x }

-- the verdict is the one answer that `Decided` allows
pub verdict_unique : (t : Table) (q : Request) → Orderly t → (o : Option Numbered) → Decided t q o → decider t q ≡ o
verdict_unique t q ok o h = go (decider t q) (verdict t q) o h
  where
    go : (x : Option Numbered) → Decided t q x → (y : Option Numbered) → Decided t q y → x ≡ y
    go none a none b = refl
    go none a (some n) b = clash b.passes (a n.rule (at_place _ _ b.numbered))
    go (some m) a none b = clash a.passes (b m.rule (at_place _ _ a.numbered))
    go (some m) a (some n) b = ap some (best_unique better_order (matches t q) t ok m n a b)

-- ---- the tree verdict

mixed_all {ℓ} : {X : Type ℓ} {n : Numbered} → MIXED n ≡ ALL → X
mixed_all e = let z : ◌≡◌ {A = ℕ} 0 1 = cc in absurd (omega arith)

mixed_none {ℓ} : {X : Type ℓ} {n : Numbered} → MIXED n ≡ NONE → X
mixed_none e = let z : ◌≡◌ {A = ℕ} 0 1 = cc in absurd (omega arith)

-- an orderly table and a request, whose paths are of bytes and have no key twice in an element
module _ (t : Table) (q : Request) (ok : Orderly t) (rb : (r : Rule) → r ∈ t.rules → of_bytes r.path ≡ true)
    (kq : key_twice q.path ≡ false) (qb : of_bytes q.path ≡ true) where
  pub tree_verdict_lem : TreeDecided t q (tree t q)
  unfolding tree answer word
  tree_verdict_lem =
      record {
        every = tree_all t q ok rb kq qb;
        never = tree_none t q ok rb kq qb;
        mixed = go (choose earlier (opposes t q) 0 t.rules) refl (judged t q ok rb kq qb) (permits t q) refl;
      }
    where
      go : (o : Option Numbered) → choose earlier (opposes t q) 0 t.rules ≡ o → Chosen earlier (opposes t q) t.rules o → (b : Bool) → permits t q ≡ b
          → ¬ Everywhere t q true → ¬ Everywhere t q false → (n : Numbered) × (tree t q ≡ MIXED n) × Best earlier (opposes t q) t n
      go none e h true i x y = absurd (x ((tree_all t q ok rb kq qb).0 (rw (i, e))))
      go none e h false i x y = absurd (y ((tree_none t q ok rb kq qb).0 (rw (i, e))))
      go (some n) e w b i x y = (n, rw e, record { numbered = numbered earlier (opposes t q) t.rules n e; passes = w.passes; unbeaten = w.unbeaten })

  -- the tree answer is the one that `TreeDecided` allows
  pub tree_unique : (a : Tree) → TreeDecided t q a → tree t q ≡ a
  tree_unique ALL h = tree_verdict_lem.every.1 (h.every.0 refl)
  tree_unique NONE h = tree_verdict_lem.never.1 (h.never.0 refl)
  tree_unique (MIXED m) h =
      let x : ¬ Everywhere t q true = λ e. mixed_all (h.every.1 e) in
      let y : ¬ Everywhere t q false = λ e. mixed_none (h.never.1 e) in
      let a = tree_verdict_lem.mixed x y in
      let b = h.mixed x y in
      a.1 ∙ ap MIXED (best_unique earlier_order (opposes t q) t ok a.0 b.0 a.2 b.2) ∙ sym b.1
