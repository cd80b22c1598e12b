-- The tree answer is what the single-path verdict says of every path at or beneath the asked one.
use mathlib.Core.Path.{◌≡◌, refl, sym, ap, ◌∙◌}
use mathlib.Core.Logic.{◌↔◌}
use mathlib.Core.Bool.{Bool, true, false, xor}
use mathlib.Core.Option.{Option, none, some}
use Prim.Native.Nat.{ℕ}
use native.Mathlib.Omega.{arith}
use Rattle.text.specs.Test.{◌and◌, ◌∈◌}
use Rattle.text.proofs.Tests.{clash, and_l, and_r, both, and_false}
use Rattle.path.specs.Path.{Path}
use Rattle.path.specs.Refusal.{key_twice}
use Rattle.table.specs.Table.{Rule, Table}
use Rattle.verdict.specs.Cover.{covers}
use Rattle.verdict.specs.Join.{agree, join}
use Rattle.verdict.specs.Order.{better, earlier, Numbered, choose}
use Rattle.verdict.specs.Verdict.{Request, at, applies, matches, decider, action, permits, fits, opposes, ALL, NONE, MIXED, word, answer, tree}
use Rattle.verdict.specs.Laws.{of_bytes, Everywhere}
use Rattle.verdict.specs.Orderly.{Orderly}
use Rattle.verdict.proofs.Order.{better_order, earlier_order}
use Rattle.verdict.proofs.Choose.{Wins, Chosen, chosen, tied_same}
use Rattle.verdict.proofs.Paths.{covers_refl, covers_trans, covered_agree, join_covers, covers_join_left, covers_join_right, join_once}
use Rattle.verdict.proofs.OfBytes.{join_of_bytes}

pub decided : (t : Table) (q : Request) → Chosen better (matches t q) t.rules (decider t q)
unfolding decider
decided t q = chosen better_order (matches t q) t.rules 0

-- ---- tests that differ, words

agrees : (a b : Bool) → xor a b ≡ false → a ≡ b
unfolding xor
agrees true true e = refl
agrees true false e = e
agrees false true e = sym e
agrees false false e = refl

differs : (a b : Bool) → xor a b ≡ true → a ≡ b → ⊥
unfolding xor
differs true true e p = clash e refl
differs true false e p = clash refl p
differs false true e p = clash refl (sym p)
differs false false e p = clash e refl

word_inj : (a b : Bool) → word a ≡ word b → a ≡ b
unfolding word
word_inj true true e = refl
word_inj true false e = cc
word_inj false true e = cc
word_inj false false e = refl

word_mixed {ℓ} : {X : Type ℓ} (b : Bool) (n : Numbered) → word b ≡ MIXED n → X
unfolding word
word_mixed true n e = let z : ◌≡◌ {A = ℕ} 0 1 = cc in absurd (omega arith)
word_mixed false n e = let z : ◌≡◌ {A = ℕ} 0 1 = cc in absurd (omega arith)

module _ (t : Table) (q : Request) (ok : Orderly t) (kq : key_twice q.path ≡ false) where
  -- a rule that matches a path matches every path beneath it
  monotone : (j d : Path) → covers j d ≡ true → (r : Rule) → matches t (at q j) r ≡ true → matches t (at q d) r ≡ true
  unfolding matches applies
  monotone j d c r m = both _ _ (and_l _ _ m) (covers_trans r.path j d (and_r _ _ m) c)

  -- above d, a path that d's deciding rule matches has d's verdict
  lifted : (j d : Path) → covers j d ≡ true → (n : Numbered) → Wins better (matches t (at q d)) t.rules n.rule
      → matches t (at q j) n.rule ≡ true → (o : Option Numbered) → Chosen better (matches t (at q j)) t.rules o → action o ≡ n.rule.permit
  unfolding action
  lifted j d c n w m none h = clash m (h n.rule w.listed)
  lifted j d c n w m (some k) h =
      ap (λ (r : Rule). r.permit) (tied_same better_order t.rules ok.ids k.rule n.rule h.listed w.listed
      (w.unbeaten k.rule h.listed (monotone j d c k.rule h.passes)) (h.unbeaten n.rule w.listed m))

  -- d's deciding rule fits p, and the joined path has d's verdict
  at_join : (d : Path) → covers q.path d ≡ true → key_twice d ≡ false → (n : Numbered) → Wins better (matches t (at q d)) t.rules n.rule
      → (fits t q n.rule ≡ true) × (permits t (at q (join n.rule.path q.path)) ≡ n.rule.permit)
  unfolding fits matches applies permits
  at_join d c o n w =
      let r : Rule = n.rule in
      let j : Path = join r.path q.path in
      let m : covers r.path d ≡ true = and_r _ _ w.passes in (
        both _ _ (and_l _ _ w.passes) (covered_agree r.path q.path d m c o),
        lifted j d (join_covers r.path q.path d m c) n w (both _ _ (and_l _ _ w.passes) (covers_join_left r.path q.path)) (decider t (at q j)) (decided t (at q j)),
      )

  -- where no rule matches d, none matches the asked path
  quiet : (d : Path) → covers q.path d ≡ true → ((r : Rule) → r ∈ t.rules → matches t (at q d) r ≡ false) → permits t q ≡ false
  unfolding permits action
  quiet d c h = go (decider t q) (decided t q)
    where
      go : (o : Option Numbered) → Chosen better (matches t q) t.rules o → action o ≡ false
      go none k = refl
      go (some n) w = clash (monotone q.path d c n.rule w.passes) (h n.rule w.listed)

  -- where no rule opposes, every path beneath has the asked path's action
  uniform : ((r : Rule) → r ∈ t.rules → opposes t q r ≡ false) → Everywhere t q (permits t q)
  unfolding permits opposes
  uniform h d b c o = go (decider t (at q d)) (decided t (at q d))
    where
      go : (x : Option Numbered) → Chosen better (matches t (at q d)) t.rules x → action x ≡ permits t q
      go none k = unfold action in sym (quiet d c k)
      go (some n) w = let r = at_join d c o n w in unfold action in sym r.1 ∙ agrees _ _ (and_false _ _ r.0 (h n.rule w.listed))

-- the paths of the rules and of the request are of bytes
module _ (t : Table) (q : Request) (ok : Orderly t) (rb : (r : Rule) → r ∈ t.rules → of_bytes r.path ≡ true)
    (kq : key_twice q.path ≡ false) (qb : of_bytes q.path ≡ true) where
  -- a rule that opposes names a path beneath with the other action
  opposed : (r : Rule) → r ∈ t.rules → opposes t q r ≡ true → Everywhere t q (permits t q) → ⊥
  unfolding opposes fits
  opposed r m h e =
      let f : agree r.path q.path ≡ true = and_r _ _ (and_l _ _ h) in
      differs _ _ (and_r _ _ h) (e (join r.path q.path) (join_of_bytes r.path q.path (rb r m) qb) (covers_join_right r.path q.path f) (join_once r.path q.path f (ok.keys r m) kq))

  -- ---- the three answers

  pub judged : Chosen earlier (opposes t q) t.rules (choose earlier (opposes t q) 0 t.rules)
  judged = chosen earlier_order (opposes t q) t.rules 0

  -- ALL is answered exactly where every path beneath is permitted, NONE exactly where every one is denied
  pub tree_word_lem : (b : Bool) → (tree t q ≡ word b) ↔ Everywhere t q b
  unfolding tree answer
  tree_word_lem b = (to (choose earlier (opposes t q) 0 t.rules) judged, λ e. from e (choose earlier (opposes t q) 0 t.rules) judged)
    where
      to : (o : Option Numbered) → Chosen earlier (opposes t q) t.rules o → answer (permits t q) o ≡ word b → Everywhere t q b
      to none k h d x c i = uniform t q ok kq k d x c i ∙ word_inj _ _ h
      to (some n) w h d x c i = word_mixed b n (sym h)

      from : Everywhere t q b → (o : Option Numbered) → Chosen earlier (opposes t q) t.rules o → answer (permits t q) o ≡ word b
      from e none k = ap word (e q.path qb (covers_refl q.path) kq)
      from e (some n) w = absurd (opposed n.rule w.listed w.passes (λ d x c i. e d x c i ∙ sym (e q.path qb (covers_refl q.path) kq)))

  pub tree_all : (tree t q ≡ ALL) ↔ Everywhere t q true
  unfolding word
  tree_all = tree_word_lem true

  pub tree_none : (tree t q ≡ NONE) ↔ Everywhere t q false
  unfolding word
  tree_none = tree_word_lem false
