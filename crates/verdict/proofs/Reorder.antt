-- The answers do not depend on the order of a table's groups, members and rules.
use mathlib.Core.Path.{◌≡◌, refl, sym, ap, ap₂, ◌∙◌}
use mathlib.Core.Bool.{Bool, true, false}
use mathlib.Core.List.Memᴰ
use mathlib.Core.List.Permᴰ
use mathlib.Core.List.{List, ◌∷◌, Permᴰ}
use mathlib.Core.Option.{Option, none, some}
use Rattle.text.specs.Test.{◌∈◌, any, twice}
use Rattle.text.specs.String.{Str}
use Rattle.text.proofs.Tests.{clash, by, bool_ext, on_cons, any→, →any}
use Rattle.table.specs.Table.{Member, Rule, Table}
use Rattle.table.specs.Refusal.{same_member}
use Rattle.table.specs.Group.{lists}
use Rattle.verdict.specs.Join.{join}
use Rattle.verdict.specs.Order.{Numbered}
use Rattle.verdict.specs.Verdict.{Request, at, concerns, applies, matches, decider, action, permits, fits, opposes, answer, tree}
use Rattle.table.specs.Refusal.{same_id}
use Rattle.verdict.specs.Laws.{Reordered, id_of, by_id, mixed}
use Rattle.verdict.specs.Orderly.{Orderly}
use Rattle.verdict.proofs.Twice.{first_alone, rest_alone, →alone}
use Rattle.verdict.proofs.Order.{Order, better_order, earlier_order}
use Rattle.verdict.proofs.Choose.{Chosen, chosen, tied_same, same_id_turned}
use Rattle.verdict.proofs.Beneath.{decided}

-- ---- permutations

module _ {A : Type 0} where
  pub perm_mem : {xs ys : List A} → Permᴰ xs ys → {x : A} → x ∈ xs → x ∈ ys
  perm_mem Permᴰ.nil m = m
  perm_mem (Permᴰ.cons e d) (Memᴰ.head p) = Memᴰ.head (p ∙ e)
  perm_mem (Permᴰ.cons e d) (Memᴰ.tail m) = Memᴰ.tail (perm_mem d m)
  perm_mem (Permᴰ.swap e f) (Memᴰ.head p) = Memᴰ.tail (Memᴰ.head (p ∙ e))
  perm_mem (Permᴰ.swap e f) (Memᴰ.tail (Memᴰ.head p)) = Memᴰ.head (p ∙ f)
  perm_mem (Permᴰ.swap e f) (Memᴰ.tail (Memᴰ.tail m)) = Memᴰ.tail (Memᴰ.tail m)
  perm_mem (Permᴰ.trans d e) m = perm_mem e (perm_mem d m)

  pub perm_any : (f : A → Bool) {xs ys : List A} → Permᴰ xs ys → any f xs ≡ true → any f ys ≡ true
  perm_any f d e = let r = any→ _ _ e in →any f (perm_mem d r.1) r.2

-- ---- one choice

-- no rule, or one rule under perhaps two numbers
data Alike : Option Numbered → Option Numbered → Type 0 where
  neither : Alike none none
  one : {m n : Numbered} → m.rule ≡ n.rule → Alike (some m) (some n)

alike_action : {x y : Option Numbered} → Alike x y → action x ≡ action y
unfolding action
alike_action neither = refl
alike_action (one e) = ap (λ (r : Rule). r.permit) e

alike_id : {x y : Option Numbered} → Alike x y → id_of x ≡ id_of y
unfolding id_of
alike_id neither = refl
alike_id (one e) = ap (λ (r : Rule). some r.id) e

chosen_alike : {over : Rule → Rule → Bool} → Order over → {rs us : List Rule} → twice same_id rs ≡ false → Permᴰ rs us
    → (f g : Rule → Bool) → ((r : Rule) → f r ≡ g r) → (x y : Option Numbered) → Chosen over f rs x → Chosen over g us y → Alike x y
chosen_alike o d p f g e none none a b = neither
chosen_alike o d p f g e none (some n) a b = clash (e n.rule ∙ b.passes) (a n.rule (perm_mem (Permᴰ.symm p) b.listed))
chosen_alike o d p f g e (some m) none a b = clash (sym (e m.rule) ∙ a.passes) (b m.rule (perm_mem p a.listed))
chosen_alike o {rs} d p f g e (some m) (some n) a b =
    let i : n.rule ∈ rs = perm_mem (Permᴰ.symm p) b.listed in
    one (tied_same o rs d m.rule n.rule a.listed i
    (b.unbeaten m.rule (perm_mem p a.listed) (sym (e m.rule) ∙ a.passes))
    (a.unbeaten n.rule i (e n.rule ∙ b.passes)))

-- ---- the answers

module _ (t u : Table) (ok : Orderly t) (p : Reordered t u) where
  lists_same : (g n : Str) → lists t.members n g ≡ lists u.members n g
  unfolding lists
  lists_same g n =
      let f : Member → Bool = same_member (record { group = g; user = n }) in
      bool_ext (any f t.members) (any f u.members) (perm_any f p.members) (perm_any f (Permᴰ.symm p.members))

  concerns_same : (r : Rule) (n : Str) → concerns t r n ≡ concerns u r n
  unfolding concerns
  concerns_same r n = rw (lists_same r.subject n)

  applies_same : (q : Request) (r : Rule) → applies t q r ≡ applies u q r
  unfolding applies
  applies_same q r = rw (concerns_same r q.user)

  matches_same : (q : Request) (r : Rule) → matches t q r ≡ matches u q r
  unfolding matches
  matches_same q r = rw (applies_same q r)

  decider_alike : (q : Request) → Alike (decider t q) (decider u q)
  decider_alike q = chosen_alike better_order ok.ids p.rules (matches t q) (matches u q) (matches_same q) _ _ (decided t q) (decided u q)

  pub same_action : (q : Request) → permits t q ≡ permits u q
  unfolding permits
  same_action q = alike_action (decider_alike q)

  pub same_decider : (q : Request) → id_of (decider t q) ≡ id_of (decider u q)
  same_decider q = alike_id (decider_alike q)

  opposes_same : (q : Request) (r : Rule) → opposes t q r ≡ opposes u q r
  unfolding opposes fits
  opposes_same q r = rw (applies_same q r, same_action (at q (join r.path q.path)), same_action q)

  pub same_tree : (q : Request) → by_id (tree t q) ≡ by_id (tree u q)
  unfolding tree
  same_tree q = rw (same_action q) (go (permits u q) (chosen_alike earlier_order ok.ids p.rules (opposes t q) (opposes u q) (opposes_same q) _ _ (chosen earlier_order (opposes t q) t.rules 0) (chosen earlier_order (opposes u q) u.rules 0)))
    where
      go : (b : Bool) {x y : Option Numbered} → Alike x y → by_id (answer b x) ≡ by_id (answer b y)
      go b neither = refl
      go b (one e) = unfold answer by_id in ap (λ (r : Rule). mixed r.id) e

-- ---- what is in order stays in order

pub perm_twice : {A : Type 0} (alike : A → A → Bool) → ((x y : A) → alike x y ≡ true → alike y x ≡ true)
    → {xs ys : List A} → Permᴰ xs ys → twice alike xs ≡ false → twice alike ys ≡ false
perm_twice alike turned Permᴰ.nil d = d
perm_twice alike turned (Permᴰ.cons {b = b} e p) d =
    →alone alike b _ (λ y m. ap (λ z. alike z y) (sym e) ∙ first_alone alike _ _ d (perm_mem (Permᴰ.symm p) m)) (perm_twice alike turned p (rest_alone alike _ _ d))
perm_twice alike turned (Permᴰ.swap {a} {b} {a'} {b'} {l} e h) d =
    →alone alike a' (b' ∷ l)
    (on_cons _ (apart (first_alone alike a (b ∷ l) d (Memᴰ.head refl))) (λ y m. ap (λ z. alike z y) (sym h) ∙ first_alone alike b l (rest_alone alike a (b ∷ l) d) m))
    (→alone alike b' l (λ y m. ap (λ z. alike z y) (sym e) ∙ first_alone alike a (b ∷ l) d (Memᴰ.tail m)) (rest_alone alike b l (rest_alone alike a (b ∷ l) d)))
  where
    apart : alike a b ≡ false → alike a' b' ≡ false
    apart k = by (alike a' b') (λ w. clash (turned b a (ap₂ alike h e ∙ w)) k) (λ w. w)
perm_twice alike turned (Permᴰ.trans p q) d = perm_twice alike turned q (perm_twice alike turned p d)

pub orderly_again : (t u : Table) → Reordered t u → Orderly t → Orderly u
orderly_again t u p ok =
    record { ids = perm_twice same_id same_id_turned p.rules ok.ids; keys = λ r m. ok.keys r (perm_mem (Permᴰ.symm p.rules) m) }
