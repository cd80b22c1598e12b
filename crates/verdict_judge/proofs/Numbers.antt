-- The rules of a table by their numbers.
use mathlib.Core.Path.{◌≡◌, refl, sym, ap, ◌∙◌}
use mathlib.Core.Bool.{false}
use mathlib.Core.List.Memᴰ
use mathlib.Core.List.{List}
use mathlib.Core.Option.{some}
use Prim.Native.Nat.{ℕ, zero, suc, ◌+◌, ◌<◌}
use native.Mathlib.Nat.{add-zero}
use native.Mathlib.Omega.{arith}
use lib.ListN.{length, get_or, get_elem?}
use Rattle.table_rows.specs.Strings.{rows_of}
use Rattle.text.specs.Test.{◌∈◌, twice}
use Rattle.table.specs.Table.{Rule}
use Rattle.table.specs.Refusal.{same_id}
use Rattle.verdict.proofs.Twice.{first_alone, rest_alone}
use Rattle.table_rows.specs.Rules.{rule_in, rules_in}

pub length_rules : (f starts : List ℕ) (n i : ℕ) → length (rules_in f starts n i) ≡ n
unfolding rules_in rows_of
length_rules f starts zero i = refl
length_rules f starts (suc n) i = ap suc (length_rules f starts n (suc i))

-- rule i is one of the rules
pub rule_there : (f starts : List ℕ) (n i k : ℕ) → i < n → rule_in f (get_or starts (k + i) 0) ∈ rules_in f starts n k
unfolding rules_in rows_of
rule_there f starts zero i k h = absurd (omega arith)
rule_there f starts (suc n) zero k h = Memᴰ.head (ap (λ (j : ℕ). rule_in f (get_or starts j 0)) (add-zero k))
rule_there f starts (suc n) (suc i) k h =
    let e : k + suc i ≡ suc k + i = omega arith in
    rw e (Memᴰ.tail (rule_there f starts n i (suc k) (omega arith)))

-- and each of them has a number
pub rule_number : (f starts : List ℕ) (n k : ℕ) (r : Rule) → r ∈ rules_in f starts n k → (j : ℕ) × (j < n) × (rule_in f (get_or starts (k + j) 0) ≡ r)
unfolding rules_in rows_of
rule_number f starts zero k r m = absurd (Memᴰ.not-nil m)
rule_number f starts (suc n) k r (Memᴰ.head e) = (0, omega arith, ap (λ (j : ℕ). rule_in f (get_or starts j 0)) (add-zero k) ∙ sym e)
rule_number f starts (suc n) k r (Memᴰ.tail m) =
    let q = rule_number f starts n (suc k) r m in
    let e : k + suc q.0 ≡ suc k + q.0 = omega arith in
    (suc q.0, let l = q.1 in omega arith, rw e q.2)

-- the rule that is found at i stands at i
pub rule_is : (f starts : List ℕ) (n i k : ℕ) (r : Rule) → i < n → get_elem? (rules_in f starts n k) i ≡ some r → rule_in f (get_or starts (k + i) 0) ≡ r
unfolding rules_in rows_of
rule_is f starts zero i k r h e = absurd (omega arith)
rule_is f starts (suc n) zero k r h e = let z : k + 0 ≡ k = omega arith in rw z (cc)
rule_is f starts (suc n) (suc i) k r h e = let z : k + suc i ≡ suc k + i = omega arith in rw z (rule_is f starts n i (suc k) r (omega arith) e)

-- no two rules have one id
pub rules_apart : (f starts : List ℕ) (n i j k : ℕ) → i < j → j < n → twice same_id (rules_in f starts n k) ≡ false
    → same_id (rule_in f (get_or starts (k + i) 0)) (rule_in f (get_or starts (k + j) 0)) ≡ false
unfolding rules_in rows_of
rules_apart f starts zero i j k h l d = absurd (omega arith)
rules_apart f starts (suc n) i zero k h l d = absurd (omega arith)
rules_apart f starts (suc n) zero (suc j) k h l d =
    let z : k + 0 ≡ k = omega arith in
    let e : k + suc j ≡ suc k + j = omega arith in
    rw (z, e) (first_alone same_id (rule_in f (get_or starts k 0)) (rules_in f starts n (suc k)) d (rule_there f starts n j (suc k) (omega arith)))
rules_apart f starts (suc n) (suc i) (suc j) k h l d =
    let z : k + suc i ≡ suc k + i = omega arith in
    let e : k + suc j ≡ suc k + j = omega arith in
    rw (z, e) (rules_apart f starts n i j (suc k) (omega arith) (omega arith) (rest_alone same_id (rule_in f (get_or starts k 0)) (rules_in f starts n (suc k)) d))
