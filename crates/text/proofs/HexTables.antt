-- The table of hex digits, filled place by place.
use Rattle.std.proofs.Common.{◌≡◌, ℕ, ◌+◌, ◌<◌, ◌≤◌, eqb, List, length, get_or, set, replicate, ◌∙◌, arith, length-set, get_or-set_other, get_or-set_same, eqb-true}
use borrow.Author.Tests.{eqb-false}
use lib.ListN.{length-replicate, get_or-replicate}
use Rattle.text.specs.Byte.{hex_value}
use Rattle.text.specs.HexTable.{HexTable}
use Rattle.text.proofs.Tests.{by}
use Rattle.text.proofs.Bytes.{within_false}

-- every place has its value, but for the digits from d on and the letters from l on
pub record Filled (t : List ℕ) (d l : ℕ) : Type 0 where
  pub long : length t ≡ 256
  pub value : (b : ℕ) → b < 256 → (d ≤ b → b ≤ 57 → ⊥) → (l ≤ b → b ≤ 102 → ⊥) → get_or t b 0 ≡ hex_value b

pub table_start : Filled (replicate 256 16) 48 97
table_start = record {
  long = length-replicate {A = ℕ} 256 16;
  value = λ b h p q. get_or-replicate 256 b 16 0 h ∙ rw (within_false 48 57 b p, within_false 97 102 b q);
}

module _ (t : List ℕ) (d l v : ℕ) (g : Filled t d l) where
  -- stored at its place, a value changes no other
  value_set : (p : ℕ) → p < 256 → v ≡ hex_value p → (b : ℕ) → ((b ≡ p → ⊥) → get_or t b 0 ≡ hex_value b) → get_or (set t p v) b 0 ≡ hex_value b
  value_set p h k b o =
      by (eqb b p)
      (λ q. let z : b ≡ p = eqb-true b p q in rw z (get_or-set_same t p v 0 (omega (arith, g.long)) ∙ k))
      (λ q. let z : b ≡ p → ⊥ = eqb-false b p q in get_or-set_other t p b v 0 z ∙ o z)

  pub table_digit : d ≤ 57 → v ≡ hex_value d → Filled (set t d v) (d + 1) l
  table_digit h k = record {
    long = length-set t d v ∙ g.long;
    value = λ b i p q. value_set d (omega arith) k b (λ z. g.value b i (λ x y. p (omega arith) y) q);
  }

  pub table_letter : l ≤ 102 → v ≡ hex_value l → Filled (set t l v) d (l + 1)
  table_letter h k = record {
    long = length-set t l v ∙ g.long;
    value = λ b i p q. value_set l (omega arith) k b (λ z. g.value b i p (λ x y. q (omega arith) y));
  }

pub table_digits : (t : List ℕ) (d l : ℕ) → 57 < d → Filled t d l → Filled t 58 l
table_digits t d l h g = record { long = g.long; value = λ b i p q. g.value b i (λ x y. omega arith) q }

pub table_end : (t : List ℕ) (l : ℕ) → 102 < l → Filled t 58 l → HexTable t
table_end t l h g = record { value = λ b i. g.value b i (λ x y. omega arith) (λ x y. omega arith) }
