-- The recogniser says yes exactly where the parser answers.
use mathlib.Core.Path.{◌≡◌, refl, sym, ap, ◌∙◌, subst}
use mathlib.Core.Bool.{true, false}
use mathlib.Core.List.{List, [], ◌∷◌}
use mathlib.Core.Option.{Option, none, some}
use Prim.Native.Nat.{ℕ, ◌≤◌}
use native.Mathlib.Omega.{arith}
use lib.ListN.{length, drop}
use lib.Dec.{eqb}
use borrow.Author.Tests.{eq-eqb, ne_eqb}
use Rattle.limits.specs.Limits.{max_depth}
use Rattle.std.specs.Prelude.{Option as Place, Some, None}
use Rattle.json_text.specs.Scan.{white_at}
use Rattle.json_text.specs.Value.{value_at, reaches_end, is_json}
use Rattle.json_grammar.specs.Json.{Json}
use Rattle.json_grammar.specs.Grammar.{white}
use Rattle.json_grammar.specs.Parser.{◌>>=◌, skip, read_value, at_end as at_last, parse}
use Rattle.text.proofs.Tests.{clash}
use Rattle.json_grammar.proofs.Basics.{binds, binds_none}
use Rattle.json_text.specs.Meaning.{Same, succeeds}
use Rattle.json_text.proofs.Places.{inside, outside, ws_drop, ws_within}
use Rattle.json_text.proofs.Values.{value_same}
use Rattle.json_text.proofs.Strings.{string_same}
use Rattle.json_text.proofs.Scalars.{scalar_same}

ends : (s : List ℕ) (e : ℕ) → e ≤ length s → (j : Json) (t : List ℕ) → drop (white_at s e) s ≡ t → eqb (white_at s e) (length s) ≡ succeeds (at_last j t)
unfolding at_last succeeds
ends s e l j [] f = let a = outside s (white_at s e) f in let b = ws_within s e l in eq-eqb (white_at s e) (length s) (omega arith)
ends s e l j (c ∷ t) f = let a = inside s (white_at s e) c t f in ne_eqb (white_at s e) (length s) (λ z. omega arith)

answered_none : succeeds {A = Json} none ≡ false
unfolding succeeds
answered_none = refl

whole : (s : List ℕ) (n : Place ℕ) (o : Option (Json × List ℕ)) → Same (skip white) s n o → reaches_end s n ≡ succeeds (o >>= λ r. at_last r.0 r.1)
whole s (Some e) o r = rw (binds (λ r. at_last r.0 r.1) r.2) (ends s e r.1 r.0 _ (ws_drop s e r.1))
whole s None o r = sym (ap succeeds (binds_none (λ r. at_last r.0 r.1) r) ∙ answered_none)

pub recognises : (s : List ℕ) → is_json s ≡ succeeds (parse s)
unfolding is_json parse
recognises s =
    whole s (value_at max_depth s (white_at s 0)) (read_value max_depth (skip white s))
    (subst (λ (y : List ℕ). Same (skip white) s (value_at max_depth s (white_at s 0)) (read_value max_depth y)) (ws_drop s 0 (omega arith)) (value_same s (string_same s) (scalar_same s) max_depth (white_at s 0) (ws_within s 0 (omega arith))))

-- what was answered
pub there : {A : Type 0} (o : Option A) → succeeds o ≡ true → (a : A) × (o ≡ some a)
unfolding succeeds
there none e = clash e refl
there (some a) e = (a, refl)
