-- The parser reads exactly the JSON texts in our bytes and depth; each stands for one tree.
use mathlib.Core.Path.{◌≡◌, refl, sym, ap, ◌∙◌, subst₂}
use mathlib.Core.Bool.{false}
use mathlib.Core.List.{List, [], ◌∷◌, ◌++◌, append-nil}
use mathlib.Core.Option.{some}
use Prim.Native.Nat.{ℕ}
use Rattle.limits.specs.Limits.{max_depth}
use Rattle.json_grammar.specs.Json.{Json}
use Rattle.json_grammar.specs.Grammar.{white, Ws, json}
use Rattle.json_grammar.specs.JsonText.{JsonText}
use Rattle.json_grammar.specs.Parser.{skip, read_value, at_end, parse}
use Rattle.json_grammar.proofs.Basics.{empty_handed, bound, binds, starts, skip_sound, skip_star}
use Rattle.json_grammar.proofs.Numbers.{numeric}
use Rattle.json_grammar.proofs.Scalars.{ws_stops}
use Rattle.json_grammar.proofs.Values.{value_read}
use Rattle.json_grammar.proofs.OurTexts.{OurText, text_out, text_in}

ended : (j k : Json) (t : List ℕ) → at_end j t ≡ some k → (t ≡ []) × (j ≡ k)
unfolding at_end
ended j k [] e = (refl, cc)
ended j k (c ∷ t) e = empty_handed e

glue_text : (s u k v w t : List ℕ) → s ≡ u ++ k → k ≡ v ++ (w ++ t) → t ≡ [] → u ++ (v ++ w) ≡ s
glue_text s u k v w t p q r = let o : w ++ t ≡ w = ap (λ (x : List ℕ). w ++ x) r ∙ append-nil w in cc

read_sound : (s : List ℕ) (j : Json) → parse s ≡ some j → OurText s j
unfolding parse
read_sound s j e =
    let b = bound (read_value max_depth (skip white s)) (λ r. at_end r.0 r.1) e in
    let u = skip_sound white s in
    let x = (value_read max_depth).sound (skip white s) b.0 b.1 in
    let f = ended b.0.0 j b.0.1 b.2 in
    subst₂ OurText (glue_text s u.0 (skip white s) x.0 x.1 b.0.1 u.2 x.4 f.0) f.1 (json u.1 x.2 x.3)

ws_gone : {v : List ℕ} → Ws v → skip white v ≡ []
unfolding skip
ws_gone {v} m = ap (skip white) (sym (append-nil v)) ∙ skip_star white m []

ws_free : {v : List ℕ} → Ws v → starts numeric v ≡ false
ws_free {v} m = ap (starts numeric) (sym (append-nil v)) ∙ ws_stops m [] refl

read_complete : {s : List ℕ} {j : Json} → OurText s j → parse s ≡ some j
unfolding parse at_end
read_complete (json {u} {s} {v} {j} m x n) =
    rw (skip_star white m (s ++ v)) (binds (λ r. at_end r.0 r.1) ((value_read max_depth).complete s j x v (ws_free n)) ∙ rw (ws_gone n))

-- what the parser reads is a JSON text, and each JSON text is read
pub parse_sound : (s : List ℕ) (j : Json) → parse s ≡ some j → JsonText s j
parse_sound s j e = text_out (read_sound s j e)

pub parse_complete : {s : List ℕ} {j : Json} → JsonText s j → parse s ≡ some j
parse_complete t = read_complete (text_in t)

-- a text stands for one tree at most
pub unambiguous : {s : List ℕ} {j k : Json} → JsonText s j → JsonText s k → j ≡ k
unambiguous p q = let a = parse_complete p in let b = parse_complete q in cc
