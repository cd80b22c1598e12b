-- The values of one header: gathered line by line, from the last to the first, and stored each after a comma.
use mathlib.Core.Path.{◌≡◌, refl, sym, ap, ◌∙◌, subst}
use mathlib.Core.Bool.{true, false}
use mathlib.Core.List.{List, [], ◌∷◌, ◌++◌, append_assoc}
use mathlib.Core.Option.{Option, some}
use Prim.Native.Nat.{ℕ, ◌+◌, ◌-◌, ◌≤◌}
use native.Mathlib.Omega.{arith}
use lib.ListN.{length, take, drop, set, length-drop}
use lib.Seq.{take_all}
use borrow.Author.Tests.{eq-eqb}
use Rattle.text.specs.Test.{whether◌then◌else◌, only, absent}
use Rattle.text.specs.String.{Str, same}
use Rattle.text.specs.Frame.{part}
use Rattle.text.specs.Fill.{put}
use Rattle.text.specs.Steps.{Wrote}
use Rattle.text.proofs.Tests.{by, clash, same→≡}
use Rattle.text.proofs.Filling.{wrote_before, wrote_nothing, put_length}
use Rattle.rpc.specs.Request.{Line, cut_at, line_of, joined, values_of}
use Rattle.rpc_request.specs.Steps.{Cut, commaed, one_line, line_value}
use Rattle.text_hash.specs.declared.Seed.{Seed}
use Rattle.rpc_request.specs.Index.{bucket_of, in_bucket, onto}
use Rattle.rpc_request.proofs.Lines.{line_there, line_whole}

-- ---- one line more

module _ (key : Str) (x : Line) (l : List Line) where
  values_hit : same x.name key ≡ true → values_of key (x ∷ l) ≡ x.value ∷ values_of key l
  unfolding values_of only whether◌then◌else◌
  values_hit h = rw h

  values_miss : same x.name key ≡ false → values_of key (x ∷ l) ≡ values_of key l
  unfolding values_of only whether◌then◌else◌
  values_miss h = rw h

values_nil : (key : Str) → values_of key [] ≡ []
unfolding values_of only
values_nil key = refl

module _ (key : Str) (x : Line) where
  alone_hit : same x.name key ≡ true → values_of key (x ∷ []) ≡ x.value ∷ []
  alone_hit t = values_hit key x [] t ∙ ap (λ (v : List Str). x.value ∷ v) (values_nil key)

  alone_miss : same x.name key ≡ false → values_of key (x ∷ []) ≡ []
  alone_miss t = values_miss key x [] t ∙ values_nil key

  one_more : (l : List Line) → values_of key (x ∷ l) ≡ values_of key (x ∷ []) ++ values_of key l
  one_more l = by (same x.name key) (λ t. values_hit key x l t ∙ ap (λ (v : List Str). v ++ values_of key l) (sym (alone_hit t))) (λ t. values_miss key x l t ∙ ap (λ (v : List Str). v ++ values_of key l) (sym (alone_miss t)))

-- ---- the last line first

-- the values of the lines l, the last first, in front of r
unfoldable pub gather : Str → List Line → List Str → List Str
gather key [] r = r
gather key (x ∷ l) r = gather key l (values_of key (x ∷ []) ++ r)

pub gather_nil : (key : Str) (r : List Str) → gather key [] r ≡ r
unfolding gather
gather_nil key r = refl

pub gather_cons : (key : Str) (x : Line) (l : List Line) (r : List Str) → gather key (x ∷ l) r ≡ gather key l (values_of key (x ∷ []) ++ r)
unfolding gather
gather_cons key x l r = refl

gathered_onto : (key : Str) (l r : List Line) → values_of key (onto l r) ≡ gather key l (values_of key r)
unfolding onto gather
gathered_onto key [] r = refl
gathered_onto key (x ∷ l) r = gathered_onto key l (x ∷ r) ∙ ap (gather key l) (one_more key x r)

pub gathered : (key : Str) (l : List Line) → values_of key (onto l []) ≡ gather key l []
gathered key l = gathered_onto key l [] ∙ ap (gather key l) (values_nil key)

-- a line of another bucket has another name
module _ (seed : Seed) (key : Str) (b : ℕ) (q : bucket_of seed key ≡ b) where
  other_bucket : (x : Line) → in_bucket seed b x ≡ false → values_of key (x ∷ []) ≡ []
  unfolding in_bucket
  other_bucket x f = by (same x.name key) (λ t. clash (eq-eqb (bucket_of seed x.name) b (ap (bucket_of seed) (same→≡ x.name key t) ∙ q)) f) (λ t. alone_miss key x t)

  pub one_bucket : (l : List Line) (r : List Str) → gather key l r ≡ gather key (only (in_bucket seed b) l) r
  unfolding gather only whether◌then◌else◌
  one_bucket [] r = refl
  one_bucket (x ∷ l) r =
      by (in_bucket seed b x)
      (λ t. rw t (one_bucket l (values_of key (x ∷ []) ++ r)))
      (λ t. rw t (ap (λ (v : List Str). gather key l (v ++ r)) (other_bucket x t) ∙ one_bucket l r))

-- ---- commas

commaed_cons : (v : Str) (l : List Str) → commaed (v ∷ l) ≡ 44 ∷ (v ++ commaed l)
unfolding commaed
commaed_cons v l = refl

pub commaed_nil : commaed [] ≡ []
unfolding commaed
commaed_nil = refl

append_nil : (s : Str) → s ++ [] ≡ s
append_nil [] = refl
append_nil (c ∷ s) = ap (λ (t : Str). c ∷ t) (append_nil s)

pub commaed_append : (a b : List Str) → commaed (a ++ b) ≡ commaed a ++ commaed b
unfolding commaed
commaed_append [] b = refl
commaed_append (v ∷ a) b = ap (λ (t : Str). 44 ∷ t) (ap (λ (t : Str). v ++ t) (commaed_append a b) ∙ sym (append_assoc v (commaed a) (commaed b)))

joined_commaed : (v : Str) (l : List Str) → joined (v ∷ l) ≡ v ++ commaed l
unfolding joined commaed
joined_commaed v [] = sym (append_nil v)
joined_commaed v (w ∷ l) = ap (λ (t : Str). v ++ (44 ∷ t)) (joined_commaed w l)

pub joined_is : (l : List Str) → joined l ≡ drop 1 (commaed l)
unfolding joined commaed
joined_is [] = refl
joined_is (v ∷ l) = joined_commaed v l

-- ---- join_line

pub line_value_lem : (key l : Str) (x : Line) → line_of (cut_at 58 l) ≡ some x → line_value key l ≡ commaed (values_of key (x ∷ []))
unfolding line_value one_line
line_value_lem key l x q = ap (λ (o : Option Line). commaed (values_of key (one_line o))) q

some_is : {a b : Line} → some a ≡ some b → a ≡ b
some_is e = cc

-- next_bucket
pub line_bucket : (seed : Seed) (l : Str) (c : ℕ) → Cut 58 l 0 c → absent (line_of (cut_at 58 l)) ≡ false → (r : ℕ) → r ≡ bucket_of seed (part l 0 c) → (x : Line) → line_of (cut_at 58 l) ≡ some x → r ≡ bucket_of seed x.name
line_bucket seed l c k g r e x q = e ∙ ap (λ (y : Line). bucket_of seed y.name) (some_is (sym (line_whole l c k g) ∙ q))

module _ (l : Str) (c : ℕ) (k : Cut 58 l 0 c) (g : absent (line_of (cut_at 58 l)) ≡ false) (key out : Str) (at : ℕ) where
  line_other : same (part l 0 c) key ≡ false → line_value key l ≡ []
  line_other e = line_value_lem key l _ (line_whole l c k g) ∙ ap commaed (alone_miss key _ e) ∙ commaed_nil

  line_named : same (part l 0 c) key ≡ true → line_value key l ≡ 44 ∷ drop (c + 1) l
  line_named e = line_value_lem key l _ (line_whole l c k g) ∙ ap commaed (alone_hit key _ e) ∙ commaed_cons _ [] ∙ ap (λ (v : Str). 44 ∷ (drop (c + 1) l ++ v)) commaed_nil ∙ ap (λ (v : Str). 44 ∷ v) (append_nil _)

  pub line_passed : same (part l 0 c) key ≡ false → Wrote out at (line_value key l) out at × (at ≤ at + length l)
  line_passed e = (subst (λ (v : Str). Wrote out at v out at) (sym (line_other e)) (wrote_nothing out at), omega arith)

  -- the value was stored so that it ends at `at`, and then a comma in front of it
  module _ (from start comma : ℕ) (f : from ≡ c + 1) (s : start ≡ at - (length l - from)) (o : comma ≡ start - 1) (low : length l ≤ at) (high : at ≤ length out) (out₁ : Str) (p : out₁ ≡ put out start (take (length l - from) (drop from l))) where
    rest : take (length l - from) (drop from l) ≡ drop (c + 1) l
    rest = take_all (length l - from) (drop from l) (omega (arith, length-drop from l)) ∙ ap (λ (n : ℕ). drop n l) f

    sizes : (length (drop (c + 1) l) + c + 1 ≡ length l) × (comma + 1 ≡ start) × (start + length (drop (c + 1) l) ≡ at)
    sizes = let h = line_there l c k g in let d = length-drop (c + 1) l in (omega arith, omega arith, omega arith)

    put_there : out₁ ≡ put out (comma + 1) (drop (c + 1) l)
    put_there = let z = sizes in p ∙ ap (put out start) rest ∙ ap (λ (n : ℕ). put out n (drop (c + 1) l)) (sym z.1)

    pub line_kept : length out₁ ≡ length out
    line_kept = let z = sizes in ap length put_there ∙ put_length out (comma + 1) (drop (c + 1) l) (omega (arith, z))

    pub line_added : same (part l 0 c) key ≡ true → Wrote out comma (line_value key l) (set out₁ comma 44) at × (at ≤ comma + length l)
    line_added e =
        let z = sizes in
        (subst (λ (v : Str). Wrote out comma v (set out₁ comma 44) at) (sym (line_named e)) (wrote_before out comma 44 (drop (c + 1) l) out₁ at (omega (arith, z)) (record { ends = omega (arith, z); same = put_there })), omega (arith, z))
