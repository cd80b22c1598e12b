-- The frame of a rule, read step by step.
use mathlib.Core.Path.{◌≡◌, refl, sym, ap, ◌∙◌, subst}
use mathlib.Core.Bool.{Bool, true, false, ◌||◌, ◌&&◌}
use mathlib.Core.Option.{none}
use Prim.Native.Nat.{ℕ, ◌+◌, ◌-◌, ◌≤◌, ◌<◌}
use native.Mathlib.Omega.{arith}
use borrow.Author.Tests.{ltb-true, ltb-false}
use lib.Dec.{eqb, ltb}
use lib.ListN.{length, get_or}
use Rattle.text.specs.Test.{◌and◌, ◌or◌, whether◌then◌else◌}
use Rattle.text.specs.String.{Str}
use Rattle.text.specs.Frame.{got, unread, ◌>>=◌, ret, part, string}
use Rattle.text.proofs.Tests.{by, clash, and_left, and_right, or_is}
use Rattle.text.specs.Steps.{end_of}
use Rattle.std.specs.Prelude.{Option, Some, None, Result}
use Rattle.refusal.specs.Refusal.{code as refusal_code}
use Rattle.refusal.specs.declared.Refusal.{Refusal}
use Rattle.text.proofs.Frames.{byte_got, byte_unread, string_ends, string_misses}
use Rattle.path_frame.specs.Walked.{walked}
use Rattle.path_frame.proofs.Walks.{walked_to, walked_not}
use Rattle.path.specs.Path.{Path}
use Rattle.path.specs.Bytes.{path}
use Rattle.path.specs.Walk.{path_refusal}
use Rattle.table.specs.Table.{Rule}
use Rattle.table.specs.Frame.{unknown, code, rule_body, entry_of}
use Rattle.table.specs.Walk.{RuleAt, RuleRead}
use Rattle.table.specs.declared.frame.RuleFrame.{RuleFrame}
use Rattle.table.proofs.Frames.{rule_none, rule_off}

-- ---- a code byte

module _ (a b : ℕ) (f : Str) (at : ℕ) where
  abbrev is_code : Bool
  is_code = eqb (get_or f at 0) a || eqb (get_or f at 0) b

  code_got : at < length f → is_code ≡ true → code a b f at ≡ got (get_or f at 0) (at + 1)
  unfolding code ◌>>=◌ ret whether◌then◌else◌
  code_got h t = let u : (eqb (get_or f at 0) a or eqb (get_or f at 0) b) ≡ true = sym (or_is (eqb (get_or f at 0) a) (eqb (get_or f at 0) b)) ∙ t in rw (byte_got f at h, u)

  code_wrong : at < length f → is_code ≡ false → code a b f at ≡ unread
  unfolding code ◌>>=◌ ret whether◌then◌else◌ unknown
  code_wrong h t = let u : (eqb (get_or f at 0) a or eqb (get_or f at 0) b) ≡ false = sym (or_is (eqb (get_or f at 0) a) (eqb (get_or f at 0) b)) ∙ t in rw (byte_got f at h, u)

  code_none : length f ≤ at → code a b f at ≡ unread
  unfolding code ◌>>=◌
  code_none h = rw (byte_unread f at h)

  code_told : {X : Type 0} → (code a b f at ≡ unread → X) → (at < length f → code a b f at ≡ got (get_or f at 0) (at + 1) → X) → X
  code_told n y =
      by (ltb at (length f))
      (λ u. let l : at < length f = ltb-true _ _ u in by is_code (λ t. y l (code_got l t)) (λ t. n (code_wrong l t)))
      (λ u. n (code_none (ltb-false _ _ u)))

-- ---- the three codes

module _ (f : Str) where
  first_unread : code 0 1 f 1 ≡ unread → rule_body f 1 ≡ unread
  unfolding rule_body ◌>>=◌
  first_unread e = rw e

  module _ (a : ℕ) (x : code 0 1 f 1 ≡ got a 2) where
    second_unread : code 1 2 f 2 ≡ unread → rule_body f 1 ≡ unread
    unfolding rule_body ◌>>=◌
    second_unread e = rw (x, e)

    third_unread : (b : ℕ) → code 1 2 f 2 ≡ got b 3 → code 0 1 f 3 ≡ unread → rule_body f 1 ≡ unread
    unfolding rule_body ◌>>=◌
    third_unread b y e = rw (x, y, e)

  -- fewer than four bytes
  pub codes_short : length f < 4 → rule_body f 1 ≡ unread
  codes_short h =
      code_told 0 1 f 1 first_unread
      (λ l x. code_told 1 2 f 2 (second_unread _ x)
      (λ m y. code_told 0 1 f 3 (third_unread _ x _ y)
      (λ n z. absurd (omega arith))))

  abbrev known : Bool
  known = (is_code 0 1 f 1 && is_code 1 2 f 2) && is_code 0 1 f 3

  module _ (h : 4 ≤ length f) where
    pub codes_wrong : known ≡ false → rule_body f 1 ≡ unread
    codes_wrong e =
        by (is_code 0 1 f 1)
        (λ s.
        let x = code_got 0 1 f 1 (omega arith) s in
        by (is_code 1 2 f 2)
        (λ t.
        let y = code_got 1 2 f 2 (omega arith) t in
        by (is_code 0 1 f 3)
        (λ u. clash (rw (s, t, u)) e)
        (λ u. third_unread _ x _ y (code_wrong 0 1 f 3 (omega arith) u)))
        (λ t. second_unread _ x (code_wrong 1 2 f 2 (omega arith) t)))
        (λ s. first_unread (code_wrong 0 1 f 1 (omega arith) s))

    module _ (k : known ≡ true) where
      x : code 0 1 f 1 ≡ got (get_or f 1 0) 2
      x = code_got 0 1 f 1 (omega arith) (and_left (is_code 0 1 f 1) _ (and_left (is_code 0 1 f 1 && is_code 1 2 f 2) _ k))

      y : code 1 2 f 2 ≡ got (get_or f 2 0) 3
      y = code_got 1 2 f 2 (omega arith) (and_right (is_code 0 1 f 1) _ (and_left (is_code 0 1 f 1 && is_code 1 2 f 2) _ k))

      z : code 0 1 f 3 ≡ got (get_or f 3 0) 4
      z = code_got 0 1 f 3 (omega arith) (and_right (is_code 0 1 f 1 && is_code 1 2 f 2) _ k)

      pub subject_unread : string f 4 ≡ unread → rule_body f 1 ≡ unread
      unfolding rule_body ◌>>=◌
      subject_unread e = rw (x, y, z, e)

      module _ (n : Str) (s : ℕ) (u : string f 4 ≡ got n s) where
        pub id_unread : string f s ≡ unread → rule_body f 1 ≡ unread
        unfolding rule_body ◌>>=◌
        id_unread e = rw (x, y, z, u, e)

        module _ (d : Str) (i : ℕ) (v : string f s ≡ got d i) where
          pub origin_unread : string f i ≡ unread → rule_body f 1 ≡ unread
          unfolding rule_body ◌>>=◌
          origin_unread e = rw (x, y, z, u, v, e)

          module _ (g : Str) (o : ℕ) (w : string f i ≡ got g o) where
            pub path_unread : path f o ≡ unread → rule_body f 1 ≡ unread
            unfolding rule_body ◌>>=◌
            path_unread e = rw (x, y, z, u, v, w, e)

            pub rule_got : (p : Path) (t : ℕ) → path f o ≡ got p t
                → rule_body f 1 ≡ got (record { permit = eqb (get_or f 1 0) 1; mode = get_or f 2 0; by_group = eqb (get_or f 3 0) 1; subject = n; id = d; origin = g; path = p }) t
            unfolding rule_body ◌>>=◌ ret
            rule_got p t e = rw (x, y, z, u, v, w, e)

-- ---- each way out of read_rule

module _ (f : Str) (pre : (0 < length f) × (get_or f 0 0 ≡ 4)) where
  unread_is : rule_body f 1 ≡ unread → RuleRead f None
  unfolding RuleRead
  unread_is e = rule_none f pre.0 pre.1 e

  pub read_short : length f < 4 → RuleRead f None
  read_short h = unread_is (codes_short f h)

  module _ (h : 4 ≤ length f) where
    pub read_wrong : known f ≡ false → RuleRead f None
    read_wrong k = unread_is (codes_wrong f h k)

    module _ (k : known f ≡ true) (q : Option ℕ) (a : q ≡ end_of (string f 4)) where
      pub read_subjectless : q ≡ None → RuleRead f None
      read_subjectless e = unread_is (subject_unread f h k (string_misses f 4 q a e))

      module _ (s : ℕ) (b : q ≡ Some s) (u : Option ℕ) (c : u ≡ end_of (string f s)) where
        pub read_idless : u ≡ None → RuleRead f None
        read_idless e = unread_is (id_unread f h k _ s (string_ends f 4 q a s b).0 (string_misses f s u c e))

        module _ (i : ℕ) (d : u ≡ Some i) (v : Option ℕ) (g : v ≡ end_of (string f i)) where
          pub read_originless : v ≡ None → RuleRead f None
          read_originless e = unread_is (origin_unread f h k _ s (string_ends f 4 q a s b).0 _ i (string_ends f s u c i d).0 (string_misses f i v g e))

          module _ (o : ℕ) (j : v ≡ Some o) where
            pub read_pathless : unread ≡ walked path_refusal (path f o) → RuleRead f None
            read_pathless e =
                unread_is (path_unread f h k _ s (string_ends f 4 q a s b).0 _ i (string_ends f s u c i d).0 _ o (string_ends f i v g o j).0 (walked_not path_refusal (path f o) e))

            module _ (x : Result (Unit {0}) Refusal) (t : ℕ) (e : got (refusal_code x) t ≡ walked path_refusal (path f o)) where
              abbrev rule_of : Path → Rule
              rule_of q = record { permit = eqb (get_or f 1 0) 1; mode = get_or f 2 0; by_group = eqb (get_or f 3 0) 1; subject = part f 5 s; id = part f (s + 1) i; origin = part f (i + 1) o; path = q }

              got_it : (q : Path) × (rule_body f 1 ≡ got (rule_of q) t) × (refusal_code x ≡ path_refusal q)
              got_it =
                  let z = walked_to path_refusal (path f o) (refusal_code x) t e in
                  (z.0, rule_got f h k _ s (string_ends f 4 q a s b).0 _ i (string_ends f s u c i d).0 _ o (string_ends f i v g o j).0 z.0 t z.1, z.2)

              pub read_off : (t ≡ length f → ⊥) → RuleRead f None
              unfolding RuleRead
              read_off n = rule_off f pre.0 pre.1 _ t got_it.1 n

              pub read_rule : t ≡ length f → RuleRead f (Some (record { subject = s; id = i; origin = o; fault = x }))
              unfolding RuleRead
              read_rule n =
                  let z = got_it in
                  record {
                    rule = rule_of z.0;
                    body = z.1 ∙ ap (λ (j : ℕ). got (rule_of z.0) j) n;
                    subject = refl;
                    id = refl;
                    stands = (string_ends f s u c i d).0;
                    origin = refl;
                    by_group = refl;
                    path = z.2;
                    long = ((string_ends f 4 q a s b).1, (string_ends f s u c i d).1, (string_ends f i v g o j).1, (string_ends f i v g o j).2);
                  }

-- what an answer of read_rule tells
module _ (f : Str) (r : Option RuleFrame) (h : RuleRead f r) where
  pub rule_told : (s : RuleFrame) → r ≡ Some s → RuleAt f s.subject s.id s.origin (refusal_code s.fault)
  unfolding RuleRead
  rule_told s e = subst (RuleRead f) e h

  pub rule_untold : r ≡ None → entry_of f ≡ none
  unfolding RuleRead
  rule_untold e = subst (RuleRead f) e h
