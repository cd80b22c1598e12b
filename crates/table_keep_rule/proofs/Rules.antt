-- Each way out of take_rule: its answer is the frame's number, and what is kept.
use mathlib.Core.Path.{◌≡◌, refl, sym, ap, ap₂, ◌∙◌, subst}
use mathlib.Core.Bool.{Bool, true, false, not, ◌||◌, ◌&&◌}
use mathlib.Core.List.{List, [], ◌∷◌, ◌++◌}
use mathlib.Core.Option.{some}
use Prim.Native.Nat.{ℕ, suc, ◌+◌, ◌%◌, ◌≤◌, ◌<◌}
use native.Mathlib.Omega.{arith}
use borrow.Author.Tests.{leb-false}
use lib.Dec.{eqb, ltb, leb}
use lib.ListN.{length, get_or, set}
use Rattle.limits.specs.Limits.{max_rules, max_string, max_short_string}
use Rattle.limits.specs.Sizes.{max_table_bytes}
use Rattle.text.specs.Test.{◌and◌, ◌or◌, whether◌then◌else◌, any, all}
use Rattle.text.specs.Byte.{is_print}
use Rattle.text.specs.String.{Str, same}
use Rattle.text.specs.Refusal.{clear}
use Rattle.text.specs.Frame.{part}
use Rattle.text.proofs.Tests.{clash, or_false_r, or_is}
use Rattle.path.specs.Refusal.{unsized, over_limit, key_twice}
use Rattle.text_sorted.specs.Spans.{span_of}
use Rattle.text_sorted.specs.declared.Found.{Found}
use Rattle.text_set.specs.Set.{Holds, Met, added}
use Rattle.text_set.proofs.Sets.{holds_grows, added_long}
use Rattle.table_rows.specs.Strings.{strings_in, place, hash_of}
use Rattle.table_rows.proofs.Grow.{strings_length, place_at}
use Rattle.table.specs.Table.{Rule}
use Rattle.table.specs.Layout.{kind_rule, frame_subject_kind, frame_subject_name}
use Rattle.table.specs.Frame.{rule, entry_of}
use Rattle.table.specs.Refusal.{Earlier, reads, framed, out_of_order, kind_of, unsized_short, past_limit, strays, stray, same_id, repeats, listed, unlisted, refusal}
use Rattle.table.specs.Walk.{merged, unsized_by, RuleAt, RuleRead}
use Rattle.table.specs.declared.frame.RuleFrame.{RuleFrame}
use Rattle.std.specs.Prelude.{Option, Some, None}
use Rattle.table.proofs.Numbers.{long_is, short_is, stray_is, number_four, number_rule, merged_clear}
use Rattle.table.proofs.Frames.{rule_read}
use Rattle.table.proofs.Rules.{rule_untold}
use Rattle.table.proofs.Versions.{refused_unread, refused_read}
use Rattle.table_keep_rule.specs.Kept.{ids_of, id_places, first_id_place, id_keys, id_place, Ids, RuleReady, RuleKept}
use Rattle.table_keep.proofs.Names.{new_span, new_inside}
use Rattle.table_keep.proofs.Members.{unlisted_is, listed_is}

-- ---- the holder

holder_is : (bg : Bool) (name : Str) (groups : List Str) (g count : ℕ) → g ≡ (whether bg then place name groups else 0) → count ≡ length groups → (bg && eqb g count) ≡ (bg and not (listed groups name))
unfolding whether◌then◌else◌ ◌and◌
holder_is true name groups g count e l = unlisted_is name groups g count e l
holder_is false name groups g count e l = refl

held_is : (bg : Bool) (name : Str) (groups : List Str) (g count : ℕ) → g ≡ (whether bg then place name groups else 0) → count ≡ length groups → (bg && eqb g count) ≡ false
    → bg ≡ true → (g < length groups) × (get_or groups g [] ≡ name)
unfolding whether◌then◌else◌
held_is true name groups g count e l n t = let h : place name groups < length groups = listed_is name groups g count e l n in rw e (h, place_at name groups h)
held_is false name groups g count e l n t = clash t refl

-- the groups are those of the same bytes
pub holder_same : (bg : Bool) (name : Str) (old old' starts : List ℕ) (n g : ℕ) → old ≡ old' → g ≡ (whether bg then place name (strings_in old' starts n 0) else 0)
    → g ≡ (whether bg then place name (strings_in old starts n 0) else 0)
holder_same bg name old old' starts n g e h = rw e h

-- ---- ids

pub ids_length : (rs : List Rule) → length (ids_of rs) ≡ length rs
unfolding ids_of
ids_length [] = refl
ids_length (r ∷ rs) = ap suc (ids_length rs)

any_ids : (r : Rule) (rs : List Rule) → any (same r.id) (ids_of rs) ≡ any (same_id r) rs
unfolding any ids_of same_id
any_ids r [] = refl
any_ids r (s ∷ rs) = ap (λ (t : Bool). same r.id s.id or t) (any_ids r rs)

pub ids_snoc : (rs : List Rule) (r : Rule) → ids_of (rs ++ (r ∷ [])) ≡ ids_of rs ++ (r.id ∷ [])
unfolding ids_of
ids_snoc [] r = refl
ids_snoc (x ∷ rs) r = ap (λ (l : List Str). x.id ∷ l) (ids_snoc rs r)

-- their places

pub id_far : (y : Str) → (max_rules < id_place y) × (id_place y < id_keys)
unfolding id_place
id_far y = (omega arith, omega arith)

id_spot : (y : Str) (h : ℕ) → h ≡ hash_of y → first_id_place + h % id_places ≡ id_place y
unfolding id_place
id_spot y h e = rw e

-- ---- the parts of a rule's number

abbrev five : Rule → ℕ → Bool
five r k = (unsized r.subject or unsized_short r.id) or (ltb max_short_string (length r.origin) or leb max_rules k)

abbrev six : Rule → Bool
six r = stray r.subject or (stray r.id or stray r.origin)

module _ (r : Rule) (subject id origin : Str) (s : r.subject ≡ subject) (i : r.id ≡ id) (o : r.origin ≡ origin) where
  five_is : (u v : Bool) (k : ℕ) → u ≡ unsized_by max_string (length subject) → v ≡ unsized_by max_short_string (length id)
      → ((u || v) || (ltb max_short_string (length origin) || leb max_rules k)) ≡ five r k
  five_is u v k uu vv =
      rw (
        s,
        i,
        o,
        uu,
        vv,
        long_is subject (length subject) refl,
        short_is id (length id) refl,
        or_is (unsized subject) (unsized_short id),
        or_is (ltb max_short_string (length origin)) (leb max_rules k),
      )
      (or_is (unsized subject or unsized_short id) (ltb max_short_string (length origin) or leb max_rules k))

  six_is : (x y z : Bool) → x ≡ all is_print subject → y ≡ all is_print id → z ≡ all is_print origin → (not x || (not y || not z)) ≡ six r
  six_is x y z xx yy zz =
      rw (s, i, o, stray_is subject x xx, stray_is id y yy, stray_is origin z zz, or_is (stray id) (stray origin)) (or_is (stray subject) (stray id or stray origin))

nine_is : (r : Rule) (bg : Bool) (name : Str) (groups l : List Str) (g count : ℕ) → r.by_group ≡ bg → r.subject ≡ name → l ≡ groups
    → g ≡ (whether bg then place name groups else 0) → count ≡ length groups → (bg && eqb g count) ≡ (r.by_group and not (listed l r.subject))
nine_is r bg name groups l g count x y z e c = rw (x, y, z) (holder_is bg name groups g count e c)

-- ---- the frame does not read

pub rule_short : (f : Str) (r : Option RuleFrame) → RuleRead f r → (b : Earlier) → r ≡ None → 3 ≡ refusal b (framed (entry_of f))
rule_short f r read b e = refused_unread b f (rule_untold f r read e)

-- ---- the frame reads

-- what is known then: where its subject, id and origin end, and the number of its path
pub record Read : Type 0 where
  pub old : List ℕ
  pub f : List ℕ
  pub starts : List ℕ
  pub count : ℕ
  pub keys : List ℕ
  pub n : ℕ
  pub ready : RuleReady old f keys n
  pub room : length old + length f ≤ max_table_bytes
  pub subject_end : ℕ
  pub id_end : ℕ
  pub origin_end : ℕ
  pub path_refusal_lem : ℕ
  pub at : RuleAt f subject_end id_end origin_end path_refusal_lem

abbrev pub told_so_far : {old f keys : List ℕ} {n : ℕ} → RuleReady old f keys n
    → length old + length f ≤ max_table_bytes → (starts : List ℕ) (count : ℕ) → {subject_end id_end origin_end path_refusal_lem : ℕ} → RuleAt f subject_end id_end origin_end path_refusal_lem → Read
told_so_far {old} {f} {keys} {n} ready room starts count {subject_end} {id_end} {origin_end} {path_refusal_lem} at = record {
  old = old;
  f = f;
  starts = starts;
  count = count;
  keys = keys;
  n = n;
  ready = ready;
  room = room;
  subject_end = subject_end;
  id_end = id_end;
  origin_end = origin_end;
  path_refusal_lem = path_refusal_lem;
  at = at;
}

module _ (R : Read) where
  abbrev subject : Str
  subject = part R.f frame_subject_name R.subject_end

  abbrev id : Str
  id = part R.f (R.subject_end + 1) R.id_end

  abbrev origin : Str
  origin = part R.f (R.id_end + 1) R.origin_end

  abbrev by_group : Bool
  by_group = eqb (get_or R.f frame_subject_kind 0) 1

  abbrev groups : List Str
  groups = strings_in R.old R.starts R.count 0

  reading : entry_of R.f ≡ some (rule R.at.rule)
  reading = let kind = R.ready.kind in rule_read R.f kind.0 kind.1 R.at.rule (length R.f) R.at.body refl

  order : (b : Earlier) (last : ℕ) (o : Bool) → b.kind ≡ last → out_of_order last kind_rule ≡ o → out_of_order b.kind kind_rule ≡ o
  order b last o w q = rw w q

  pub rule_four : {last : ℕ} → out_of_order last kind_rule ≡ true → (b : Earlier) → b.kind ≡ last → 4 ≡ refusal b (framed (entry_of R.f))
  unfolding kind_of
  rule_four h b w = refused_read b R.f _ 4 reading (number_four b (rule R.at.rule) (order b _ _ w h))

  -- the number, once the calls told of the three strings
  pub number_told : (u v x y z : Bool) (m g : ℕ) (q : Found)
      → u ≡ unsized_by max_string (length subject) → v ≡ unsized_by max_short_string (length id)
      → x ≡ all is_print subject → y ≡ all is_print id → z ≡ all is_print origin
      → m ≡ merged R.path_refusal_lem ((u || v) || (ltb max_short_string (length origin) || leb max_rules R.n)) (not x || (not y || not z)) q.again (by_group && eqb g R.count)
      → m ≡ merged R.path_refusal_lem (five R.at.rule R.n) (six R.at.rule) q.again (by_group && eqb g R.count)
  number_told u v x y z m g q uu vv xx yy zz e =
      let a = R.at in
      e ∙ ap₂ (λ (s t : Bool). merged R.path_refusal_lem s t q.again (by_group && eqb g R.count))
      (five_is a.rule subject id origin a.subject a.id a.origin u v R.n uu vv)
      (six_is a.rule subject id origin a.subject a.id a.origin x y z xx yy zz)

-- ---- and it is judged

-- what the calls told then
pub record Judged : Type 0 where
  pub read : Read
  pub last : ℕ
  pub ordered : out_of_order last kind_rule ≡ false
  pub holder : ℕ
  pub holder_told : holder ≡ (whether by_group read then place (subject read) (groups read) else 0)
  pub hash : ℕ
  pub hash_is : hash ≡ hash_of (id read)
  pub found : Found
  pub found_is : Met read.old read.keys max_rules (first_id_place + hash % id_places) (id read) found
  pub number : ℕ
  pub number_is : number ≡ merged read.path_refusal_lem (five read.at.rule read.n) (six read.at.rule) found.again (by_group read && eqb holder read.count)

abbrev pub judging : (R : Read) (last : ℕ) {o : Bool} → o ≡ out_of_order last kind_rule → o ≡ false
    → {holder : ℕ} → holder ≡ (whether by_group R then place (subject R) (groups R) else 0)
    → {hash : ℕ} → hash ≡ hash_of (id R)
    → {found : Found} → Met R.old R.keys max_rules (first_id_place + hash % id_places) (id R) found
    → {u v x y z : Bool} → u ≡ unsized_by max_string (length (subject R)) → v ≡ unsized_by max_short_string (length (id R))
    → x ≡ all is_print (subject R) → y ≡ all is_print (id R) → z ≡ all is_print (origin R)
    → {number : ℕ} → number ≡ merged R.path_refusal_lem ((u || v) || (ltb max_short_string (length (origin R)) || leb max_rules R.n)) (not x || (not y || not z)) found.again (by_group R && eqb holder R.count)
    → Judged
judging R last {o} p q {holder} held {hash} hashed {found} met uu vv xx yy zz {number} e = record {
  read = R;
  last = last;
  ordered = sym p ∙ q;
  holder = holder;
  holder_told = held;
  hash = hash;
  hash_is = hashed;
  found = found;
  found_is = met;
  number = number;
  number_is = number_told R _ _ _ _ _ number holder found uu vv xx yy zz e;
}

module _ (J : Judged) where
  abbrev R : Read
  R = J.read

  abbrev this : Rule
  this = R.at.rule

  abbrev nine : Bool
  nine = by_group R && eqb J.holder R.count

  counted : R.count ≡ length (groups R)
  counted = sym (strings_length R.old R.starts R.count)

  met : Met R.old R.keys max_rules (id_place (id R)) (id R) J.found
  met = rw (id_spot (id R) J.hash J.hash_is) at J.found_is

  again_is : (b : Earlier) → Ids R.old R.keys R.n (ids_of b.rules) → J.found.again ≡ any (same_id this) b.rules
  again_is b d = met.told ∙ sym (d.held.told (id R)) ∙ ap (λ (l : Str). any (same l) (ids_of b.rules)) (sym R.at.id) ∙ any_ids this b.rules

  pub rule_graded : (b : Earlier) → b.kind ≡ J.last → b.groups ≡ groups R → Ids R.old R.keys R.n (ids_of b.rules) → J.number ≡ refusal b (framed (entry_of R.f))
  unfolding past_limit strays repeats unlisted
  rule_graded b w e d =
      let long : length b.rules ≡ R.n = sym (ids_length b.rules) ∙ d.counted in
      refused_read b R.f _ J.number (reading R)
      (number_rule b this (order R b _ _ w J.ordered) J.number R.path_refusal_lem _ _ J.found.again _ J.number_is R.at.path
      (ap (λ (k : ℕ). five this k or over_limit this.path) (sym long)) refl
      (ap (λ (l : Bool). l or key_twice this.path) (again_is b d))
      (nine_is this (by_group R) (subject R) (groups R) b.groups J.holder R.count R.at.by_group R.at.subject e J.holder_told counted))

  module _ (fine : J.number ≡ clear) where
    clear_is : (five this R.n ≡ false) × (nine ≡ false) × (J.found.again ≡ false)
    clear_is = merged_clear R.path_refusal_lem (five this R.n) (six this) J.found.again nine (sym J.number_is ∙ fine)

    rule_room : R.n < max_rules
    rule_room =
        leb-false max_rules R.n (or_false_r (ltb max_short_string (length this.origin)) _ (or_false_r (unsized this.subject or unsized_short this.id) _ clear_is.0))

    id_sorted_room : get_or R.keys max_rules 0 < max_rules
    id_sorted_room = omega (arith, R.ready.ids.held.few, R.ready.ids.counted, rule_room)

    -- there is room for the rule, and for its id
    pub rule_ready : (J.found.at ≤ get_or R.keys max_rules 0) × (get_or R.keys max_rules 0 < max_rules) × (first_id_place + J.hash % id_places < length R.keys) × (R.n < max_rules)
    rule_ready = (met.fits, id_sorted_room, omega (arith, R.ready.long), rule_room)

    pub rule_kept : (tops holders tops' holders' keys' : List ℕ) → (tops' ≡ set tops R.n (length R.old + 1)) × (holders' ≡ set holders R.n J.holder)
        → keys' ≡ added R.keys max_rules (first_id_place + J.hash % id_places) J.found.at (span_of (length R.old + (R.subject_end + 1)) (length R.old + R.id_end))
        → RuleKept (groups R) R.old R.f tops holders R.keys R.n tops' holders' keys'
    rule_kept tops holders tops' holders' keys' stored e =
        let a = R.at in
        let w = a.long in
        let small = R.room in
        let d : R.id_end ≤ length R.f = omega (arith, w.2, w.3) in
        let span = span_of (length R.old + (R.subject_end + 1)) (length R.old + R.id_end) in
        record {
          kept = this;
          holder = J.holder;
          reads = reading R;
          body = a.body;
          room = rule_room;
          held = λ e.
              let h = held_is (by_group R) (subject R) (groups R) J.holder R.count J.holder_told counted clear_is.1 (sym a.by_group ∙ e) in
              (h.0, h.1 ∙ sym a.subject);
          starts_set = stored.0;
          holders_set = stored.1;
          keys_long =
              ap length e ∙ added_long R.keys max_rules (first_id_place + J.hash % id_places) J.found.at _ met.fits (omega (arith, id_sorted_room, R.ready.long)) ∙ R.ready.long;
          ids_held = λ before I.
              subst (λ (x : Str). Holds id_place (R.old ++ R.f) keys' max_rules (before ++ (x ∷ []))) (sym a.id)
              (rw (e, id_spot (id R) J.hash J.hash_is)
              (holds_grows R.f (λ y. ((id_far y).0, omega (arith, (id_far y).1, R.ready.long))) I.held (id R) J.found met clear_is.2 span
              (new_span R.old R.f (R.subject_end + 1) R.id_end w.1 d (omega (arith, small))) (new_inside R.old R.f (R.subject_end + 1) R.id_end w.1 d (omega (arith, small)))
              (omega arith) (omega (arith, I.counted, rule_room))));
        }
