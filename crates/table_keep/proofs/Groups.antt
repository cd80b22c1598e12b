-- Each way out of take_group: its answer is the frame's number, and what is kept.
use mathlib.Core.Path.{◌≡◌, refl, sym, ap, ◌∙◌}
use mathlib.Core.Bool.{Bool, true, false, not, ◌||◌}
use mathlib.Core.List.{List}
use mathlib.Core.Option.{some}
use Prim.Native.Nat.{ℕ, ◌+◌, ◌-◌, ◌≤◌, ◌<◌}
use native.Mathlib.Omega.{arith}
use borrow.Author.Tests.{leb-false}
use lib.Dec.{leb}
use lib.ListN.{length, set}
use Rattle.limits.specs.Limits.{max_groups, max_string}
use Rattle.limits.specs.Sizes.{max_table_bytes}
use Rattle.text.specs.Test.{◌or◌, any, all}
use Rattle.text.specs.Byte.{is_print}
use Rattle.text.specs.String.{Str, same}
use Rattle.text.specs.Refusal.{clear}
use Rattle.text.specs.Frame.{got, string, part}
use Rattle.text.specs.Steps.{end_of}
use Rattle.std.specs.Prelude.{Option, Some, None}
use Rattle.text.proofs.Tests.{or_false_r, or_is}
use Rattle.text.proofs.Frames.{string_ends, string_misses}
use Rattle.path.specs.Refusal.{unsized}
use Rattle.text_sorted.specs.Spans.{span_of, Sought, inserted}
use Rattle.text_sorted.specs.declared.Found.{Found}
use Rattle.table_rows.specs.Strings.{strings_in}
use Rattle.table_rows.proofs.Grow.{strings_length}
use Rattle.table.specs.Frame.{group, entry_of}
use Rattle.table.specs.Refusal.{Earlier, reads, framed, out_of_order, kind_of, past_limit, strays, misplaces, repeats, unlisted, refusal}
use Rattle.table.specs.Layout.{kind_group}
use Rattle.table.specs.Walk.{OfKind, merged, unsized_by}
use Rattle.table.proofs.Numbers.{long_is, stray_is, number_four, number_plain, merged_clear}
use Rattle.table.proofs.Frames.{group_unread, group_off, group_read}
use Rattle.table.proofs.Versions.{refused_unread, refused_read}
use Rattle.table_keep.specs.Held.{Named, GroupKept}
use Rattle.table_keep.proofs.Names.{new_span, new_inside, named_grows}

-- a count below its limit
pub below : (p limit n m : ℕ) (u v six eight nine : Bool) → u ≡ v → m ≡ merged p (u || leb limit n) six eight nine → m ≡ clear → n < limit
below p limit n m u v six eight nine x e h = leb-false limit n (or_false_r u _ (sym (or_is u (leb limit n)) ∙ (merged_clear p (u || leb limit n) six eight nine (sym e ∙ h)).0))

module _ (f : Str) (pre : OfKind kind_group f) (r : Option ℕ) (i' : r ≡ end_of (string f 1)) (b : Earlier) (last : ℕ) (w : b.kind ≡ last) where
  pub group_short : r ≡ None → 3 ≡ refusal b (framed (entry_of f))
  group_short g = refused_unread b f (group_unread f pre.0 pre.1 (string_misses f 1 r i' g))

  module _ (t : ℕ) (g : r ≡ Some t) where
    pub group_long : (t ≡ length f → ⊥) → 3 ≡ refusal b (framed (entry_of f))
    group_long n = refused_unread b f (group_off f pre.0 pre.1 _ t (string_ends f 1 r i' t g).0 n)

    module _ (n : t ≡ length f) (o : Bool) (q : o ≡ out_of_order last kind_group) where
      reading : entry_of f ≡ some (group (part f 2 t))
      reading = group_read f pre.0 pre.1 _ t (string_ends f 1 r i' t g).0 n

      order : o ≡ out_of_order b.kind (kind_of (group (part f 2 t)))
      unfolding kind_of
      order = rw w q

      pub group_four : o ≡ true → 4 ≡ refusal b (framed (entry_of f))
      group_four h = refused_read b f _ 4 reading (number_four b _ (sym order ∙ h))

      pub group_graded : o ≡ false → (old starts : List ℕ) (k : ℕ) → b.groups ≡ strings_in old starts k 0
          → (names : List ℕ) → Named old names k (strings_in old starts k 0)
          → (m : ℕ) (u p : Bool) (z : Found) → m ≡ merged clear (u || leb max_groups k) (not p) z.again false
          → u ≡ unsized_by max_string (length (part f 2 t)) → p ≡ all is_print (part f 2 t) → Sought old names k (part f 2 t) z
          → m ≡ refusal b (framed (entry_of f))
      unfolding past_limit strays misplaces repeats unlisted
      group_graded h old starts k e names N m u p z x y v a =
          let five : (u || leb max_groups k) ≡ (unsized (part f 2 t) or leb max_groups (length b.groups)) = rw (e, strings_length old starts k, y, long_is (part f 2 t) (length (part f 2 t)) refl) (or_is (unsized (part f 2 t)) (leb max_groups k)) in
          let eight : z.again ≡ any (same (part f 2 t)) b.groups = a.told ∙ sym (N.told (part f 2 t)) ∙ ap (any (same (part f 2 t))) (sym e) in
          refused_read b f _ m reading
          (number_plain b _ (sym order ∙ h) m _ (not p) _ false x five (stray_is _ p v) refl eight refl)

      pub group_kept : (old starts : List ℕ) (k : ℕ) → k < max_groups → length old + length f ≤ max_table_bytes → (names : List ℕ) → length names ≡ max_groups → Named old names k (strings_in old starts k 0)
          → (m : ℕ) (u six : Bool) (z : Found) → m ≡ merged clear u six z.again false → m ≡ clear → Sought old names k (part f 2 t) z
          → (names' : List ℕ) → names' ≡ inserted names k z.at (span_of (length old + 2) (length old + t))
          → GroupKept old f starts k (set starts k (length old + 1)) names'
      group_kept old starts k l small names wide N m u six z x fine a names' i =
          let w = string_ends f 1 r i' t g in
          record {
            name = part f 2 t;
            reads = reading;
            stands = w.0 ∙ ap (λ (j : ℕ). got (part f 2 t) j) n;
            room = l;
            starts_set = refl;
            named = rw i
                (named_grows N f (part f 2 t) z (span_of (length old + 2) (length old + t)) a (merged_clear clear u six z.again false (sym x ∙ fine)).2
                (new_span old f 2 t w.1 w.2 (omega arith)) (new_inside old f 2 t w.1 w.2 (omega arith)) (omega arith));
          }
