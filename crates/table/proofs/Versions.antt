-- Each way out of version_number: its answer is the frame's number.
use mathlib.Core.Path.{◌≡◌, refl, sym, ◌∙◌}
use mathlib.Core.Bool.{Bool, true, false, not}
use mathlib.Core.Option.{none, some}
use Prim.Native.Nat.{ℕ, ◌+◌, ◌-◌, ◌<◌}
use lib.ListN.{length, get_or}
use Rattle.text.specs.Test.{all}
use Rattle.text.specs.Byte.{is_print}
use Rattle.text.specs.String.{Str}
use Rattle.text.specs.Frame.{string, part}
use Rattle.text.specs.Steps.{end_of}
use Rattle.std.specs.Prelude.{Option, Some, None}
use Rattle.text.specs.Refusal.{clear}
use Rattle.limits.specs.Limits.{max_short_string}
use Rattle.text.proofs.Frames.{string_ends, string_misses}
use Rattle.table.specs.Frame.{Entry, version, entry_of}
use Rattle.table.specs.Refusal.{Earlier, reads, framed, out_of_order, kind_of, past_limit, strays, misplaces, repeats, unlisted, refusal}
use Rattle.table.specs.Walk.{merged, unsized_by}
use Rattle.table.proofs.Numbers.{short_is, stray_is, number_four, number_plain}
use Rattle.table.proofs.Frames.{version_unread, version_off, version_read}

-- a frame that does not read
pub refused_unread : (b : Earlier) (f : Str) → entry_of f ≡ none → 3 ≡ refusal b (framed (entry_of f))
unfolding refusal framed
refused_unread b f e = rw e

-- and one that does
pub refused_read : (b : Earlier) (f : Str) (e : Entry) (n : ℕ) → entry_of f ≡ some e → n ≡ refusal b (reads e) → n ≡ refusal b (framed (entry_of f))
unfolding framed
refused_read b f e n i h = rw i h

module _ (f : Str) (pre : (0 < length f) × (get_or f 0 0 ≡ 1)) (r : Option ℕ) (i : r ≡ end_of (string f 1)) (b : Earlier) (last : ℕ) (w : b.kind ≡ last) where
  pub version_short : r ≡ None → 3 ≡ refusal b (framed (entry_of f))
  version_short g = refused_unread b f (version_unread f pre.0 pre.1 (string_misses f 1 r i g))

  module _ (t : ℕ) (g : r ≡ Some t) where
    pub version_long : (length f - t ≡ 8 → ⊥) → 3 ≡ refusal b (framed (entry_of f))
    version_long n = let e = string_ends f 1 r i t g in refused_unread b f (version_off f pre.0 pre.1 _ t e.0 e.2 n)

    module _ (n : length f - t ≡ 8) (o : Bool) (q : o ≡ out_of_order last 1) where
      pub reading : entry_of f ≡ some (version (part f 2 t) (part f t (t + 8)))
      reading = let e = string_ends f 1 r i t g in version_read f pre.0 pre.1 _ t e.0 e.2 n

      order : o ≡ out_of_order b.kind (kind_of (version (part f 2 t) (part f t (t + 8))))
      unfolding kind_of
      order = rw w q

      pub version_four : o ≡ true → 4 ≡ refusal b (framed (entry_of f))
      version_four h = refused_read b f _ 4 reading (number_four b _ (sym order ∙ h))

      pub version_graded : o ≡ false → (m : ℕ) (five p : Bool) → m ≡ merged clear five (not p) false false → five ≡ unsized_by max_short_string (length (part f 2 t)) → p ≡ all is_print (part f 2 t)
          → m ≡ refusal b (framed (entry_of f))
      unfolding past_limit strays misplaces repeats unlisted
      version_graded h m five p x y z =
          refused_read b f _ m reading
          (number_plain b _ (sym order ∙ h) m five (not p) false false x (y ∙ short_is _ _ refl) (stray_is _ p z) refl refl refl)
