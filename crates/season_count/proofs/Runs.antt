-- A run of lines with one heading: the heading that is remembered, and what it tells of a frame.
use Prim.Native.Nat.{ℕ, ◌+◌, ◌≤◌}
use native.Mathlib.Omega.{arith}
use borrow.Author.Tests.{ltb-true}
use mathlib.Core.Path.{◌≡◌, refl, sym, ap, ◌∙◌}
use mathlib.Core.Bool.{true}
use mathlib.Core.List.{List, ◌++◌}
use lib.Dec.{ltb}
use lib.ListN.{length, take, drop, get_or, take-append-drop}
use lib.Seq.{length-take-le, take_at}
use Rattle.limits.specs.Sizes.{max_heading}
use Rattle.text.specs.Test.{◌and◌}
use Rattle.text.specs.String.{Str}
use Rattle.text.specs.Fill.{put}
use Rattle.text.specs.Refusal.{clear}
use Rattle.text.specs.Frame.{part, got}
use Rattle.text.proofs.Tests.{and_l, and_r, same→≡}
use Rattle.text_affix.specs.Affix.{begins}
use Rattle.verdict_concern.specs.Concern.{Applying}
use Rattle.request_log.specs.Heading.{head_bytes, head_refusal}
use Rattle.request_log.proofs.Headings.{head_in, HeadAt}
use Rattle.request_log.proofs.Lengths.{heading_there, heading_length, heading_front, short_heading}
use Rattle.season_count.specs.Loaded.{groups_in, Remembered, GoodHead}
use Rattle.season_count.specs.declared.run.Run.{Run}
use Rattle.season_count.specs.declared.loaded.Loaded.{Loaded}

begins_front : (p v : Str) → begins p v ≡ true → v ≡ p ++ drop (length p) v
unfolding begins
begins_front p v b =
    sym (take-append-drop (length p) v) ∙ ap (λ (s : Str). s ++ drop (length p) v) (sym (same→≡ p (take (length p) v) (and_r _ _ b)))

-- another good heading of a frame
module _ {frame : List ℕ} {number o p : ℕ} (a : HeadAt frame number o p) (c : number ≡ clear) where
  good_head : head_refusal (head_in frame o p) ≡ clear
  good_head = sym a.number ∙ c

  pub key_room : (key : List ℕ) → max_heading ≤ length key → 0 + length (take p frame) ≤ length key
  key_room key r =
      let l : length (take p frame) ≡ p = length-take-le p frame a.within in
      omega (arith, short_heading (head_in frame o p) good_head, heading_length frame (head_in frame o p) p a.reads)

-- the frame has the heading that is remembered
module _ (L : Loaded) {r : Run} (k : Remembered L r) (frame : List ℕ) (e : (ltb 0 r.len and begins (take r.len r.key) frame) ≡ true) where
  pub again : GoodHead L frame r r.len
  again =
      let h = k.head (ltb-true 0 r.len (and_l _ _ e)) in
      let b : frame ≡ head_bytes h.0 ++ drop (length (take r.len r.key)) frame =
      begins_front (take r.len r.key) frame (and_r _ _ e) ∙ ap (λ (s : Str). s ++ drop (length (take r.len r.key)) frame) h.1 in
      let l : length (head_bytes h.0) ≡ r.len = sym (ap length h.1) ∙ length-take-le r.len r.key r.within in
      record { ends = refl; head = h.0; reads = heading_there frame h.0 _ b ∙ ap (λ (t : ℕ). got h.0 t) l; good = h.2; bytes = h.1; marks = h.3 }

-- the other heading is remembered now
module _ (L : Loaded) {frame : List ℕ} {number o p : ℕ} (a : HeadAt frame number o p) (c : number ≡ clear) where
  pub turned : (r : Run) → r.len ≡ p → (key : List ℕ) → r.key ≡ put key 0 (take p frame) → (set : ℕ) → set ≡ groups_in L (part frame 2 o)
      → Applying L.rules.bytes.now L.rules.starts.now L.rules.holders.now L.rules.count set (part frame 2 o) (get_or frame 0 0) (part frame (o + 1) p) r.on
      → GoodHead L frame r p
  unfolding put
  turned r z key w set s g =
      let t : length (take p frame) ≡ p = length-take-le p frame a.within in
      let x : take p r.key ≡ take p frame = ap (take p) w ∙ take_at (take p frame) _ p t in
      record {
        ends = z;
        head = head_in frame o p;
        reads = a.reads;
        good = good_head a c;
        bytes = rw z (x ∙ heading_front frame (head_in frame o p) p a.reads);
        marks = rw s at g;
      }
