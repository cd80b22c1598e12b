-- Lines of a log, shown and packed, are each other's inverse: every good line is shown, and what is packed is good.
use mathlib.Core.Path.{◌≡◌, refl, sym, ap, ◌∙◌}
use mathlib.Core.Bool.{Bool, true, false, not}
use mathlib.Core.List.{List, [], ◌∷◌, ◌++◌}
use mathlib.Core.Option.{Option, none, some, bind}
use Prim.Native.Nat.{ℕ, ◌≤◌, ◌<◌}
use native.Mathlib.Omega.{arith}
use borrow.Author.Tests.{eq-eqb, eqb-true, ltb-false, leb-true, not-false}
use lib.Dec.{eqb, leb, ltb}
use lib.ListN.{length, length-append}
use Rattle.limits.specs.Limits.{max_short_string, max_keys, max_elements}
use Rattle.limits.specs.Sizes.{max_log_line}
use Rattle.text.specs.Test.{◌and◌, ◌or◌, whether◌then◌else◌, all, any, absent}
use Rattle.text.specs.Byte.{is_print}
use Rattle.text.specs.String.{Str, bytes, joined}
use Rattle.text.specs.Refusal.{◌when◌else◌, clear}
use Rattle.text.specs.Frame.{got, ◌>>=◌, ret, byte, string, string_bytes}
use Rattle.text.proofs.Tests.{by, clash, and_l, and_r, and_right, or_false_l, or_false_r}
use Rattle.text.proofs.Codec.{then_got, got_move, took_both, byte_took, string_took}
use Rattle.path.specs.Path.{Key, Elem, Path}
use Rattle.path.specs.Bytes.{path, counted, key_bytes, elem_bytes, path_bytes}
use Rattle.path.specs.Refusal.{unsized, key_over, elem_over, over_limit, key_stray, elem_stray, stray_byte, outside_name, good_path}
use Rattle.path.proofs.Bytes.{path_took}
use Rattle.path_read.proofs.Complete.{sized}
use Rattle.path_read.proofs.RoundTrip.{within_limits, no_stray}
use Rattle.table_line.specs.Lines.{frame}
use Rattle.table.specs.Frame.{whole}
use Rattle.table.specs.Refusal.{stray}
use Rattle.table.specs.Group.{bad_user}
use Rattle.verdict.specs.Verdict.{Request}
use Rattle.verdict_request.specs.Calls.{bad_mode, bad_origin}
use Rattle.request_log.specs.Request.{request_body, framed_request, framed_refusal, unrefused, good_request, request_of}
use Rattle.request_log.proofs.Lengths.{good_short}
use Rattle.readable_parts.specs.Parts.{part_of, hex_text, shown, packed}
use Rattle.readable_parts.proofs.Digits.{hex_length}
use Rattle.readable_lines.specs.Form.{parts, request_form, printed, shown_by, packed_by}
use Rattle.readable_lines.specs.Request.{good, shown_request, packed_request}
use Rattle.readable_lines.specs.Lines.{lined, shown_line_by, shown_log_line, packed_log_line}
use Rattle.readable_laws.proofs.Inverse.{proper}
use Rattle.readable_laws.proofs.HexLines.{Small, none_left, and_more, frame_text, text_frame}
use Rattle.readable_laws.proofs.Frames.{packed_form, shown_form, whole_some, took_all, pack_show_by, show_pack_by}
use Rattle.readable_laws.proofs.Texts.{lined_some, then_some, line_back, packed_told, line_forth}
use Rattle.readable_laws.proofs.Printing.{names_print, values_print}
use Rattle.readable_laws.proofs.Forward.{Reads, part_then, plain, plain_then, first_word, second_word, Well, a_string, a_path}

-- ---- what a good request holds

-- none of the three numbers
unnumbered : (a b c : Bool) → (20 when a else 21 when b else 22 when c else clear) ≡ clear → (a ≡ false) × (b ≡ false) × (c ≡ false)
unfolding whether◌then◌else◌
unnumbered true b c e = absurd (omega arith)
unnumbered false true c e = absurd (omega arith)
unnumbered false false true e = absurd (omega arith)
unnumbered false false false e = (refl, refl, refl)

record Fine (q : Request) : Type 0 where
  mode : bad_mode q.mode ≡ false
  user : Well q.user
  origin : Well q.origin
  path : good_path q.path ≡ true

fine : (q : Request) → framed_refusal q ≡ clear → Fine q
unfolding framed_refusal bad_user bad_origin stray
fine q e =
    let n = unnumbered (bad_user q.user or bad_mode q.mode) (bad_origin q.origin) (not (good_path q.path)) e in
    let u = or_false_l (bad_user q.user) _ n.0 in
    let l : length q.origin ≤ max_short_string = ltb-false _ _ (or_false_l _ _ n.1) in
    record {
      mode = or_false_r (bad_user q.user) _ n.0;
      user = (sized q.user (or_false_l _ _ u), not-false _ (or_false_r (unsized q.user) _ u));
      origin = (omega arith, not-false _ (or_false_r (ltb max_short_string (length q.origin)) _ n.1));
      path = not-false _ n.2;
    }

-- the parts of a frame that holds it
record Framed (f : Str) (q : Request) : Type 0 where
  user_at : ℕ
  origin_at_lem : ℕ
  path_at_lem : ℕ
  mode : byte f 0 ≡ got q.mode user_at
  user : string f user_at ≡ got q.user origin_at_lem
  origin : string f origin_at_lem ≡ got q.origin path_at_lem
  path_last : path f path_at_lem ≡ got q.path (length f)

framed : (f : Str) (q : Request) → framed_request f ≡ some q → Framed f q
unfolding framed_request request_body ◌>>=◌ ret
framed f q e =
    let w = whole_some f (request_body f 0) q e in
    let a = then_got (byte f 0) _ w in
    let u = then_got (string f a.1) _ a.3 in
    let o = then_got (string f u.1) _ u.3 in
    let p = then_got (path f o.1) _ o.3 in
    got_move (λ x z. z ≡ length f → Framed f x) p.3
    (λ l. record { user_at = a.1; origin_at_lem = u.1; path_at_lem = o.1; mode = a.2; user = u.2; origin = o.2; path_last = p.2 ∙ ap (got p.0) l }) refl

unrefused_some : (o : Option Request) (q : Request) → unrefused o ≡ some q → (o ≡ some q) × (framed_refusal q ≡ clear)
unfolding unrefused whether◌then◌else◌
unrefused_some none q e = let z : ◌≡◌ {A = ℕ} 0 1 = cc in absurd (omega arith)
unrefused_some (some p) q e =
    by (eqb (framed_refusal p) clear)
    (λ u. let i : some p ≡ some q = rw u at e in let j : p ≡ q = cc in (i, rw j at (eqb-true (framed_refusal p) clear u)))
    (λ u. let i : none ≡ some q = rw u at e in let z : ◌≡◌ {A = ℕ} 0 1 = cc in absurd (omega arith))

good_told : (f : Str) (q : Request) → good_request f ≡ some q → Framed f q × Fine q
unfolding good_request
good_told f q e = let a = unrefused_some (framed_request f) q e in (framed f q a.0, fine q a.1)

-- ---- it is shown

mode_reads : (f : Str) (m p : ℕ) → byte f 0 ≡ got m p → bad_mode m ≡ false → (cs : Str) → Reads cs f p → Reads (77 ∷ cs) f 0
unfolding bad_mode ◌or◌
mode_reads f m p e b cs r =
    by (eqb m 1)
    (λ u. part_then 77 cs f 0 (bytes "read") p (unfold part_of shown whether◌then◌else◌ in first_word 1 (bytes "read") (bytes "write") f 0 m p e u) (unfold all ◌and◌ in refl) r)
    (λ u. by (eqb m 2)
    (λ v. part_then 77 cs f 0 (bytes "write") p (unfold part_of shown whether◌then◌else◌ in second_word 1 (bytes "read") (bytes "write") f 0 m p e u v) (unfold all ◌and◌ in refl) r)
    (λ v. clash refl (rw (u, v) at b)))

request_reads : (f : Str) (q : Request) → Framed f q → Fine q → Reads request_form f 0
request_reads f q a w =
    mode_reads f q.mode a.user_at a.mode w.mode _
    (plain_then (bytes " ") _ f a.user_at (unfold plain ◌and◌ in refl)
    (a_string f _ a.user_at q.user a.origin_at_lem a.user w.user
    (plain_then (bytes " origin ") _ f a.origin_at_lem (unfold plain ◌and◌ in refl)
    (a_string f _ a.origin_at_lem q.origin a.path_at_lem a.origin w.origin
    (plain_then (bytes " ") _ f a.path_at_lem (unfold plain ◌and◌ in refl)
    (a_path f a.path_at_lem q.path a.path_last w.path))))))

good_shown : (f : Str) (q : Request) → good_request f ≡ some q → (s : Str) × (shown_request f ≡ some s)
unfolding shown_request good absent bind shown_by whole printed whether◌then◌else◌
good_shown f q e =
    let a = good_told f q e in
    let r = request_reads f q a.0 a.1 in
    (r.text, rw (e, r.is, eq-eqb (length f) (length f) refl, r.prints))

-- ---- requests, shown and packed

proper_request : proper request_form ≡ true
proper_request = unfold proper ◌and◌ in refl

-- a good frame stays as it is
good_some : (f g : Str) → good f ≡ some g → (f ≡ g) × (q : Request) × (good_request f ≡ some q)
unfolding good
good_some f g e = go (good_request f) refl e
  where
    go : (o : Option Request) → good_request f ≡ o → (whether absent o then none else some f) ≡ some g → (f ≡ g) × (q : Request) × (good_request f ≡ some q)
    go none i h = let h' : none ≡ some g = (unfold absent whether◌then◌else◌ in h) in let z : ◌≡◌ {A = ℕ} 0 1 = cc in absurd (omega arith)
    go (some q) i h = let h' : some f ≡ some g = (unfold absent whether◌then◌else◌ in h) in let j : f ≡ g = cc in (j, q, i)

request_pack_show : (s f : Str) → packed_request s ≡ some f → shown_request f ≡ some s
unfolding packed_request shown_request bind
request_pack_show s f e =
    let a = then_some (packed_by (parts packed request_form) s) good f e in
    let g = good_some a.0 f a.2 in
    let k : good f ≡ some f = ap good (sym g.0) ∙ a.2 in
    rw k (pack_show_by (parts packed request_form) (parts shown request_form) (packed_form request_form proper_request) s f f 0 (omega arith) refl (a.1 ∙ ap some g.0))

request_show_pack : (f s : Str) → Small f → shown_request f ≡ some s → packed_request s ≡ some f
unfolding packed_request shown_request bind
request_show_pack f s m e =
    let a = then_some (good f) (shown_by (parts shown request_form) 0) s e in
    let g = good_some f a.0 a.1 in
    let i : shown_by (parts shown request_form) 0 f ≡ some s = ap (shown_by (parts shown request_form) 0) g.0 ∙ a.2 in
    let p : packed_by (parts packed request_form) s ≡ some f = show_pack_by (parts shown request_form) (parts packed request_form) (shown_form request_form proper_request) f 0 (omega arith) m s i in
    rw p (a.1 ∙ ap some (sym g.0))

-- ---- every number of a good frame is a byte

small_both : (a b : Str) → Small a → Small b → Small (a ++ b)
small_both [] b x y = y
small_both (c ∷ a) b (and_more h x) y = and_more h (small_both a b x y)

print_small : (s : Str) → all is_print s ≡ true → Small s
unfolding all
print_small [] h = none_left
print_small (b ∷ s) h =
    let l : b ≤ 126 = leb-true b 126 (and_right (leb 32 b) _ (and_l _ _ h)) in
    and_more {b = b} (omega arith) (print_small s (and_r (is_print b) _ h))

string_small : (s : Str) → Well s → Small (string_bytes s)
unfolding string_bytes
string_small s w = and_more {b = length s} (omega (arith, w.0)) (print_small s w.1)

key_small : (k : Key) → key_over k ≡ false → key_stray k ≡ false → Small (key_bytes k)
unfolding key_over key_stray key_bytes
key_small k o s =
    small_both _ _
    (string_small k.name (sized k.name (or_false_l _ _ o), names_print k.name (or_false_l _ _ s)))
    (string_small k.value (sized k.value (or_false_r (unsized k.name) _ o), values_print k.value (or_false_r (any outside_name k.name) _ s)))

keys_small : (ks : List Key) → any key_over ks ≡ false → any key_stray ks ≡ false → Small (joined key_bytes ks)
unfolding any joined
keys_small [] o s = none_left
keys_small (k ∷ ks) o s =
    small_both _ _ (key_small k (or_false_l _ _ o) (or_false_l _ _ s)) (keys_small ks (or_false_r (key_over k) _ o) (or_false_r (key_stray k) _ s))

elem_small : (e : Elem) → elem_over e ≡ false → elem_stray e ≡ false → Small (elem_bytes e)
unfolding elem_over elem_stray elem_bytes counted
elem_small e o s =
    let n = or_false_r (unsized e.name) _ o in
    let c : length e.keys ≤ max_keys = ltb-false _ _ (or_false_l _ _ n) in
    small_both _ _
    (string_small e.name (sized e.name (or_false_l _ _ o), names_print e.name (or_false_l _ _ s)))
    (and_more {b = length e.keys} (omega arith) (keys_small e.keys (or_false_r (ltb max_keys (length e.keys)) _ n) (or_false_r (any outside_name e.name) _ s)))

elems_small : (es : Path) → any elem_over es ≡ false → any elem_stray es ≡ false → Small (joined elem_bytes es)
unfolding any joined
elems_small [] o s = none_left
elems_small (e ∷ es) o s =
    small_both _ _ (elem_small e (or_false_l _ _ o) (or_false_l _ _ s)) (elems_small es (or_false_r (elem_over e) _ o) (or_false_r (elem_stray e) _ s))

path_small : (p : Path) → good_path p ≡ true → Small (path_bytes p)
unfolding path_bytes counted over_limit stray_byte
path_small p g =
    let o = within_limits p g in
    let c : length p ≤ max_elements = ltb-false _ _ (or_false_l _ _ o) in
    and_more {b = length p} (omega arith) (elems_small p (or_false_r (ltb max_elements (length p)) _ o) (no_stray p g))

mode_small : (m : ℕ) → bad_mode m ≡ false → m < 256
unfolding bad_mode ◌or◌
mode_small m b =
    by (eqb m 1)
    (λ u. let i : m ≡ 1 = eqb-true _ _ u in omega arith)
    (λ u. by (eqb m 2) (λ v. let i : m ≡ 2 = eqb-true _ _ v in omega arith) (λ v. clash refl (rw (u, v) at b)))

good_small : (f : Str) (q : Request) → good_request f ≡ some q → Small f × (0 < length f)
good_small f q e =
    let g = good_told f q e in
    let a = g.0 in
    let w = g.1 in
    let t = took_both f 0 a.user_at (length f) _ _ (byte_took f 0 q.mode a.user_at a.mode)
    (took_both f a.user_at a.origin_at_lem (length f) _ _ (string_took f a.user_at q.user a.origin_at_lem a.user)
    (took_both f a.origin_at_lem a.path_at_lem (length f) _ _ (string_took f a.origin_at_lem q.origin a.path_at_lem a.origin)
    (path_took f a.path_at_lem q.path (length f) a.path_last))) in
    let i : f ≡ q.mode ∷ (string_bytes q.user ++ (string_bytes q.origin ++ path_bytes q.path)) = took_all f _ t in (
      rw i (and_more (mode_small q.mode w.mode) (small_both _ _ (string_small q.user w.user) (small_both _ _ (string_small q.origin w.origin) (path_small q.path w.path)))),
      omega (arith, ap length i),
    )

-- ---- lines

request_told : (l : Str) (q : Request) → request_of l ≡ some q → (f : Str) × (frame l ≡ some f) × (good_request f ≡ some q)
unfolding request_of
request_told l q e = go (frame l) refl e
  where
    go : (o : Option Str) → frame l ≡ o → bind o good_request ≡ some q → (f : Str) × (frame l ≡ some f) × (good_request f ≡ some q)
    go none i h = let h' : none ≡ some q = (unfold bind in h) in let z : ◌≡◌ {A = ℕ} 0 1 = cc in absurd (omega arith)
    go (some f) i h = (f, i, (unfold bind in h))

line_good : (l f : Str) (q : Request) → frame l ≡ some f → good_request f ≡ some q → request_of l ≡ some q
unfolding request_of bind
line_good l f q i e = rw (i, e)

-- what is shown of a line packs to it
pub line_packs : (l r : Str) → shown_log_line l ≡ some r → packed_log_line r ≡ some l
unfolding shown_log_line packed_log_line
line_packs = line_back shown_request packed_request request_show_pack

-- a good line is shown, and what is shown packs to it
pub good_line_returns : (l : Str) (q : Request) → request_of l ≡ some q → (r : Str) × (shown_log_line l ≡ some r) × (packed_log_line r ≡ some l)
unfolding shown_log_line shown_line_by bind lined
good_line_returns l q e =
    let a = request_told l q e in
    let s = good_shown a.0 q a.2 in
    let i : shown_line_by shown_request l ≡ some (s.0 ++ (10 ∷ [])) = rw (a.1, s.1) in
    (s.0 ++ (10 ∷ []), i, line_packs l (s.0 ++ (10 ∷ [])) i)

-- a readable line packs only to a good line, which is shown as that line
pub readable_line_returns : (r l : Str) → packed_log_line r ≡ some l → (q : Request) × (request_of l ≡ some q) × (shown_log_line l ≡ some r)
unfolding packed_log_line shown_log_line packed_request
readable_line_returns r l e =
    let a = packed_told packed_request r l e in
    let b = then_some (packed_by (parts packed request_form) a.0) good a.1 a.3 in
    let g = good_some b.0 a.1 b.2 in
    let h : good_request a.1 ≡ some g.1 = ap good_request (sym g.0) ∙ g.2 in
    let m = good_small a.1 g.1 h in
    let i : frame l ≡ some a.1 = ap frame a.4 ∙ text_frame a.1 m.0 m.1 in
    (g.1, line_good l a.1 g.1 i h, line_forth shown_request packed_request request_pack_show r l a.1 e i)

-- only a good line is shown
pub shown_line_good : (l r : Str) → shown_log_line l ≡ some r → (q : Request) × (request_of l ≡ some q)
unfolding shown_log_line shown_line_by shown_request
shown_line_good l r e =
    let a = lined_some (bind (frame l) shown_request) r e in
    let b = then_some (frame l) shown_request a.0 a.1 in
    let c = then_some (good b.0) (shown_by (parts shown request_form) 0) a.0 b.2 in
    let g = good_some b.0 c.0 c.1 in
    (g.1, line_good l b.0 g.1 b.1 g.2)

-- no good line is longer
pub good_line_short : (l : Str) (q : Request) → request_of l ≡ some q → length l ≤ max_log_line
good_line_short l q e =
    let a = request_told l q e in
    let t = frame_text l a.0 a.1 in
    omega (arith, good_short a.0 q a.2, ap length t.0, length-append (hex_text a.0) (10 ∷ []), hex_length a.0)
