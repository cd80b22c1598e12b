-- The header lines by bucket: one turn of each loop, and each way out of it.
use mathlib.Core.Path.{◌≡◌, refl, sym, ap, ◌∙◌, subst}
use mathlib.Core.Bool.{true, false}
use mathlib.Core.List.{List, [], ◌∷◌, ◌++◌}
use mathlib.Core.Option.{Option, none, some}
use Rattle.std.proofs.lemmas.List.{drop_min}
use Prim.Native.Nat.{ℕ, suc, ◌+◌, ◌-◌, ◌*◌, ◌/◌, ◌≤◌, ◌<◌}
use Rattle.std.proofs.Common.{min}
use native.Mathlib.Omega.{arith}
use lib.Dec.{eqb, ltb}
use lib.ListN.{length, take, drop, get_or, set, length-set, drop_of_length-le}
use lib.Seq.{drop_at, drop-drop, length-take-le, get_or-set_same, get_or-set_other}
use borrow.Author.Tests.{eqb-true, eqb-false, ltb-true, ltb-false, lt-ltb, le-ltb}
use Rattle.text.specs.Test.{◌and◌, whether◌then◌else◌, only, absent, or_nothing}
use Rattle.text.specs.String.{Str}
use Rattle.text.specs.Frame.{part}
use Rattle.text.specs.Fill.{put}
use Rattle.text.specs.Steps.{Wrote}
use Rattle.text.proofs.Tests.{by, clash}
use Rattle.text.proofs.Filling.{wrote_long}
use Rattle.text_affix.specs.Affix.{empty}
use Rattle.text_search.specs.Search.{is}
use Rattle.text_hash.specs.Mix.{Small}
use Rattle.text_hash.proofs.Mixing.{place_within}
use Rattle.text_hash.specs.declared.Seed.{Seed}
use Rattle.rpc.specs.Request.{Line, longer, cut_at, line_of, cons, lines_of, headers_of, bad_headers, joined, values_of, header_value}
use Rattle.rpc_request.specs.Steps.{Cut, commaed, line_value, Joined}
use Rattle.rpc_request.specs.Index.{bucket_count, bucket_of, in_bucket, LineAt, Chain, stop, link, onto, Blank, Indexed}
use Rattle.rpc_request.proofs.Lines.{part_long, until_later, cut_same, cut_until, first_lf, lf_cut, colon_before, cut_part, name_part, fueled, read_is, Reading, reading_on, lines_cut, lines_uncut, lines_bad, lines_on, lines_over, headers_short, headers_read}
use Rattle.rpc_request.proofs.Values.{gather, gather_nil, gather_cons, gathered, one_bucket, commaed_nil, commaed_append, joined_is, line_value_lem, line_bucket}

-- ---- the line at a position

no_line : {x : Line} → none ≡ some x → ⊥
no_line e = let z : ◌≡◌ {A = ℕ} 0 1 = cc in omega arith

line_two : (s : Str) (x : Line) → line_of (cut_at 58 s) ≡ some x → 2 ≤ length s
unfolding line_of cut_at longer whether◌then◌else◌ empty ◌and◌
line_two [] x e = absurd (no_line e)
line_two (c ∷ []) x e = by (eqb c 58) (λ t. absurd (no_line (rw t at e))) (λ t. absurd (no_line (rw t at e)))
line_two (c ∷ d ∷ s) x e = omega arith

line_long : (h : Str) (p e : ℕ) (x : Line) → LineAt h p e x → p + 2 ≤ e
line_long h p e x a = let w = line_two (part h p e) x a.is in let z = part_long h p e a.cut.high in omega arith

-- ---- chains

third_other : (p i : ℕ) → p + 3 ≤ i → p / 3 ≡ i / 3 → ⊥
third_other p i l e = omega (arith, e)

pub third_small : (i n m : ℕ) → i < n → n ≤ 3 * m → i / 3 < m
third_small i n m l k = omega arith

-- a link that is set above a chain is no part of it
chain_set : (h before : Str) (i v : ℕ) {top p : ℕ} {l : List Line} → Chain h before top p l → top ≤ i → Chain h (set before (i / 3) v) top p l
chain_set h before i v (stop q) t = stop q
chain_set h before i v (link {p = p} {e = e} {x = x} {l = l} a k c) t =
    let w = line_long h p e x a in
    link a k (subst (λ (q : ℕ). Chain h (set before (i / 3) v) p q l) (sym (get_or-set_other before (i / 3) (p / 3) v 0 (third_other p i (omega arith)))) (chain_set h before i v c (omega arith)))

chain_under : (h before : Str) {top to p : ℕ} {l : List Line} → Chain h before top p l → top ≤ to → Chain h before to p l
chain_under h before (stop q) t = stop q
chain_under h before {to = to} (link {e = e} a k c) t = let z : e < to = omega arith in link a z c

-- ---- HeaderIndex::new

written_some : (l : List Line) → or_nothing (some l) ≡ l
unfolding or_nothing
written_some l = refl

cons_some : (a : Line) (l : List Line) → cons (some a) (some l) ≡ some (a ∷ l)
unfolding cons
cons_some a l = refl

onto_nil : (r : List Line) → onto [] r ≡ r
unfolding onto
onto_nil r = refl

onto_cons : (x : Line) (l r : List Line) → onto (x ∷ l) r ≡ onto l (x ∷ r)
unfolding onto
onto_cons x l r = refl

module _ (seed : Seed) (b : ℕ) where
  only_nil : only (in_bucket seed b) [] ≡ []
  unfolding only
  only_nil = refl

  only_in : (x : Line) (l : List Line) → in_bucket seed b x ≡ true → only (in_bucket seed b) (x ∷ l) ≡ x ∷ only (in_bucket seed b) l
  unfolding only whether◌then◌else◌
  only_in x l t = rw t

  only_out : (x : Line) (l : List Line) → in_bucket seed b x ≡ false → only (in_bucket seed b) (x ∷ l) ≡ only (in_bucket seed b) l
  unfolding only whether◌then◌else◌
  only_out x l t = rw t

  bucket_is : (x : Line) → in_bucket seed b x ≡ true → bucket_of seed x.name ≡ b
  unfolding in_bucket
  bucket_is x t = eqb-true _ _ t

  bucket_not : (x : Line) → in_bucket seed b x ≡ false → bucket_of seed x.name ≡ b → ⊥
  unfolding in_bucket
  bucket_not x t = eqb-false _ _ t

-- the lines before i are in the chains
pub record Indexing (seed : Seed) (h last before : Str) (i : ℕ) : Type 0 where
  pub fuel : ℕ
  pub reading : Reading h i fuel
  pub good : absent (lines_of fuel (drop i h)) ≡ false
  pub back : List Line
  pub is : or_nothing (headers_of h) ≡ onto back (or_nothing (lines_of fuel (drop i h)))
  pub buckets : length last ≡ bucket_count
  pub places : length h ≤ 3 * length before
  pub small : Small seed
  pub chains : (b : ℕ) → b < bucket_count → Chain h before i (get_or last b 0) (only (in_bucket seed b) back)

pub indexing_start : (seed : Seed) (h last before : Str) → Blank seed h last before → Indexing seed h last before 0
indexing_start seed h last before x = record {
  fuel = length h;
  reading = record { inside = omega arith; enough = omega arith };
  good = headers_read h x.good;
  back = [];
  is = sym (onto_nil _);
  buckets = x.buckets;
  places = x.places;
  small = x.small;
  chains = λ n l. subst (Chain h before 0 (get_or last n 0)) (sym (only_nil seed n)) (stop (let s = headers_short h x.good in let z = x.empty n l in omega arith));
}

module _ (seed : Seed) (h last before : Str) (i e : ℕ) (l : i < length h) (k : Cut 10 h i e) (j : Indexing seed h last before i) where
  turn : (g : ℕ) × (Reading h i (suc g)) × (absent (lines_of (suc g) (drop i h)) ≡ false) × (or_nothing (headers_of h) ≡ onto j.back (or_nothing (lines_of (suc g) (drop i h))))
  turn =
      let f = fueled h i l j.fuel j.reading in
      let q = f.1 in
      (f.0, subst (Reading h i) q j.reading, ap (λ (n : ℕ). absent (lines_of n (drop i h))) (sym q) ∙ j.good, j.is ∙ ap (λ (n : ℕ). onto j.back (or_nothing (lines_of n (drop i h)))) q)

  indexing_cut : e < length h
  indexing_cut = let t = turn in by (ltb e (length h)) (λ z. ltb-true _ _ z) (λ z. clash (lines_uncut h i e t.0 l k (let x = ltb-false e (length h) z in let y = k.high in omega arith)) t.2)

  indexing_line : absent (line_of (cut_at 58 (part h i e))) ≡ false
  indexing_line = let t = turn in by (absent (line_of (cut_at 58 (part h i e)))) (λ z. clash (lines_bad h i e t.0 l k indexing_cut z) t.2) (λ z. z)

  lines_rest : (x : Line) → line_of (cut_at 58 (part h i e)) ≡ some x → (g : ℕ) → absent (lines_of (suc g) (drop i h)) ≡ false
      → (absent (lines_of g (drop (e + 1) h)) ≡ false) × (or_nothing (lines_of (suc g) (drop i h)) ≡ x ∷ or_nothing (lines_of g (drop (e + 1) h)))
  lines_rest x q g r =
      let a = sym (lines_on h i e g l k indexing_cut indexing_line) ∙ r in
      let o = read_is _ a in
      (a, ap or_nothing (lines_cut h i e g l k indexing_cut ∙ ap (λ (z : Option Line). cons z (lines_of g (drop (e + 1) h))) q ∙ ap (cons (some x)) o.1 ∙ cons_some x o.0) ∙ written_some _ ∙ ap (λ (z : List Line). x ∷ z) (sym (written_some _) ∙ ap or_nothing (sym o.1)))

  third_place : i / 3 < length before
  third_place = third_small i (length h) (length before) l j.places

  module _ (b : ℕ) (small : b < bucket_count) (named : (x : Line) → line_of (cut_at 58 (part h i e)) ≡ some x → b ≡ bucket_of seed x.name) where
    abbrev last' : Str
    last' = set last b i

    abbrev before' : Str
    before' = set before (i / 3) (get_or last b 0)

    chains_on : (x : Line) → line_of (cut_at 58 (part h i e)) ≡ some x → (n : ℕ) → n < bucket_count → Chain h before' (e + 1) (get_or last' n 0) (only (in_bucket seed n) (x ∷ j.back))
    chains_on x q n s =
        let low = k.low in
        by (in_bucket seed n x)
        (λ t.
        let z : n ≡ b = sym (named x q ∙ bucket_is seed n x t) in
        let w : get_or last' n 0 ≡ i = ap (λ (m : ℕ). get_or last' m 0) z ∙ get_or-set_same last b i 0 (omega (arith, j.buckets)) in
        let v : get_or before' (i / 3) 0 ≡ get_or last n 0 = get_or-set_same before (i / 3) (get_or last b 0) 0 third_place ∙ ap (λ (m : ℕ). get_or last m 0) (sym z) in
        let c : Chain h before' i (get_or before' (i / 3) 0) (only (in_bucket seed n) j.back) = subst (λ (m : ℕ). Chain h before' i m (only (in_bucket seed n) j.back)) (sym v) (chain_set h before i (get_or last b 0) (j.chains n s) (omega arith)) in
        subst (Chain h before' (e + 1) (get_or last' n 0)) (sym (only_in seed n x j.back t)) (subst (λ (m : ℕ). Chain h before' (e + 1) m (x ∷ only (in_bucket seed n) j.back)) (sym w) (link (record { cut = k; inside = indexing_cut; is = q }) (omega arith) c)))
        (λ t.
        let w : get_or last' n 0 ≡ get_or last n 0 = get_or-set_other last b n i 0 (λ z. bucket_not seed n x t (sym (named x q) ∙ sym z)) in
        subst (Chain h before' (e + 1) (get_or last' n 0)) (sym (only_out seed n x j.back t)) (subst (λ (m : ℕ). Chain h before' (e + 1) m (only (in_bucket seed n) j.back)) (sym w) (chain_under h before' (chain_set h before i (get_or last b 0) (j.chains n s) (omega arith)) (omega arith))))

    indexing_on : Indexing seed h last' before' (e + 1)
    indexing_on =
        let t = turn in
        let x = read_is _ indexing_line in
        let r = lines_rest x.0 x.1 t.0 t.2 in
        record {
          fuel = t.0;
          reading = reading_on h i e t.0 t.1 k.low indexing_cut;
          good = r.0;
          back = x.0 ∷ j.back;
          is = t.3 ∙ ap (onto j.back) r.1 ∙ sym (onto_cons x.0 j.back _);
          buckets = length-set last b i ∙ j.buckets;
          places = omega (arith, length-set before (i / 3) (get_or last b 0), j.places);
          small = j.small;
          chains = chains_on x.0 x.1;
        }

-- the colon is searched first, and the LF from behind it on
module _ {seed : Seed} {h last before : Str} {i c : ℕ} (l : i < length h) (k : Cut 58 h i c) (j : Indexing seed h last before i) where
  line_good : absent (line_of (cut_at 58 (part h i (first_lf h i)))) ≡ false
  line_good = indexing_line seed h last before i _ l (lf_cut h i l) j

  pub colon_inside : c < length h
  colon_inside = omega (arith, colon_before h i c l k line_good, (lf_cut h i l).high)

  module _ {e : ℕ} (m : Cut 10 h (c + 1) e) where
    lf_is : first_lf h i ≡ e
    lf_is = sym (cut_until 10 h (c + 1) e m ∙ until_later (is 10) h i (c + 1) (omega (arith, k.low)) (omega (arith, colon_before h i c l k line_good)))

    line_ends : Cut 10 h i e
    line_ends = subst (Cut 10 h i) lf_is (lf_cut h i l)

    line_named : (b : ℕ) → b ≡ bucket_of seed (part h i c) → (x : Line) → line_of (cut_at 58 (part h i e)) ≡ some x → b ≡ bucket_of seed x.name
    line_named b q =
        let z : c < e = omega (arith, colon_before h i c l k line_good, lf_is) in
        line_bucket seed (part h i e) (c - i) (cut_part h i c e k z m.high) (ap (λ (n : ℕ). absent (line_of (cut_at 58 (part h i n)))) (sym lf_is) ∙ line_good) b (q ∙ ap (bucket_of seed) (sym (name_part h i c e k.low z)))

    pub line_inside : e < length h
    line_inside = indexing_cut seed h last before i e l line_ends j

    pub line_place : i / 3 < length before
    line_place = third_place seed h last before i e l line_ends j

    pub line_indexed : {b : ℕ} → b < bucket_count → b ≡ bucket_of seed (part h i c) → Indexing seed h (set last b i) (set before (i / 3) (get_or last b 0)) (e + 1)
    line_indexed {b} small q = indexing_on seed h last before i e l line_ends j b small (line_named b q)

pub indexing_done : (seed : Seed) (h last before : Str) (i : ℕ) → bad_headers h ≡ false → Indexing seed h last before i → length h ≤ i → Indexed seed h last before
indexing_done seed h last before i g j l = record {
  back = j.back;
  is = j.is ∙ ap (onto j.back) (ap or_nothing (lines_over h i j.fuel l) ∙ written_some []);
  short = headers_short h g;
  small = j.small;
  buckets = j.buckets;
  places = j.places;
  chains = λ b s. chain_under h before (j.chains b s) j.reading.inside;
}

-- a bucket is in the index
pub bucket_inside : (seed : Seed) (name last : Str) (b : ℕ) → b ≡ bucket_of seed name → length last ≡ bucket_count → b < length last
bucket_inside seed name last b e l = omega (arith, place_within seed name bucket_count b e (omega arith), l)

-- ---- HeaderIndex::value

-- the lines from p on are still to be gathered; the values of those after them are stored from `at` on, each after a comma
pub record Gathering (key h before out : Str) (p at : ℕ) : Type 0 where
  pub top : ℕ
  pub left : List Line
  pub got : List Str
  pub chain : Chain h before top p left
  pub is : values_of key (or_nothing (headers_of h)) ≡ gather key left got
  pub stored : drop at out ≡ commaed got
  pub low : top ≤ length h
  pub high : at ≤ length out
  pub room : length out + top ≤ at + length h

pub gathering_start : (seed : Seed) (key h last before out : Str) (b : ℕ) → Indexed seed h last before → b ≡ bucket_of seed key → b < bucket_count → Gathering key h before out (get_or last b 0) (length out)
gathering_start seed key h last before out b x q s = record {
  top = length h;
  left = only (in_bucket seed b) x.back;
  got = [];
  chain = x.chains b s;
  is = ap (values_of key) x.is ∙ gathered key x.back ∙ one_bucket seed key b (sym q) x.back [];
  stored = let z : length out ≤ length out = omega arith in drop_of_length-le out z ∙ sym commaed_nil;
  low = omega arith;
  high = omega arith;
  room = omega arith;
}

-- what falls from turn to turn
unfoldable pub steps : Str → ℕ → ℕ
steps h p = whether ltb p (length h) then suc p else 0

-- the line at p
pub record Linked (key h before out : Str) (p e at : ℕ) : Type 0 where
  pub line : Line
  pub rest : List Line
  pub got : List Str
  pub top : ℕ
  pub stands : LineAt h p e line
  pub under : e < top
  pub chain : Chain h before p (get_or before (p / 3) 0) rest
  pub is : values_of key (or_nothing (headers_of h)) ≡ gather key (line ∷ rest) got
  pub stored : drop at out ≡ commaed got
  pub low : top ≤ length h
  pub high : at ≤ length out
  pub room : length out + top ≤ at + length h

module _ (key h before out : Str) (p at e : ℕ) (l : p < length h) (k : Cut 10 h p e) where
  linked_chain : {top : ℕ} {left : List Line} (got : List Str) → Chain h before top p left → values_of key (or_nothing (headers_of h)) ≡ gather key left got → drop at out ≡ commaed got → top ≤ length h → at ≤ length out → length out + top ≤ at + length h → Linked key h before out p e at
  linked_chain got (stop q) is s a b c = absurd (omega arith)
  linked_chain {top = top} got (link {e = f} {x = x} {l = r} o u c) is s a b d =
      let z = cut_same 10 h p f e o.cut k in
      record { line = x; rest = r; got = got; top = top; stands = subst (λ (m : ℕ). LineAt h p m x) z o; under = omega arith; chain = c; is = is; stored = s; low = a; high = b; room = d }

  pub linked : Gathering key h before out p at → Linked key h before out p e at
  linked g = linked_chain g.got g.chain g.is g.stored g.low g.high g.room

  read_known : {x : Line} {o : Option Line} → o ≡ some x → absent o ≡ false
  unfolding absent
  read_known q = rw q

  module _ (g : Linked key h before out p e at) where
    pub linked_line : absent (line_of (cut_at 58 (part h p e))) ≡ false
    linked_line = read_known g.stands.is

    pub linked_long : length (part h p e) ≡ e - p
    linked_long = part_long h p e k.high

    pub linked_room : length h ≤ length out → length (part h p e) ≤ at
    linked_room w = omega (arith, linked_long, g.room, g.under, g.low)

    pub linked_place : length h ≤ 3 * length before → p / 3 < length before
    linked_place q = third_small p (length h) (length before) l q

    -- a chain falls
    chain_falls : {q : ℕ} {r : List Line} → Chain h before p q r → steps h q < suc p
    unfolding steps whether◌then◌else◌
    chain_falls {q = q} (stop x) = rw (le-ltb q (length h) x) (omega arith)
    chain_falls {q = q} (link o u c) = let y = o.cut.low in let z = o.inside in rw (lt-ltb q (length h) (omega arith)) (omega arith)

    pub steps_fall : steps h (get_or before (p / 3) 0) < steps h p
    unfolding steps whether◌then◌else◌
    steps_fall = rw (lt-ltb p (length h) l) (chain_falls g.chain)

    module _ (out' : Str) (to : ℕ) (w : Wrote out to (line_value key (part h p e)) out' at) (near : at ≤ to + length (part h p e)) where
      pub linked_kept : length out' ≡ length out
      linked_kept = wrote_long out to _ out' at w (omega (arith, w.ends, g.high))

      -- what was stored, and what stood after it
      back_part : drop to out' ≡ line_value key (part h p e) ++ drop at out
      unfolding put
      back_part =
          let a : length (take to out) ≡ to = length-take-le to out (omega (arith, w.ends, g.high)) in
          ap (drop to) w.same ∙ drop_at (take to out) _ to a ∙ ap (λ (n : ℕ). line_value key (part h p e) ++ drop n out) (sym w.ends)

      pub gathering_on : Gathering key h before out' (get_or before (p / 3) 0) to
      gathering_on =
          let n = linked_kept in
          record {
            top = p;
            left = g.rest;
            got = values_of key (g.line ∷ []) ++ g.got;
            chain = g.chain;
            is = g.is ∙ gather_cons key g.line g.rest g.got;
            stored = back_part ∙ ap (λ (v : Str). v ++ drop at out) (line_value_lem key (part h p e) g.line g.stands.is) ∙ ap (λ (v : Str). commaed (values_of key (g.line ∷ [])) ++ v) g.stored ∙ sym (commaed_append (values_of key (g.line ∷ [])) g.got);
            low = omega arith;
            high = omega (arith, w.ends, g.high);
            room = omega (arith, near, linked_long, g.room, g.under, g.low);
          }

module _ (key h before out : Str) (p at : ℕ) (l : length h ≤ p) where
  chain_over : {top : ℕ} {left : List Line} → Chain h before top p left → left ≡ []
  chain_over (stop q) = refl
  chain_over (link o u c) = absurd (omega (arith, o.inside, o.cut.low))

  module _ (g : Gathering key h before out p at) where
    value_is : header_value key (or_nothing (headers_of h)) ≡ drop 1 (drop at out)
    unfolding header_value
    value_is = ap joined (g.is ∙ ap (λ (m : List Line). gather key m g.got) (chain_over g.chain) ∙ gather_nil key g.got) ∙ joined_is g.got ∙ ap (drop 1) (sym g.stored)

    -- without the first comma
    pub joined_value : (r : ℕ) → r ≡ min (at + 1) (length out) → Joined key h out r
    joined_value r m = record { is = rw m (drop_min (at + 1) out ∙ sym (value_is ∙ drop-drop 1 at out)); high = omega (arith, m) }
