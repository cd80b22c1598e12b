-- Each way out of take_member: its answer is the frame's number, and what is kept.
use mathlib.Core.Path.{◌≡◌, refl, sym, ap, ap₂, ◌∙◌}
use mathlib.Core.Bool.{Bool, true, false, not, ◌||◌}
use mathlib.Core.List.{List, [], ◌∷◌, ◌++◌}
use mathlib.Core.Option.{some}
use Prim.Native.Nat.{ℕ, suc, ◌+◌, ◌-◌, ◌%◌, ◌≤◌, ◌<◌}
use native.Mathlib.Omega.{arith}
use borrow.Author.Tests.{leb-false, eqb-false, ltb-true, ltb-false, eq-eqb, ne_eqb}
use lib.Dec.{eqb, ltb, leb}
use lib.ListN.{length, take, drop, get_or, set, length-append, length-drop}
use lib.Seq.{take_at}
use Rattle.limits.specs.Limits.{max_members, max_string}
use Rattle.limits.specs.Sizes.{max_table_bytes}
use Rattle.text.specs.Test.{◌and◌, ◌or◌, any, all}
use Rattle.text.specs.Byte.{is_print}
use Rattle.text.specs.String.{Str, same}
use Rattle.text.specs.Refusal.{clear}
use Rattle.text.specs.Frame.{got, string, string_bytes, part}
use Rattle.text.specs.Steps.{end_of}
use Rattle.std.specs.Prelude.{Option, Some, None}
use Rattle.text.proofs.Tests.{by, bool_ext, and_l, and_r, both, same→≡, ≡→same, or_false_r, or_is}
use Rattle.text.proofs.Frames.{string_misses}
use Rattle.text.proofs.Codec.{Took, took_both, string_took, string_gives}
use Rattle.path.specs.Refusal.{unsized}
use Rattle.text_sorted.specs.Spans.{span_of}
use Rattle.text_sorted.specs.declared.Found.{Found}
use Rattle.text_set.specs.Set.{Met, added}
use Rattle.text_set.proofs.Sets.{holds_grows, added_long}
use Rattle.table_rows.specs.Strings.{strings_in, place, hash_of}
use Rattle.table_rows.proofs.Grow.{rows_length, strings_length, place_any, place_le}
use Rattle.table.specs.Table.{Member}
use Rattle.table.specs.Frame.{member, entry_of}
use Rattle.table.specs.Refusal.{Earlier, reads, framed, out_of_order, kind_of, past_limit, strays, stray, misplaces, same_member, repeats, listed, unlisted, refusal}
use Rattle.table.specs.Layout.{kind_member}
use Rattle.table.specs.Walk.{OfKind, merged, unsized_by}
use Rattle.table.proofs.Numbers.{long_is, stray_is, number_four, number_plain, merged_clear}
use Rattle.table.proofs.Frames.{member_unread, member_userless, member_off, member_read}
use Rattle.table.proofs.Versions.{refused_unread, refused_read}
use Rattle.table_keep.specs.Held.{member_places, first_member_place, member_keys, members_in, member_bytes, bytes_of, member_place, MemberReady, MemberKept}
use Rattle.table_keep.proofs.Names.{new_span, new_inside}

-- a string that stands at a position ends at t
abbrev StringAt : List ℕ → ℕ → ℕ → Type 0
StringAt f at t = (string f at ≡ got (part f (at + 1) t) t) × (at + 1 ≤ t) × (t ≤ length f)

-- ---- members as bytes

module _ (m n : Member) where
  bytes_told : member_bytes m ≡ member_bytes n → (m.group ≡ n.group) × (m.user ≡ n.user)
  unfolding member_bytes string_bytes
  bytes_told e =
      let a = string_gives (member_bytes m) 0 m.group (string_bytes m.user) refl in
      let b = string_gives (member_bytes n) 0 n.group (string_bytes n.user) refl in
      let q : got m.group a.0 ≡ got n.group b.0 = sym a.1 ∙ ap (λ (f : List ℕ). string f 0) e ∙ b.1 in
      let g : m.group ≡ n.group = cc in
      let t : a.0 ≡ b.0 = cc in
      let u : length m.user ∷ m.user ≡ length n.user ∷ n.user = sym a.2 ∙ ap₂ drop t e ∙ b.2 in
      (g, cc)

  pub member_bytes_lem : same_member m n ≡ same (member_bytes m) (member_bytes n)
  unfolding same_member member_bytes
  member_bytes_lem =
      bool_ext _ _
      (λ t. ≡→same (ap₂ (λ (g u : Str). string_bytes g ++ string_bytes u) (same→≡ _ _ (and_l _ _ t)) (same→≡ _ _ (and_r _ _ t))))
      (λ t. let k = bytes_told (same→≡ _ _ t) in both _ _ (≡→same k.0) (≡→same k.1))

any_bytes : (m : Member) (ms : List Member) → any (same_member m) ms ≡ any (same (member_bytes m)) (bytes_of ms)
unfolding any bytes_of
any_bytes m [] = refl
any_bytes m (n ∷ ms) = ap₂ ◌or◌ (member_bytes_lem m n) (any_bytes m ms)

bytes_length : (ms : List Member) → length (bytes_of ms) ≡ length ms
unfolding bytes_of
bytes_length [] = refl
bytes_length (m ∷ ms) = ap suc (bytes_length ms)

pub bytes_snoc : (ms : List Member) (m : Member) → bytes_of (ms ++ (m ∷ [])) ≡ bytes_of ms ++ (member_bytes m ∷ [])
unfolding bytes_of
bytes_snoc [] m = refl
bytes_snoc (n ∷ ms) m = ap (λ (l : List Str). member_bytes n ∷ l) (bytes_snoc ms m)

-- what was taken is that part of the bytes
part_took : (f : List ℕ) (a t : ℕ) (s : Str) → Took f a s t → part f a t ≡ s
part_took f a t s k =
    let l : length s ≡ t - a = omega (arith, sym (length-drop a f) ∙ ap length k.same ∙ length-append s (drop t f), length-drop t f, k.fits) in
    ap (take (t - a)) k.same ∙ take_at s (drop t f) (t - a) l

-- ---- their places

pub place_far : (y : Str) → (max_members < member_place y) × (member_place y < member_keys)
unfolding member_place
place_far y = (omega arith, omega arith)

pub place_is_told : (y : Str) (h p : ℕ) → h ≡ hash_of y → p ≡ first_member_place + h % member_places → p ≡ member_place y
unfolding member_place
place_is_told y h p e i = rw (i, e)

-- ---- a name without a place is not listed

pub unlisted_is : (name : Str) (groups : List Str) (p n : ℕ) → p ≡ place name groups → n ≡ length groups → eqb p n ≡ not (listed groups name)
unfolding listed
unlisted_is name groups p n e l =
    by (ltb (place name groups) (length groups))
    (λ t. let h : place name groups < length groups = ltb-true _ _ t in rw (place_any name groups, t) (ne_eqb p n (λ q. omega arith)))
    (λ t. let h : length groups ≤ place name groups = ltb-false _ _ t in rw (place_any name groups, t) (eq-eqb p n (omega (arith, place_le name groups))))

pub listed_is : (name : Str) (groups : List Str) (p n : ℕ) → p ≡ place name groups → n ≡ length groups → eqb p n ≡ false → place name groups < length groups
listed_is name groups p n e l h = let k : p ≡ n → ⊥ = eqb-false _ _ h in omega (arith, place_le name groups)

pub place_small : (name : Str) (f starts : List ℕ) (n p : ℕ) → p ≡ place name (strings_in f starts n 0) → p ≤ n
place_small name f starts n p e = omega (arith, place_le name (strings_in f starts n 0), strings_length f starts n)

-- the groups are those of the same bytes
pub place_same : (name : Str) (old old' starts : List ℕ) (n p : ℕ) → old ≡ old' → p ≡ place name (strings_in old' starts n 0) → p ≡ place name (strings_in old starts n 0)
place_same name old old' starts n p e h = rw e h

-- ---- the frame does not read

module _ (f : Str) (kind : OfKind kind_member f) (b : Earlier) where
  pub member_short : {r : Option ℕ} → r ≡ end_of (string f 1) → r ≡ None → 3 ≡ refusal b (framed (entry_of f))
  member_short i g = refused_unread b f (member_unread f kind.0 kind.1 (string_misses f 1 _ i g))

  module _ {m : ℕ} (group : StringAt f 1 m) where
    pub member_half : {r : Option ℕ} → r ≡ end_of (string f m) → r ≡ None → 3 ≡ refusal b (framed (entry_of f))
    member_half i g = refused_unread b f (member_userless f kind.0 kind.1 _ m group.0 (string_misses f m _ i g))

    pub member_long : {t : ℕ} → StringAt f m t → (t ≡ length f → ⊥) → 3 ≡ refusal b (framed (entry_of f))
    member_long user n = refused_unread b f (member_off f kind.0 kind.1 _ m group.0 _ _ user.0 n)

-- ---- the frame reads

-- what is known then: the group's string ends at `middle`, the user's at `end`
pub record Read : Type 0 where
  pub old : List ℕ
  pub f : List ℕ
  pub starts : List ℕ
  pub count : ℕ
  pub users : List ℕ
  pub owners : List ℕ
  pub keys : List ℕ
  pub n : ℕ
  pub ready : MemberReady old f starts count users owners keys n
  pub room : length old + length f ≤ max_table_bytes
  pub middle : ℕ
  pub end : ℕ
  pub group : StringAt f 1 middle
  pub user : StringAt f middle end
  pub whole : end ≡ length f

abbrev pub reading : {old f starts users owners keys : List ℕ} {count n middle end : ℕ} → MemberReady old f starts count users owners keys n
    → length old + length f ≤ max_table_bytes → StringAt f 1 middle → StringAt f middle end → end ≡ length f → Read
reading {old} {f} {starts} {users} {owners} {keys} {count} {n} {middle} {end} ready room group user whole = record {
  old = old;
  f = f;
  starts = starts;
  count = count;
  users = users;
  owners = owners;
  keys = keys;
  n = n;
  ready = ready;
  room = room;
  middle = middle;
  end = end;
  group = group;
  user = user;
  whole = whole;
}

module _ (R : Read) where
  abbrev name : Str
  name = part R.f 2 R.middle

  abbrev user : Str
  user = part R.f (R.middle + 1) R.end

  abbrev key : Str
  key = part R.f 1 R.end

  abbrev this : Member
  this = record { group = name; user = user }

  abbrev groups : List Str
  groups = strings_in R.old R.starts R.count 0

  abbrev members : List Member
  members = members_in groups R.owners R.old R.users R.n

  abbrev five : ℕ → Bool
  five k = (unsized name or unsized user) or leb max_members k

  abbrev six : Bool
  six = stray name or stray user

  member_reads : entry_of R.f ≡ some (member this)
  member_reads = let kind = R.ready.kind in member_read R.f kind.0 kind.1 _ R.middle R.group.0 _ R.end R.user.0 R.whole

  order : (b : Earlier) (last : ℕ) (o : Bool) → b.kind ≡ last → out_of_order last kind_member ≡ o → out_of_order b.kind (kind_of (member this)) ≡ o
  unfolding kind_of
  order b last o w q = rw w q

  pub member_four : {last : ℕ} → out_of_order last kind_member ≡ true → (b : Earlier) → b.kind ≡ last → 4 ≡ refusal b (framed (entry_of R.f))
  member_four h b w = refused_read b R.f _ 4 member_reads (number_four b _ (order b _ _ w h))

  -- the bytes after the kind byte
  key_is : key ≡ member_bytes this
  unfolding member_bytes
  key_is =
      part_took R.f 1 R.end _
      (took_both R.f 1 R.middle R.end _ _ (string_took R.f 1 name R.middle R.group.0) (string_took R.f R.middle user R.end R.user.0))

  count_is : length (bytes_of members) ≡ R.n
  unfolding members_in
  count_is = bytes_length _ ∙ rows_length _ R.n 0

  -- the number, once the calls told of both strings
  pub number_told : (u v x y : Bool) (p owner : ℕ) (z : Found)
      → u ≡ unsized_by max_string (length name) → v ≡ unsized_by max_string (length user) → x ≡ all is_print name → y ≡ all is_print user
      → p ≡ merged clear ((u || v) || leb max_members R.n) (not x || not y) z.again (eqb owner R.count)
      → p ≡ merged clear (five R.n) six z.again (eqb owner R.count)
  number_told u v x y p owner z uu vv xx yy e =
      let is_five : ((u || v) || leb max_members R.n) ≡ five R.n =
      rw (uu, vv, long_is name (length name) refl, long_is user (length user) refl, or_is (unsized name) (unsized user)) (or_is (unsized name or unsized user) (leb max_members R.n)) in
      let is_six : (not x || not y) ≡ six = rw (stray_is name x xx, stray_is user y yy) (or_is (stray name) (stray user)) in
      e ∙ ap₂ (λ (s t : Bool). merged clear s t z.again (eqb owner R.count)) is_five is_six

-- ---- and it is judged

-- what the calls told then
pub record Judged : Type 0 where
  pub read : Read
  pub last : ℕ
  pub ordered : out_of_order last kind_member ≡ false
  pub owner : ℕ
  pub owner_is : owner ≡ place (name read) (groups read)
  pub hash : ℕ
  pub hash_is : hash ≡ hash_of (key read)
  pub found : Found
  pub found_is : Met read.old read.keys max_members (first_member_place + hash % member_places) (key read) found
  pub number : ℕ
  pub number_is : number ≡ merged clear (five read read.n) (six read) found.again (eqb owner read.count)

abbrev pub judging : (R : Read) (last : ℕ) {o : Bool} → o ≡ out_of_order last kind_member → o ≡ false
    → {owner : ℕ} → owner ≡ place (name R) (groups R) → {hash : ℕ} → hash ≡ hash_of (key R)
    → {found : Found} → Met R.old R.keys max_members (first_member_place + hash % member_places) (key R) found
    → {u v x y : Bool} → u ≡ unsized_by max_string (length (name R)) → v ≡ unsized_by max_string (length (user R))
    → x ≡ all is_print (name R) → y ≡ all is_print (user R)
    → {number : ℕ} → number ≡ merged clear ((u || v) || leb max_members R.n) (not x || not y) found.again (eqb owner R.count) → Judged
judging R last {o} p q {owner} owned {hash} hashed {found} met uu vv xx yy {number} e = record {
  read = R;
  last = last;
  ordered = sym p ∙ q;
  owner = owner;
  owner_is = owned;
  hash = hash;
  hash_is = hashed;
  found = found;
  found_is = met;
  number = number;
  number_is = number_told R _ _ _ _ number owner found uu vv xx yy e;
}

module _ (J : Judged) where
  abbrev R : Read
  R = J.read

  spot : first_member_place + J.hash % member_places ≡ member_place (key R)
  spot = place_is_told (key R) J.hash (first_member_place + J.hash % member_places) J.hash_is refl

  met : Met R.old R.keys max_members (member_place (key R)) (key R) J.found
  met = rw spot at J.found_is

  again_is : J.found.again ≡ any (same_member (this R)) (members R)
  again_is = met.told ∙ sym (R.ready.held.told (key R)) ∙ ap (λ (l : Str). any (same l) (bytes_of (members R))) (key_is R) ∙ sym (any_bytes (this R) _)

  pub member_graded : (b : Earlier) → b.kind ≡ J.last → b.groups ≡ groups R → b.members ≡ members_in b.groups R.owners R.old R.users R.n
      → J.number ≡ refusal b (framed (entry_of R.f))
  unfolding past_limit strays misplaces repeats unlisted members_in
  member_graded b w gg bb =
      let held : b.members ≡ members R = bb ∙ ap (λ (l : List Str). members_in l R.owners R.old R.users R.n) gg in
      let long : length b.members ≡ R.n = ap length held ∙ rows_length _ R.n 0 in
      let eight : J.found.again ≡ any (same_member (this R)) b.members = again_is ∙ ap (any (same_member (this R))) (sym held) in
      let nine : eqb J.owner R.count ≡ not (listed b.groups (name R)) =
      unlisted_is (name R) (groups R) J.owner R.count J.owner_is (sym (strings_length R.old R.starts R.count)) ∙ ap (λ (l : List Str). not (listed l (name R))) (sym gg) in
      refused_read b R.f _ J.number (member_reads R)
      (number_plain b _ (order R b _ _ w J.ordered) J.number _ _ _ _ J.number_is (ap (five R) (sym long)) refl refl eight nine)

  module _ (fine : J.number ≡ clear) where
    clear_is : (five R R.n ≡ false) × (eqb J.owner R.count ≡ false) × (J.found.again ≡ false)
    clear_is = merged_clear clear (five R R.n) (six R) J.found.again (eqb J.owner R.count) (sym J.number_is ∙ fine)

    -- there is room for the member
    pub member_room : R.n < max_members
    member_room = leb-false max_members R.n (or_false_r (unsized (name R) or unsized (user R)) _ clear_is.0)

    sorted_room : get_or R.keys max_members 0 < max_members
    sorted_room = omega (arith, R.ready.held.few, count_is R, member_room)

    -- and in the set
    pub set_room : (J.found.at ≤ get_or R.keys max_members 0) × (get_or R.keys max_members 0 < max_members) × (first_member_place + J.hash % member_places < length R.keys)
    set_room = (met.fits, sorted_room, omega (arith, R.ready.long))

    pub member_kept : (keys' : List ℕ) → keys' ≡ added R.keys max_members (first_member_place + J.hash % member_places) J.found.at (span_of (length R.old + 1) (length R.old + R.end))
        → MemberKept (groups R) R.old R.f R.users R.owners R.n (set R.users R.n (length R.old + R.middle)) (set R.owners R.n J.owner) keys'
    member_kept keys' q =
        let w = R.user in
        let a : 1 ≤ R.end = omega (arith, w.1) in
        let small = R.room in
        record {
          group = name R;
          user = user R;
          at = R.middle;
          reads = member_reads R;
          stands = w.0 ∙ ap (λ (j : ℕ). got (user R) j) R.whole;
          room = member_room;
          listed = listed_is (name R) (groups R) J.owner R.count J.owner_is (sym (strings_length R.old R.starts R.count)) clear_is.1;
          users_set = refl;
          owners_set = ap (set R.owners R.n) J.owner_is;
          keys_long = ap length q ∙ added_long R.keys max_members (first_member_place + J.hash % member_places) J.found.at _ met.fits (omega (arith, sorted_room, R.ready.long)) ∙ R.ready.long;
          held =
              rw (q, spot, ← key_is R)
              (holds_grows R.f (λ y. ((place_far y).0, omega (arith, (place_far y).1, R.ready.long))) R.ready.held (key R) J.found met clear_is.2 (span_of (length R.old + 1) (length R.old + R.end))
              (new_span R.old R.f 1 R.end a w.2 (omega (arith, small))) (new_inside R.old R.f 1 R.end a w.2 (omega (arith, small))) (omega arith) (omega (arith, count_is R, member_room)));
        }
