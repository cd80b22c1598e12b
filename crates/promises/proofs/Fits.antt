-- What a call answers fits its word: a refusal number is one byte and not 0, a line has 32 bits and comes with numbers 1 to 9 and 51 alone, the number of a rule
-- or a group has 16 bits with 1 added, a count is one byte, a length has 32 bits.
use Prim.Native.Nat.{ℕ, suc, ◌+◌, ◌<◌, ◌≤◌, ◌^◌}
use mathlib.Core.Path.{◌≡◌, refl, ap}
use mathlib.Core.Logic.{◌⊎◌, inl, inr}
use mathlib.Core.Bool.{Bool, true, false}
use mathlib.Core.List.{List, [], ◌∷◌, map}
use mathlib.Core.Option
use mathlib.Core.Option.{Option, none, some, Option-elim}
use native.Mathlib.Omega.{arith}
use borrow.Author.Tests.{ltb-false, eqb-true, eqb-false}
use lib.Dec.{eqb, ltb, leb}
use lib.ListN.{length}
use Rattle.limits.specs.Limits.{max_table_text, max_groups, max_list_rules, max_policy_text, max_log_lines}
use Rattle.text.specs.Test.{◌and◌, whether◌then◌else◌, absent}
use Rattle.text.specs.String.{Str, bytes, same}
use Rattle.text.specs.Refusal.{◌when◌else◌, clear}
use Rattle.text.proofs.Tests.{by, same→≡}
use Rattle.path_read.specs.Calls.{bytes_for, text_for, answer}
use Rattle.path_read.specs.Filled.{Filled}
use Rattle.path_read.specs.Filled as filled
use Rattle.path_read.proofs.Longest.{bytes_bound, text_bound}
use Rattle.table_line.specs.Lines.{onto, lines}
use Rattle.table.specs.Table.{Member, Table}
use Rattle.table.specs.Table as table
use Rattle.table.specs.Refusal.{Line, not_hex, unreadable, reads, line_of, Earlier, refusal, first, after}
use Rattle.table.specs.Text.{unless, judge, check, table_of}
use Rattle.table.specs.Group.{lists, numbered, memberships, groups_of, counted, bad_user, count_for, group_count}
use Rattle.table.specs.Checked.{Checked}
use Rattle.table.specs.Checked as checked
use Rattle.table.specs.Counted.{Counted}
use Rattle.table.specs.Counted as count
use Rattle.verdict.specs.Order.{Numbered, better, earlier, choose}
use Rattle.verdict.specs.Verdict.{Tree, NONE, word, answer as tree_of, decider, matches, opposes, permits, tree}
use Rattle.verdict.proofs.Choose as chosen
use Rattle.verdict_order.proofs.Reordered.{accepted_whole}
use Rattle.verdict_request.specs.Calls.{request_refusal, request, decided_by, path_answer, path_verdict, spread, tree_answer, tree_verdict}
use Rattle.verdict_request.specs.PathAnswer.{PathAnswer}
use Rattle.verdict_request.specs.PathAnswer as path
use Rattle.verdict_request.specs.TreeAnswer.{TreeAnswer}
use Rattle.verdict_request.specs.TreeAnswer as trees
use Rattle.request_log.specs.Request.{request_of}
use Rattle.request_log.specs.Log.{judge_log, check_log, log_of}
use Rattle.season.specs.Calls.{first_fault, fault, report_of, answered, season_answer}
use Rattle.season.proofs.Figures.{report_short}
use Rattle.season.proofs.Asked.{log_few}
use Rattle.season.specs.declared.Reported.{Reported}
use Rattle.season.specs.declared.Reported.TheVariants as reported
use Rattle.json_grammar.specs.Json.{Json, jnull, jtrue, jfalse, jnumber, jstring, jlist, jobject, Values, vnil, vcons, Members, mnil, mcons, list_of}
use Rattle.json_grammar.specs.Parser.{parse}
use Rattle.json_tree.specs.Names.{repeats}
use Rattle.policy_limit.specs.Size.{least, size_refusal}
use Rattle.policy_limit.specs.declared.Row.{Row}
use Rattle.policy_limit.specs.declared.Row.TheVariants as row
use Rattle.policy_limit.proofs.Least.{above_least}
use Rattle.policy.specs.Schema.{kind_named, kind_in, fields, item_kind, policy_kind}
use Rattle.policy.specs.Text.{text_refusal}
use Rattle.policy.specs.Refusal.{refusal_of, items_refusal, members_refusal}
use Rattle.policy.specs.Policy.{Rule, Policy, find, member, items, rule_in, policy_in, rule_twice, tree_refusal, parsed_refusal, policy_refusal, policy_of}
use Rattle.policy.specs.declared.schema.Role.{Role}
use Rattle.policy.specs.declared.schema.Role.TheVariants as role
use Rattle.policy.specs.declared.schema.Form.{Form}
use Rattle.policy.specs.declared.schema.Form.TheVariants.{Top}
use Rattle.policy.specs.declared.schema.Kind.{Kind}
use Rattle.policy.specs.declared.schema.Kind.TheVariants.{Text, Listing, Object}
use Rattle.policy_walk.proofs.Labels.{row_few}
use Rattle.policy_check.specs.Answer.{check_of}
use Rattle.policy_check.specs.Answer.{Check}
use Rattle.policy_check.specs.Answer as policy
use Rattle.rpc.specs.Request.{Request, rpc_refusal}
use Rattle.rpc.specs.Verdict.{rule_matches, first_from, allowed, decided}
use Rattle.rpc.specs.Verdict as rpcs
use Rattle.rpc.specs.Call.{request as rpc_request, verdict_by, refused_else, rpc_verdict}
use Rattle.rpc.specs.Answer.{Verdict}
use Rattle.rpc.specs.Answer as rpc
use Rattle.rotation.specs.State.{record_refusal, in_force, text_in}
use Rattle.rotation.specs.Calls.{start_refusal, off_refusal, finalize_refusal, probe_refusal, stepped, start, upload_answer, upload, finalize, close}
use Rattle.rotation.specs.declared.Record.{Record}
use Rattle.rotation.specs.State.{InForce}
use Rattle.rotation.specs.State as force
use Rattle.rotation_upload.specs.Offered.{of_policy, offered_check}
use Rattle.rotation_probe.specs.Probe.{probed, path_on, path_refused, probe_path, tree_on, tree_refused, probe_tree}
use Rattle.rotation_probe.specs.Rpc.{factory_rpc, rpc_on, rpc_refused, probe_rpc}
use Rattle.season.proofs.Totals.{below}
use Rattle.rotation_probe.specs.Answer.{RpcAnswer}
use Rattle.rotation_probe.specs.Answer as probe

-- ---- what fits

-- a refusal number, and its line
pub record Refusal (n l : ℕ) : Type 0 where
  pub number : 0 < n
  pub byte : n < 2 ^ 8
  pub bits : l < 2 ^ 32
  pub lineless : 9 < n → (n ≡ 51 → ⊥) → l ≡ 0

-- a rule's or a group's number
abbrev pub Number : ℕ → Type 0
Number n = n + 1 < 2 ^ 16

abbrev pub FilledFits : Filled → Type 0
FilledFits (filled.Length n) = n < 2 ^ 32
FilledFits (filled.Refused n) = Refusal n 0

abbrev pub CheckedFits : Checked → Type 0
CheckedFits checked.Accepted = Unit {0}
CheckedFits (checked.Refused n l) = Refusal n l

abbrev pub CountedFits : Counted → Type 0
CountedFits (count.Count n g) = (n < 2 ^ 8) × Number g.0
CountedFits count.NoGroup = Unit {0}
CountedFits (count.Declined n l) = Refusal n l

abbrev pub PathFits : PathAnswer → Type 0
PathFits (path.Permit r) = Number r.0
PathFits (path.Deny r) = Number r.0
PathFits path.Default = Unit {0}
PathFits (path.Refused n l) = Refusal n l

abbrev pub TreeFits : TreeAnswer → Type 0
TreeFits trees.All = Unit {0}
TreeFits trees.None = Unit {0}
TreeFits (trees.Mixed r) = Number r.0
TreeFits (trees.Refused n l) = Refusal n l

abbrev pub ReportedFits : Reported → Type 0
ReportedFits (reported.Length n) = n < 2 ^ 32
ReportedFits (reported.Refused n l) = Refusal n l

abbrev pub PolicyFits : Check → Type 0
PolicyFits policy.Accepted = Unit {0}
PolicyFits (policy.Refused n) = Refusal n 0

abbrev pub RpcFits : Verdict → Type 0
RpcFits (rpc.Refused n) = Refusal n 0
RpcFits (rpc.Denied n) = Number n
RpcFits (rpc.Permitted n) = Number n
RpcFits rpc.Default = Unit {0}

abbrev pub ProbeFits : RpcAnswer → Type 0
ProbeFits probe.PermitAll = Unit {0}
ProbeFits (probe.Judged v) = RpcFits v

-- ---- refusal numbers

bare : (n : ℕ) → 0 < n → n < 2 ^ 8 → Refusal n 0
bare n p b = record { number = p; byte = b; bits = omega arith; lineless = λ h k. refl }

none_at_all : Refusal clear 0
none_at_all = bare clear (omega arith) (omega arith)

either : (t : Bool) (n m : ℕ) → Refusal n 0 → Refusal m 0 → Refusal (n when t else m) 0
unfolding whether◌then◌else◌
either true n m a b = a
either false n m a b = b

-- a number of the rules, or the next
or_else : (t : Bool) (n m : ℕ) → 0 < n → n < 2 ^ 8 → Refusal m 0 → Refusal (n when t else m) 0
or_else t n m p b h = either t n m (bare n p b) h

unless_fits : (n : ℕ) (c : Checked) → Refusal n 0 → CheckedFits c → CheckedFits (unless n 0 c)
unfolding unless whether◌then◌else◌
unless_fits n c a b = by (eqb n clear) (λ t. rw t b) (λ t. rw t a)

-- ---- paths

answer_fits : (out : Str) (o : Option Str) → ((s : Str) → o ≡ some s → length s < 2 ^ 32) → FilledFits (answer out o)
unfolding answer whether◌then◌else◌
answer_fits out none h = bare 22 (omega arith) (omega arith)
answer_fits out (some s) h = by (leb (length s) (length out)) (λ t. rw t (h s refl)) (λ t. rw t (bare 23 (omega arith) (omega arith)))

pub read_fits : (text out : Str) → FilledFits (answer out (bytes_for text))
read_fits text out = answer_fits out (bytes_for text) (λ s e. let h = bytes_bound text s e in omega arith)

pub write_fits : (f out : Str) → FilledFits (answer out (text_for f))
write_fits f out = answer_fits out (text_for f) (λ s e. let h = text_bound f s e in omega arith)

-- ---- tables

onto_few : (t : Bool) (b : ℕ) (ls : List Str) → length (onto t b ls) ≤ length ls + 1
unfolding onto
onto_few true b ls = omega arith
onto_few false b [] = omega arith
onto_few false b (l ∷ ls) = omega arith

lines_few : (s : Str) → length (lines s) ≤ length s
unfolding lines
lines_few [] = omega arith
lines_few (b ∷ s) = let h = onto_few (eqb b 10) b (lines s) in let k = lines_few s in omega arith

-- a line's number: 1 to 9, or none
abbrev OfLine : ℕ → Type 0
OfLine n = (0 < n) × ((n ≤ 9) ⊎ (n ≡ clear))

line_when : (t : Bool) (n m : ℕ) → 0 < n → n ≤ 9 → OfLine m → OfLine (n when t else m)
unfolding whether◌then◌else◌
line_when true n m p q h = (p, inl q)
line_when false n m p q h = h

line_number_lem : (b : Earlier) (l : Line) → OfLine (refusal b l)
unfolding refusal
line_number_lem b not_hex = (omega arith, inl (omega arith))
line_number_lem b unreadable = (omega arith, inl (omega arith))
line_number_lem b (reads e) =
    line_when _ 4 _ (omega arith) (omega arith) (line_when _ 5 _ (omega arith) (omega arith) (line_when _ 6 _ (omega arith) (omega arith)
    (line_when _ 7 _ (omega arith) (omega arith) (line_when _ 8 _ (omega arith) (omega arith) (line_when _ 9 _ (omega arith) (omega arith) (omega arith, inr refl))))))

at_line : (n line : ℕ) → OfLine n → line < 2 ^ 32 → (n ≡ clear → ⊥) → Refusal n line
at_line n line (p, inl q) b bad = record { number = p; byte = omega arith; bits = b; lineless = λ h k. absurd (omega arith) }
at_line n line (p, inr q) b bad = absurd (bad q)

judge_fits : (number : ℕ) (b : Earlier) (ls : List Str) → number + length ls < 2 ^ 32 → CheckedFits (judge number b ls)
unfolding judge unless whether◌then◌else◌
judge_fits number b [] h = tt
judge_fits number b (l ∷ ls) h =
    by (eqb (refusal b (line_of l)) clear)
    (λ t. rw t (judge_fits (number + 1) (after b (line_of l)) ls (omega arith)))
    (λ t. rw t (at_line (refusal b (line_of l)) number (line_number_lem b (line_of l)) (omega arith) (eqb-false _ _ t)))

pub check_fits : (x : Str) → CheckedFits (check x)
unfolding check whether◌then◌else◌
check_fits x =
    by (ltb max_table_text (length x))
    (λ t. rw t (bare 1 (omega arith) (omega arith)))
    (λ t. rw t (by (eqb (length x) 0)
    (λ u. rw u (record { number = omega arith; byte = omega arith; bits = omega arith; lineless = λ h k. absurd (omega arith) }))
    (λ u. rw u (let k = ltb-false max_table_text (length x) t in let m = lines_few x in judge_fits 1 first (lines x) (omega arith)))))

-- ---- a user's groups

numbered_few : (t : Bool) (i : ℕ) (ns : List ℕ) → length (numbered t i ns) ≤ length ns + 1
unfolding numbered whether◌then◌else◌
numbered_few true i ns = omega arith
numbered_few false i ns = omega arith

few_groups : (ms : List Member) (user : Str) (i : ℕ) (gs : List Str) → length (memberships ms user i gs) ≤ length gs
unfolding memberships
few_groups ms user i [] = omega arith
few_groups ms user i (g ∷ gs) =
    let h = numbered_few (lists ms user g) i (memberships ms user (suc i) gs) in
    let k = few_groups ms user (suc i) gs in
    omega arith

first_below : (ms : List Member) (user : Str) (i : ℕ) (gs : List Str) (g : ℕ) (rest : List ℕ) → memberships ms user i gs ≡ g ∷ rest → g < i + length gs
unfolding memberships numbered whether◌then◌else◌
first_below ms user i [] g rest e = let z : ◌≡◌ {A = ℕ} 0 1 = cc in absurd (omega arith)
first_below ms user i (x ∷ gs) g rest e =
    by (lists ms user x)
    (λ t. let k : i ≡ g = (let e' = rw t at e in cc) in omega arith)
    (λ t. let e' = rw t at e in let k = first_below ms user (suc i) gs g rest e' in omega arith)

counted_fits : (ns : List ℕ) (k : ℕ) → k ≤ max_groups → length ns ≤ k → ((g : ℕ) (rest : List ℕ) → ns ≡ g ∷ rest → g < k) → CountedFits (counted ns)
unfolding counted
counted_fits [] k m h b = tt
counted_fits (g ∷ gs) k m h b = (omega arith, let z = b g gs refl in omega arith)

pub count_fits : (x user : Str) → CountedFits (group_count x user)
unfolding group_count
count_fits x user = go (check x) refl (check_fits x)
  where
    go : (c : Checked) → check x ≡ c → CheckedFits c → CountedFits (count_for c (table_of x) user)
    go (checked.Refused n l) e h = unfold count_for in h
    go checked.Accepted e h =
        unfold count_for whether◌then◌else◌ groups_of in
        by (bad_user user)
        (λ t. rw t (bare 20 (omega arith) (omega arith)))
        (λ t. rw t (counted_fits _ (length (table_of x).groups) (accepted_whole x e).few_groups (few_groups (table_of x).members user 0 (table_of x).groups)
        (λ g rest i. let z = first_below (table_of x).members user 0 (table_of x).groups g rest i in omega arith)))

-- ---- verdicts

request_fits : (user : Str) (mode : ℕ) (origin text : Str) → Refusal (request_refusal user mode origin text) 0
unfolding request_refusal
request_fits user mode origin text =
    or_else _ 20 _ (omega arith) (omega arith) (or_else _ 21 _ (omega arith) (omega arith) (or_else _ 22 clear (omega arith) (omega arith) none_at_all))

-- an accepted table has at most 256 rules
rule_number : (x : Str) → check x ≡ checked.Accepted → (over : table.Rule → table.Rule → Bool) (test : table.Rule → Bool) (n : Numbered)
    → choose over test 0 (table_of x).rules ≡ some n → Number n.number
rule_number x ok over test n e =
    let h = below (table_of x).rules n.number n.rule (chosen.numbered over test (table_of x).rules n e) in
    let k = (accepted_whole x ok).few_rules in
    omega arith

decided_fits : (o : Option Numbered) → ((n : Numbered) → o ≡ some n → Number n.number) → PathFits (decided_by o)
unfolding decided_by whether◌then◌else◌
decided_fits none h = tt
decided_fits (some n) h = by n.rule.permit (λ t. rw t (h n refl)) (λ t. rw t (h n refl))

path_answer_fits : (c : Checked) (number : ℕ) (o : Option Numbered) → CheckedFits c → Refusal number 0
    → (c ≡ checked.Accepted → (n : Numbered) → o ≡ some n → Number n.number) → PathFits (path_answer c number o)
unfolding path_answer whether◌then◌else◌
path_answer_fits (checked.Refused n l) number o a b h = a
path_answer_fits checked.Accepted number o a b h = by (eqb number clear) (λ t. rw t (decided_fits o (h refl))) (λ t. rw t b)

pub path_fits : (x user : Str) (mode : ℕ) (origin text : Str) → PathFits (path_verdict x user mode origin text)
unfolding path_verdict decider
path_fits x user mode origin text =
    path_answer_fits (check x) _ _ (check_fits x) (request_fits user mode origin text)
    (λ ok n e. rule_number x ok better (matches (table_of x) (request user mode origin text)) n e)

spread_fits : (b : Bool) (o : Option Numbered) → ((n : Numbered) → o ≡ some n → Number n.number) → TreeFits (spread (tree_of b o))
unfolding spread tree_of word
spread_fits true none h = tt
spread_fits false none h = tt
spread_fits b (some n) h = h n refl

tree_answer_fits : (c : Checked) (number : ℕ) (w : Tree) → CheckedFits c → Refusal number 0 → (c ≡ checked.Accepted → TreeFits (spread w))
    → TreeFits (tree_answer c number w)
unfolding tree_answer whether◌then◌else◌
tree_answer_fits (checked.Refused n l) number w a b h = a
tree_answer_fits checked.Accepted number w a b h = by (eqb number clear) (λ t. rw t (h refl)) (λ t. rw t b)

pub tree_fits : (x user : Str) (mode : ℕ) (origin text : Str) → TreeFits (tree_verdict x user mode origin text)
unfolding tree_verdict tree
tree_fits x user mode origin text =
    tree_answer_fits (check x) _ _ (check_fits x) (request_fits user mode origin text)
    (λ ok. spread_fits (permits (table_of x) (request user mode origin text)) _
    (λ n e. rule_number x ok earlier (opposes (table_of x) (request user mode origin text)) n e))

-- ---- the season report

-- the number of a bad line is that of a line of a log
log_line : (k : ℕ) → 0 < k → k ≤ max_log_lines → Refusal 51 k
log_line k p h = record { number = omega arith; byte = omega arith; bits = omega arith; lineless = λ a b. absurd (b refl) }

log_fits : (k : ℕ) (ls : List Str) → 0 < k → CheckedFits (judge_log k ls)
unfolding judge_log whether◌then◌else◌
log_fits k [] p = tt
log_fits k (l ∷ ls) p =
    by (ltb max_log_lines k)
    (λ t. rw t (bare 50 (omega arith) (omega arith)))
    (λ t. rw t (by (absent (request_of l)) (λ u. rw u (log_line k p (ltb-false max_log_lines k t))) (λ u. rw u (log_fits (k + 1) ls (omega arith)))))

filled_fits : (text out : Str) → length text < 2 ^ 32 → ReportedFits (answered checked.Accepted text out)
unfolding answered whether◌then◌else◌
filled_fits text out h = by (leb (length text) (length out)) (λ t. rw t h) (λ t. rw t (bare 23 (omega arith) (omega arith)))

module _ (x log out : Str) where
  fault_fits : (c d : Checked) → check x ≡ c → check_log log ≡ d → CheckedFits c → CheckedFits d → ReportedFits (answered (first_fault c d) (report_of x log) out)
  unfolding answered first_fault report_of
  fault_fits (checked.Refused n l) d e i h k = h
  fault_fits checked.Accepted (checked.Refused n l) e i h k = k
  fault_fits checked.Accepted checked.Accepted e i h k = filled_fits (report_of x log) out (omega (arith, report_short (table_of x) (log_of log) (log_few log i)))

  pub season_fits : ReportedFits (season_answer x log out)
  unfolding season_answer fault check_log
  season_fits = fault_fits (check x) (check_log log) refl refl (check_fits x) (log_fits 1 (lines log) (omega arith))

-- ---- policies

least_fits : (a b : ℕ) → Refusal a 0 → Refusal b 0 → Refusal (least a b) 0
unfolding least
least_fits a b h k = either (ltb b a) b a k h

size_fits : (r : Row) (n : ℕ) → Refusal (size_refusal r n) 0
unfolding size_refusal
size_fits row.Rules n = or_else _ 35 clear (omega arith) (omega arith) none_at_all
size_fits row.Patterns n = or_else _ 35 clear (omega arith) (omega arith) none_at_all
size_fits row.Values n = or_else _ 35 clear (omega arith) (omega arith) none_at_all
size_fits row.Headers n = or_else _ 35 clear (omega arith) (omega arith) none_at_all

text_fits : (r : Role) (s : Str) → Refusal (text_refusal r s) 0
unfolding text_refusal
text_fits role.Name s = or_else _ 34 _ (omega arith) (omega arith) (or_else _ 35 clear (omega arith) (omega arith) none_at_all)
text_fits role.Pattern s =
    or_else _ 34 _ (omega arith) (omega arith) (or_else _ 35 _ (omega arith) (omega arith) (or_else _ 36 clear (omega arith) (omega arith) none_at_all))
text_fits role.Key s =
    or_else _ 34 _ (omega arith) (omega arith) (or_else _ 35 _ (omega arith) (omega arith) (or_else _ 37 clear (omega arith) (omega arith) none_at_all))

schema : Refusal 33 0
schema = bare 33 (omega arith) (omega arith)

kind_fits : (j : Json) → ((k : Kind) → Refusal (refusal_of k j) 0) → (o : Option Kind) → Refusal (Option-elim o 33 (λ k. refusal_of k j)) 0
unfolding Option-elim
kind_fits j h none = schema
kind_fits j h (some k) = h k

mutual
  unfolding refusal_of

  value_fits : (j : Json) (k : Kind) → Refusal (refusal_of k j) 0
  value_fits jnull k = schema
  value_fits jtrue k = schema
  value_fits jfalse k = schema
  value_fits jnumber k = schema
  value_fits (jstring s) (Text r) = text_fits r s
  value_fits (jstring s) (Listing r) = schema
  value_fits (jstring s) (Object f) = schema
  value_fits (jlist l) (Text r) = schema
  value_fits (jlist l) (Listing r) = least_fits _ _ (size_fits r _) (items_fits l (item_kind r))
  value_fits (jlist l) (Object f) = schema
  value_fits (jobject m) (Text r) = schema
  value_fits (jobject m) (Listing r) = schema
  value_fits (jobject m) (Object f) = either _ 33 _ schema (members_fits m f)

  items_fits : (l : Values) (k : Kind) → Refusal (items_refusal k l) 0
  items_fits vnil k = none_at_all
  items_fits (vcons j l) k = least_fits _ _ (value_fits j k) (items_fits l k)

  members_fits : (m : Members) (f : Form) → Refusal (members_refusal f m) 0
  members_fits mnil f = none_at_all
  members_fits (mcons n j l) f = least_fits _ _ (kind_fits j (λ k. value_fits j k) (kind_named f n)) (members_fits l f)

parsed_fits : (o : Option Json) → Refusal (parsed_refusal o) 0
unfolding parsed_refusal tree_refusal
parsed_fits none = bare 31 (omega arith) (omega arith)
parsed_fits (some j) =
    or_else _ 32 _ (omega arith) (omega arith) (least_fits _ _ (value_fits j policy_kind) (or_else _ 38 clear (omega arith) (omega arith) none_at_all))

policy_number : (s : Str) → Refusal (policy_refusal s) 0
unfolding policy_refusal
policy_number s = or_else _ 30 _ (omega arith) (omega arith) (parsed_fits (parse s))

pub policy_fits : (s : Str) → PolicyFits (check_of (policy_refusal s))
unfolding check_of whether◌then◌else◌
policy_fits s = by (eqb (policy_refusal s) clear) (λ t. rw t tt) (λ t. rw t (policy_number s))

-- ---- an accepted policy has at most 64 rules in a list

list_few : (j : Json) → 37 < refusal_of (Listing row.Rules) j → length (items j) ≤ max_list_rules
unfolding refusal_of items
list_few jnull h = absurd (omega arith)
list_few jtrue h = absurd (omega arith)
list_few jfalse h = absurd (omega arith)
list_few jnumber h = absurd (omega arith)
list_few (jstring s) h = absurd (omega arith)
list_few (jlist l) h = row_few row.Rules (length (list_of l)) (above_least 37 _ _ h).0
list_few (jobject m) h = absurd (omega arith)

found_few : (n : Str) → kind_named Top n ≡ some (Listing row.Rules) → (m : Members) → 37 < members_refusal Top m → length (items (find n m)) ≤ max_list_rules
unfolding find whether◌then◌else◌ members_refusal Option-elim
found_few n k mnil h = unfold items in omega arith
found_few n k (mcons x j l) h =
    by (same x n)
    (λ t. rw t (list_few j (named (same→≡ x n t))))
    (λ t. rw t (found_few n k l (above_least 37 _ _ h).1))
  where
    named : x ≡ n → 37 < refusal_of (Listing row.Rules) j
    named e = let z = (above_least 37 _ _ h).0 in rw (e, k) at z

past_schema : (t : Bool) (n : ℕ) → 37 < (33 when t else n) → 37 < n
unfolding whether◌then◌else◌
past_schema true n h = absurd (omega arith)
past_schema false n h = h

member_few : (n : Str) → kind_named Top n ≡ some (Listing row.Rules) → (j : Json) → 37 < refusal_of policy_kind j → length (items (member n j)) ≤ max_list_rules
unfolding refusal_of member
member_few n k jnull h = absurd (omega arith)
member_few n k jtrue h = absurd (omega arith)
member_few n k jfalse h = absurd (omega arith)
member_few n k jnumber h = absurd (omega arith)
member_few n k (jstring s) h = absurd (omega arith)
member_few n k (jlist l) h = absurd (omega arith)
member_few n k (jobject m) h = found_few n k m (past_schema _ _ h)

as_long : {A B : Type 0} (f : A → B) (xs : List A) → length (map f xs) ≡ length xs
as_long f [] = refl
as_long f (x ∷ xs) = ap suc (as_long f xs)

record Few (p : Policy) : Type 0 where
  deny : length p.deny ≤ max_list_rules
  allow : length p.allow ≤ max_list_rules

deny_kind : kind_named Top (bytes "deny_rules") ≡ some (Listing row.Rules)
unfolding kind_in fields same ◌and◌ whether◌then◌else◌
deny_kind = refl

allow_kind : kind_named Top (bytes "allow_rules") ≡ some (Listing row.Rules)
unfolding kind_in fields same ◌and◌ whether◌then◌else◌
allow_kind = refl

few_in : (j : Json) → 37 < refusal_of policy_kind j → Few (policy_in j)
unfolding policy_in
few_in j h = record {
  deny = rw (as_long rule_in (items (member (bytes "deny_rules") j))) (member_few (bytes "deny_rules") deny_kind j h);
  allow = rw (as_long rule_in (items (member (bytes "allow_rules") j))) (member_few (bytes "allow_rules") allow_kind j h);
}

past_twice : (t u : Bool) (n : ℕ) → (32 when t else least n (38 when u else clear)) ≡ clear → 37 < n
unfolding whether◌then◌else◌
past_twice true u n e = absurd (omega arith)
past_twice false true n e = (above_least 37 n 38 (omega arith)).0
past_twice false false n e = (above_least 37 n clear (omega arith)).0

within_length : (t : Bool) (n : ℕ) → (30 when t else n) ≡ clear → n ≡ clear
unfolding whether◌then◌else◌
within_length true n e = absurd (omega arith)
within_length false n e = e

few_parsed : (o : Option Json) (p : Policy) → parsed_refusal o ≡ clear → Option.map policy_in o ≡ some p → Few p
unfolding parsed_refusal tree_refusal
few_parsed none p c k = let z : ◌≡◌ {A = ℕ} 0 1 = cc in absurd (omega arith)
few_parsed (some j) p c k =
    let f = few_in j (past_twice (repeats j) (rule_twice (policy_in j)) _ c) in
    let m : policy_in j ≡ p = cc in
    rw m at f

accepted_few : (s : Str) (p : Policy) → policy_of s ≡ some p → Few p
unfolding policy_of policy_refusal whether◌then◌else◌
accepted_few s p e =
    by (eqb (policy_refusal s) clear)
    (λ t. let e' = rw t at e in few_parsed (parse s) p (within_length (ltb max_policy_text (length s)) _ (eqb-true _ _ t)) e')
    (λ t. let e' = rw t at e in let z : ◌≡◌ {A = ℕ} 0 1 = cc in absurd (omega arith))

-- ---- RPC verdicts

rpc_number : (identity path headers : Str) → Refusal (rpc_refusal identity path headers) 0
unfolding rpc_refusal
rpc_number identity path headers = or_else _ 40 _ (omega arith) (omega arith) (or_else _ 41 clear (omega arith) (omega arith) none_at_all)

first_fits : {A : Type 0} (f : A → Bool) (xs : List A) (k n : ℕ) → first_from k f xs ≡ some n → n < k + length xs
unfolding first_from whether◌then◌else◌
first_fits f [] k n e = let z : ◌≡◌ {A = ℕ} 0 1 = cc in absurd (omega arith)
first_fits f (x ∷ xs) k n e =
    by (f x)
    (λ t. let e' = rw t at e in let z : k ≡ n = cc in omega arith)
    (λ t. let e' = rw t at e in let z = first_fits f xs (suc k) n e' in omega arith)

decision_fits : (deny allow : Option ℕ) → ((n : ℕ) → deny ≡ some n → Number n) → ((n : ℕ) → allow ≡ some n → Number n) → RpcFits (decided deny allow)
unfolding decided allowed
decision_fits (some n) allow h k = h n refl
decision_fits none (some n) h k = k n refl
decision_fits none none h k = tt

verdict_fits : (p : Policy) (r : Request) → Few p → RpcFits (rpcs.verdict p r)
unfolding rpcs.verdict
verdict_fits p r few =
    decision_fits _ _ (λ n e. let h = first_fits (rule_matches r) p.deny 0 n e in let k = few.deny in omega arith)
    (λ n e. let h = first_fits (rule_matches r) p.allow 0 n e in let k = few.allow in omega arith)

judged_fits : (o : Option Policy) (r : Request) → ((p : Policy) → o ≡ some p → Few p) → RpcFits (verdict_by o r)
unfolding verdict_by
judged_fits none r h = tt
judged_fits (some p) r h = verdict_fits p r (h p refl)

refused_else_lem : (n : ℕ) (v : Verdict) → Refusal n 0 → RpcFits v → RpcFits (refused_else n v)
unfolding refused_else whether◌then◌else◌
refused_else_lem n v a b = by (eqb n clear) (λ t. rw t b) (λ t. rw t a)

pub rpc_fits : (s identity path headers : Str) → RpcFits (rpc_verdict s identity path headers)
unfolding rpc_verdict
rpc_fits s identity path headers =
    refused_else_lem _ _ (policy_number s) (refused_else_lem _ _ (rpc_number identity path headers)
    (judged_fits (policy_of s) (rpc_request identity path headers) (accepted_few s)))

-- ---- the rotation

record_fits : (r : Record) (n own : ℕ) → Refusal own 0 → Refusal (record_refusal r n own) 0
unfolding record_refusal
record_fits r n own h = or_else _ 11 _ (omega arith) (omega arith) (or_else _ 15 own (omega arith) (omega arith) h)

stepped_fits : (c : Checked) (r next : Record) → CheckedFits c → CheckedFits (stepped c r next).answer
unfolding stepped
stepped_fits checked.Accepted r next h = tt
stepped_fits (checked.Refused n l) r next h = h

off_fits : (r : Record) (n : ℕ) → Refusal (off_refusal r n) 0
unfolding off_refusal
off_fits r n = record_fits r n _ (or_else _ 13 clear (omega arith) (omega arith) none_at_all)

pub start_fits : (r : Record) (n : ℕ) → CheckedFits (start r n).answer
unfolding start start_refusal
start_fits r n = stepped_fits _ r _ (unless_fits _ checked.Accepted (record_fits r n _ (or_else _ 12 clear (omega arith) (omega arith) none_at_all)) tt)

pub finalize_fits : (r : Record) (n : ℕ) → CheckedFits (finalize r n).answer
unfolding finalize finalize_refusal
finalize_fits r n =
    stepped_fits _ r _ (unless_fits _ checked.Accepted
    (record_fits r n _ (or_else _ 13 _ (omega arith) (omega arith) (or_else _ 14 clear (omega arith) (omega arith) none_at_all))) tt)

pub close_fits : (r : Record) (n : ℕ) → CheckedFits (close r n).answer
unfolding close
close_fits r n = stepped_fits _ r _ (unless_fits _ checked.Accepted (off_fits r n) tt)

of_policy_fits : (c : Check) → PolicyFits c → CheckedFits (of_policy c)
unfolding of_policy
of_policy_fits policy.Accepted h = tt
of_policy_fits (policy.Refused n) h = h

offered_fits : (kind : ℕ) (text : Str) → CheckedFits (offered_check kind text)
unfolding offered_check whether◌then◌else◌
offered_fits kind text = by (eqb kind 1) (λ t. rw t (of_policy_fits _ (policy_fits text))) (λ t. rw t (check_fits text))

pub upload_fits : (r : Record) (n : ℕ) (text : Str) → CheckedFits (upload offered_check r n text).answer
unfolding upload upload_answer
upload_fits r n text = stepped_fits _ r _ (unless_fits _ _ (off_fits r n) (offered_fits r.kind text))

-- ---- probes

probe_number : (kind : ℕ) (r : Record) (n : ℕ) → Refusal (probe_refusal kind r n) 0
unfolding probe_refusal
probe_number kind r n = record_fits r n _ (or_else _ 16 clear (omega arith) (omega arith) none_at_all)

-- by cases of `probed`
probed_fits : {A : Type 0} (Fits : A → Type 0) (refused : ℕ → A) (judged : InForce → A) (kind : ℕ) (r : Record) (n : ℕ)
    → ((m : ℕ) → Refusal m 0 → Fits (refused m)) → ((f : InForce) → Fits (judged f)) → Fits (probed refused judged kind r n)
unfolding probed whether◌then◌else◌
probed_fits Fits refused judged kind r n h k =
    by (eqb (probe_refusal kind r n) clear) (λ t. rw t (k (in_force r))) (λ t. rw t (h (probe_refusal kind r n) (probe_number kind r n)))

pub probe_path_fits : (r : Record) (store user : Str) (mode : ℕ) (origin text : Str) → PathFits (probe_path r store user mode origin text)
unfolding probe_path
probe_path_fits r store user mode origin text =
    probed_fits (λ (a : PathAnswer). PathFits a) (λ (m : ℕ). path_refused m) (path_on store user mode origin text) 2 r (length store) (λ m h. h) judged
  where
    judged : (f : InForce) → PathFits (path_on store user mode origin text f)
    judged (force.Text slot len) = unfold path_on in path_fits (text_in store slot len) user mode origin text
    judged force.Factory =
        unfold path_on in
        path_answer_fits checked.Accepted _ none tt (request_fits user mode origin text) (λ _ n e. let z : ◌≡◌ {A = ℕ} 0 1 = cc in absurd (omega arith))

pub probe_tree_fits : (r : Record) (store user : Str) (mode : ℕ) (origin text : Str) → TreeFits (probe_tree r store user mode origin text)
unfolding probe_tree
probe_tree_fits r store user mode origin text =
    probed_fits (λ (a : TreeAnswer). TreeFits a) (λ (m : ℕ). tree_refused m) (tree_on store user mode origin text) 2 r (length store) (λ m h. h) judged
  where
    judged : (f : InForce) → TreeFits (tree_on store user mode origin text f)
    judged (force.Text slot len) = unfold tree_on in tree_fits (text_in store slot len) user mode origin text
    judged force.Factory = unfold tree_on spread in tree_answer_fits checked.Accepted _ NONE tt (request_fits user mode origin text) (λ _. tt)

factory_fits : (n : ℕ) → Refusal n 0 → ProbeFits (factory_rpc n)
unfolding factory_rpc whether◌then◌else◌
factory_fits n h = by (eqb n clear) (λ t. rw t tt) (λ t. rw t h)

pub probe_rpc_fits : (r : Record) (store identity path headers : Str) → ProbeFits (probe_rpc r store identity path headers)
unfolding probe_rpc
probe_rpc_fits r store identity path headers =
    probed_fits (λ (a : RpcAnswer). ProbeFits a) (λ (m : ℕ). rpc_refused m) (rpc_on store identity path headers) 1 r (length store) (λ m h. h) judged
  where
    judged : (f : InForce) → ProbeFits (rpc_on store identity path headers f)
    judged (force.Text slot len) = unfold rpc_on in rpc_fits (text_in store slot len) identity path headers
    judged force.Factory = unfold rpc_on in factory_fits _ (rpc_number identity path headers)
