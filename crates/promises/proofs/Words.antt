-- The readers give back each call's answer from its word.
use Prim.Native.Nat.{ℕ, zero, suc, ◌+◌, ◌*◌, ◌/◌, ◌%◌, ◌<◌, ◌^◌}
use mathlib.Core.Path.{◌≡◌, refl, sym, ap, ◌∙◌}
use mathlib.Core.Option.{Option, none, some}
use native.Mathlib.Omega.{arith}
use borrow.Author.Tests.{eq-eqb, ne_eqb, eqb-false, le-leb, leb-false}
use lib.Dec.{eqb, leb}
use lib.ListN.{length}
use Rattle.text.specs.Test.{◌and◌, ◌or◌, whether◌then◌else◌}
use Rattle.text.proofs.Tests.{by}
use Rattle.path_read.specs.Filled.{Filled}
use Rattle.path_read.specs.Filled as filled
use Rattle.table.specs.Checked.{Checked}
use Rattle.table.specs.Checked as checked
use Rattle.table.specs.Counted.{Counted}
use Rattle.table.specs.Counted as counted
use Rattle.verdict_request.specs.PathAnswer.{PathAnswer}
use Rattle.verdict_request.specs.PathAnswer as path
use Rattle.verdict_request.specs.TreeAnswer.{TreeAnswer}
use Rattle.verdict_request.specs.TreeAnswer as trees
use Rattle.season.specs.declared.Reported.{Reported}
use Rattle.season.specs.declared.Reported.TheVariants as reported
use Rattle.policy_check.specs.Answer.{Check}
use Rattle.policy_check.specs.Answer as policy
use Rattle.rpc.specs.Answer.{Verdict}
use Rattle.rpc.specs.Answer as rpc
use Rattle.rotation_probe.specs.Answer.{RpcAnswer}
use Rattle.rotation_probe.specs.Answer as probe
use Rattle.rotation.specs.Machine as step
use Rattle.rotation_upload.specs.Offered.{offered_check}
use Rattle.burgee.specs.Word.{upper, refusal_word, filled_word, checked_word, counted_word, path_word, tree_word, reported_word, policy_word, rpc_word, rpc_probe_word}
use Rattle.burgee.specs.Calls.{outcome, word}
use Rattle.burgee.specs.Calls.{Start, Upload, Finalize, Close}
use Rattle.promises.specs.Words.{refusal, line, accepted, tree, less_one, number, filled_length, Words, Safe}
use Rattle.promises.specs.Words.{told_filled, told_checked, only_if, beside, counted_by, told_counted, path_by, told_path, tree_by, told_tree, told_reported, told_policy, rpc_by, told_rpc, probe_by, told_probe}
use Rattle.promises.specs.Leaves.{publicly}
use Rattle.promises.proofs.Fits.{Refusal, FilledFits, CheckedFits, CountedFits, PathFits, TreeFits, ReportedFits, PolicyFits, RpcFits, ProbeFits}
use Rattle.promises.proofs.Fits.{read_fits, write_fits, check_fits, count_fits, path_fits, tree_fits, season_fits, policy_fits, rpc_fits}
use Rattle.promises.proofs.Fits.{start_fits, upload_fits, finalize_fits, close_fits, probe_path_fits, probe_tree_fits, probe_rpc_fits}

-- ---- a refusal's word

number_read : (n l : ℕ) → Refusal n l → refusal (refusal_word n l) ≡ n
unfolding refusal_word
number_read n l h = let b = h.byte in omega arith

line_bits : (n l : ℕ) → n < 2 ^ 8 → l < 2 ^ 32 → (n + l % 2 ^ 32 * 2 ^ 8) / 2 ^ 8 % 2 ^ 32 ≡ l
line_bits n l b c =
    let d : l % 2 ^ 32 ≡ l = omega arith in
    let e : (n + l * 2 ^ 8) / 2 ^ 8 ≡ l = omega arith in
    rw (d, e) d

line_read : (n l : ℕ) → Refusal n l → line (refusal_word n l) ≡ l
unfolding line whether◌then◌else◌ ◌and◌ ◌or◌ refusal_word
line_read n l h =
    let r = number_read n l h in
    by (leb n 9)
    (λ t. rw (r, le-leb 1 n h.number, t) (line_bits n l h.byte h.bits))
    (λ t. by (eqb n 51)
    (λ u. rw (r, le-leb 1 n h.number, t, u) (line_bits n l h.byte h.bits))
    (λ u. rw (r, le-leb 1 n h.number, t, u) (sym (h.lineless (leb-false n 9 t) (eqb-false n 51 u)))))

word_whole : (n l : ℕ) → Refusal n l → refusal_word n l ≡ n + l * 2 ^ 8
unfolding refusal_word
word_whole n l h = let b = h.bits in let d : l % 2 ^ 32 ≡ l = omega arith in rw d

kept : {A : Type 0} (x y : ℕ) (a : Option A) → x ≡ y → only_if (eqb x y) a ≡ a
unfolding only_if whether◌then◌else◌
kept x y a e = rw (eq-eqb x y e)

refused : {A : Type 0} (n l : ℕ) (a : A) (b : Option A) → Refusal n l
    → (whether eqb (refusal (refusal_word n l)) 0 then b else only_if (eqb (refusal_word n l) (refusal (refusal_word n l) + line (refusal_word n l) * 2 ^ 8)) (some a)) ≡ some a
unfolding whether◌then◌else◌
refused n l a b h =
    let e = number_read n l h in
    let p = h.number in
    let q : refusal_word n l ≡ refusal (refusal_word n l) + line (refusal_word n l) * 2 ^ 8 = rw (e, line_read n l h) (word_whole n l h) in
    rw (e, ne_eqb n 0 (λ z. absurd (omega arith))) (rw e at (kept (refusal_word n l) (refusal (refusal_word n l) + line (refusal_word n l) * 2 ^ 8) (some a) q))

-- ---- an accepted word

given : {A : Type 0} (w : ℕ) (a b : A) → refusal w ≡ 0 → (whether eqb (refusal w) 0 then b else a) ≡ b
unfolding whether◌then◌else◌
given w a b z = rw (eq-eqb _ _ z)

upper_bits : (w : ℕ) → refusal w ≡ 0 → accepted w ≡ w / 2 ^ 8
unfolding accepted whether◌then◌else◌
upper_bits w z = rw (eq-eqb _ _ z)

beside_less : (a n : ℕ) → beside a (less_one n) ≡ a + n * 2 ^ 8
unfolding beside less_one
beside_less a zero = omega arith
beside_less a (suc n) = refl

-- a in bits 8 to 15, of which a reader gives `g`, and n in bits 16 to 31
by_fields : {A : Type 0} (f : ℕ → Option ℕ → Option A) (g : ℕ → ℕ) (x : Option A) (w a n : ℕ) → w ≡ a * 2 ^ 8 + n * 2 ^ 16 → a < 2 ^ 8 → n < 2 ^ 16 → g a ≡ a
    → (whether eqb (refusal w) 0 then only_if (eqb (accepted w) (beside (g (accepted w % 2 ^ 8)) (number w))) (f (accepted w % 2 ^ 8) (number w)) else x) ≡ f a (less_one n)
unfolding number
by_fields f g x w a n e p q r =
    let z : w % 2 ^ 8 ≡ 0 = omega arith in
    let u : accepted w ≡ a + n * 2 ^ 8 = upper_bits w z ∙ omega arith in
    let low : (a + n * 2 ^ 8) % 2 ^ 8 ≡ a = omega arith in
    let high : (a + n * 2 ^ 8) / 2 ^ 8 ≡ n = omega arith in
    let all : n % 2 ^ 16 ≡ n = omega arith in
    given w _ _ z ∙ rw (u, low, high, all, r) (kept (a + n * 2 ^ 8) (beside a (less_one n)) (f a (less_one n)) (sym (beside_less a n)))

-- the byte of an action, and of a tree, as the readers give it
abbrev read_action : ℕ → ℕ
read_action a = whether eqb a 1 then 1 else 0

abbrev read_tree : ℕ → ℕ
read_tree a = whether leb a 2 then a else 0

-- ---- each answer

upper_read : (n : ℕ) → n < 2 ^ 32 → filled_length (upper n) ≡ n
upper_read n h =
    let z : upper n % 2 ^ 8 ≡ 0 = omega arith in
    let d : n % 2 ^ 32 ≡ n = omega arith in
    let u : n * 2 ^ 8 / 2 ^ 8 ≡ n = omega arith in
    rw (upper_bits (upper n) z, d, u) d

-- a length alone
length_told : {A : Type 0} (f : ℕ → A) (n : ℕ) → n < 2 ^ 32 → (x : Option A)
    → (whether eqb (refusal (upper n)) 0 then only_if (eqb (accepted (upper n)) (filled_length (upper n))) (some (f (filled_length (upper n)))) else x) ≡ some (f n)
length_told f n h x =
    let z : upper n % 2 ^ 8 ≡ 0 = omega arith in
    let d : n % 2 ^ 32 ≡ n = omega arith in
    let u : accepted (upper n) ≡ n = upper_bits (upper n) z ∙ omega arith in
    given (upper n) _ _ z ∙ kept (accepted (upper n)) (filled_length (upper n)) _ (u ∙ sym (upper_read n h)) ∙ ap (λ (m : ℕ). some (f m)) (upper_read n h)

filled_told : (f : Filled) → FilledFits f → told_filled (filled_word f) ≡ some f
unfolding filled_word
filled_told (filled.Length n) h = length_told filled.Length n h _
filled_told (filled.Refused n) h = refused n 0 _ _ h ∙ rw (number_read n 0 h)

checked_told : (c : Checked) → CheckedFits c → told_checked (checked_word c) ≡ some c
unfolding checked_word only_if accepted whether◌then◌else◌
checked_told checked.Accepted h = refl
checked_told (checked.Refused n l) h = refused n l _ _ h ∙ rw (number_read n l h, line_read n l h)

counted_told : (c : Counted) → CountedFits c → told_counted (counted_word c) ≡ some c
unfolding counted_word counted_by only_if less_one whether◌then◌else◌
counted_told (counted.Count n g) h =
    let b = h.1 in
    by_fields counted_by (λ (a : ℕ). a) _ (n * 2 ^ 8 + (g.0 + 1) * 2 ^ 16) n (suc g.0) (omega arith) h.0 (omega arith) refl
counted_told counted.NoGroup h = by_fields counted_by (λ (a : ℕ). a) none 0 0 0 refl (omega arith) (omega arith) refl
counted_told (counted.Declined n l) h = refused n l _ _ h ∙ rw (number_read n l h, line_read n l h)

path_told : (a : PathAnswer) → PathFits a → told_path (path_word a) ≡ some a
unfolding path_word path_by less_one whether◌then◌else◌
path_told (path.Permit r) h = by_fields (λ (a : ℕ). path_by (eqb a 1)) read_action _ (2 ^ 8 + (r.0 + 1) * 2 ^ 16) 1 (suc r.0) (omega arith) (omega arith) (omega arith) refl
path_told (path.Deny r) h = by_fields (λ (a : ℕ). path_by (eqb a 1)) read_action _ ((r.0 + 1) * 2 ^ 16) 0 (suc r.0) (omega arith) (omega arith) (omega arith) refl
path_told path.Default h = by_fields (λ (a : ℕ). path_by (eqb a 1)) read_action none 0 0 0 refl (omega arith) (omega arith) refl
path_told (path.Refused n l) h = refused n l _ _ h ∙ rw (number_read n l h, line_read n l h)

tree_told : (a : TreeAnswer) → TreeFits a → told_tree (tree_word a) ≡ some a
unfolding tree_word tree tree_by less_one whether◌then◌else◌
tree_told trees.All h = by_fields (λ (a : ℕ). tree_by (read_tree a)) read_tree none (2 ^ 8) 1 0 refl (omega arith) (omega arith) refl
tree_told trees.None h = by_fields (λ (a : ℕ). tree_by (read_tree a)) read_tree none 0 0 0 refl (omega arith) (omega arith) refl
tree_told (trees.Mixed r) h =
    by_fields (λ (a : ℕ). tree_by (read_tree a)) read_tree _ (2 * 2 ^ 8 + (r.0 + 1) * 2 ^ 16) 2 (suc r.0) (omega arith) (omega arith) (omega arith) refl
tree_told (trees.Refused n l) h = refused n l _ _ h ∙ rw (number_read n l h, line_read n l h)

reported_told : (a : Reported) → ReportedFits a → told_reported (reported_word a) ≡ some a
unfolding reported_word
reported_told (reported.Length n) h = length_told reported.Length n h _
reported_told (reported.Refused n l) h = refused n l _ _ h ∙ rw (number_read n l h, line_read n l h)

policy_told : (c : Check) → PolicyFits c → told_policy (policy_word c) ≡ some c
unfolding policy_word only_if accepted whether◌then◌else◌
policy_told policy.Accepted h = refl
policy_told (policy.Refused n) h = refused n 0 _ _ h ∙ rw (number_read n 0 h)

rpc_told : (v : Verdict) → RpcFits v → told_rpc (rpc_word v) ≡ some v
unfolding rpc_word rpc_by less_one whether◌then◌else◌
rpc_told (rpc.Refused n) h = refused n 0 _ _ h ∙ rw (number_read n 0 h)
rpc_told (rpc.Denied n) h = by_fields (λ (a : ℕ). rpc_by (eqb a 1)) read_action _ ((n % 2 ^ 16 + 1) * 2 ^ 16) 0 (suc n) (omega arith) (omega arith) (omega arith) refl
rpc_told (rpc.Permitted n) h = by_fields (λ (a : ℕ). rpc_by (eqb a 1)) read_action _ (2 ^ 8 + (n % 2 ^ 16 + 1) * 2 ^ 16) 1 (suc n) (omega arith) (omega arith) (omega arith) refl
rpc_told rpc.Default h = by_fields (λ (a : ℕ). rpc_by (eqb a 1)) read_action none 0 0 0 refl (omega arith) (omega arith) refl

probe_told : (a : RpcAnswer) → ProbeFits a → told_probe (rpc_probe_word a) ≡ some a
unfolding rpc_probe_word rpc_word probe_by less_one whether◌then◌else◌
probe_told probe.PermitAll h = by_fields (λ (a : ℕ). probe_by (eqb a 1)) read_action none (2 ^ 8) 1 0 refl (omega arith) (omega arith) refl
probe_told (probe.Judged (rpc.Refused n)) h = refused n 0 _ _ h ∙ rw (number_read n 0 h)
probe_told (probe.Judged (rpc.Denied n)) h =
    by_fields (λ (a : ℕ). probe_by (eqb a 1)) read_action _ ((n % 2 ^ 16 + 1) * 2 ^ 16) 0 (suc n) (omega arith) (omega arith) (omega arith) refl
probe_told (probe.Judged (rpc.Permitted n)) h =
    by_fields (λ (a : ℕ). probe_by (eqb a 1)) read_action _ (2 ^ 8 + (n % 2 ^ 16 + 1) * 2 ^ 16) 1 (suc n) (omega arith) (omega arith) (omega arith) refl
probe_told (probe.Judged rpc.Default) h = by_fields (λ (a : ℕ). probe_by (eqb a 1)) read_action none 0 0 0 refl (omega arith) (omega arith) refl

step_told : (c : step.Call) (l : step.Lent) → told_checked (word (publicly c l)) ≡ some (step.answers offered_check c l)
unfolding outcome step.answers
step_told step.Start l = checked_told _ (start_fits l.state (length l.store))
step_told (step.Upload text) l = checked_told _ (upload_fits l.state (length l.store) text)
step_told step.Finalize l = checked_told _ (finalize_fits l.state (length l.store))
step_told step.Close l = checked_told _ (close_fits l.state (length l.store))

-- ---- the promise

pub words : Words
unfolding outcome
words = record {
  path_read = λ text out. filled_told _ (read_fits text out);
  path_write = λ bytes out. filled_told _ (write_fits bytes out);
  table_check = λ table. checked_told _ (check_fits table);
  group_count_lem = λ table user. counted_told _ (count_fits table user);
  path_verdict_lem = λ table user mode origin path. path_told _ (path_fits table user mode origin path);
  tree_verdict_lem = λ table user mode origin path. tree_told _ (tree_fits table user mode origin path);
  season_report = λ table log out. reported_told _ (season_fits table log out);
  policy_check = λ policy. policy_told _ (policy_fits policy);
  rpc_verdict_lem = λ policy identity path headers. rpc_told _ (rpc_fits policy identity path headers);
  stepped = step_told;
  probe_path_lem = λ rec store user mode origin path. path_told _ (probe_path_fits rec store user mode origin path);
  probe_tree_lem = λ rec store user mode origin path. tree_told _ (probe_tree_fits rec store user mode origin path);
  probe_rpc_lem = λ rec store identity path headers. probe_told _ (probe_rpc_fits rec store identity path headers);
}

nothing_accepted : (w : ℕ) → (refusal w ≡ 0 → ⊥) → accepted w ≡ 0
unfolding accepted whether◌then◌else◌
nothing_accepted w bad = rw (ne_eqb _ 0 bad)

pub safe : (w : ℕ) (bad : refusal w ≡ 0 → ⊥) → Safe w bad
unfolding tree number less_one whether◌then◌else◌
safe w bad = let z = nothing_accepted w bad in record { denies = rw z; none_of_tree = rw z; unnumbered = rw z; uncounted = rw z; unfilled = rw z }
