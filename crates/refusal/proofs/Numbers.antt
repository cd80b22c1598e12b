-- No reason has the number `clear`.
use Rattle.std.proofs.Common.{◌≡◌, ℕ, ◌≤◌, eqb, true, false, Result, Ok, Err, IsErrAnd, is_ok, is_err, refl, ap, ◌∙◌, arith, lit≤}
use Rattle.std.proofs.lemmas.Result.{err_from_is_err_and}
use borrow.Author.Tests.{ne_eqb}
use Rattle.text.specs.Refusal.{clear}
use Rattle.refusal.specs.Refusal.{number, code}
use Rattle.refusal.specs.declared.Refusal.{Refusal}
use Rattle.refusal.specs.declared.Refusal.TheVariants as why

pub number_low : (r : Refusal) → number r ≤ 51
number_low why.TableTooLong = lit≤ tt
number_low why.NotHexLine = lit≤ tt
number_low why.BadFrame = lit≤ tt
number_low why.OutOfOrder = lit≤ tt
number_low why.LimitPassed = lit≤ tt
number_low why.StrayByte = lit≤ tt
number_low why.MisplacedWildcard = lit≤ tt
number_low why.Repeated = lit≤ tt
number_low why.UnlistedGroup = lit≤ tt
number_low why.ShortStore = lit≤ tt
number_low why.RotationOn = lit≤ tt
number_low why.RotationOff = lit≤ tt
number_low why.NoCandidate = lit≤ tt
number_low why.BadRecord = lit≤ tt
number_low why.OtherKind = lit≤ tt
number_low why.BadUserOrMode = lit≤ tt
number_low why.BadOrigin = lit≤ tt
number_low why.BadPath = lit≤ tt
number_low why.NoRoom = lit≤ tt
number_low why.PolicyTooLong = lit≤ tt
number_low why.NotJson = lit≤ tt
number_low why.RepeatedMember = lit≤ tt
number_low why.NotSchema = lit≤ tt
number_low why.Backslash = lit≤ tt
number_low why.BadSize = lit≤ tt
number_low why.MisplacedAsterisk = lit≤ tt
number_low why.BadHeaderKey = lit≤ tt
number_low why.RepeatedRuleName = lit≤ tt
number_low why.BadCaller = lit≤ tt
number_low why.BadHeaders = lit≤ tt
number_low why.LogTooLong = lit≤ tt
number_low why.BadLogLine = lit≤ tt

pub never_clear {ℓ} : {X : Type ℓ} (r : Refusal) → number r ≡ clear → X
never_clear r e = let low = number_low r in absurd (omega arith)

-- what refuses nothing is `Ok`
pub code_clear : (x : Result (Unit {0}) Refusal) → code x ≡ clear → x ≡ Ok tt
code_clear (Ok v) e = refl
code_clear (Err r) e = never_clear r e

-- what the exit of a `?` returns
pub err_is : {T E : Type 0} (r : Result T E) (e : E) → IsErrAnd r (λ x. x ≡ e) → r ≡ Err e
err_is r e h = let p = err_from_is_err_and r h in p.1 ∙ ap Err p.2

pub ok_clear : (x : Result (Unit {0}) Refusal) → is_ok x ≡ true → code x ≡ clear
ok_clear (Ok v) e = refl
ok_clear (Err r) e = let z : ◌≡◌ {A = ℕ} 0 1 = cc in absurd (omega arith)

pub err_not_clear : {X : Type 0} (x : Result (Unit {0}) Refusal) → is_ok x ≡ false → code x ≡ clear → X
err_not_clear (Ok v) e f = let z : ◌≡◌ {A = ℕ} 0 1 = cc in absurd (omega arith)
err_not_clear (Err r) e f = never_clear r f

pub code_high : (x : Result (Unit {0}) Refusal) → code x ≤ clear
code_high (Ok v) = omega arith
code_high (Err r) = omega (arith, number_low r)

pub code_ok : (x : Result (Unit {0}) Refusal) → eqb (code x) clear ≡ is_ok x
code_ok (Ok v) = refl
code_ok (Err r) = ne_eqb (number r) clear (λ e. never_clear r e)

pub code_err : (x : Result (Unit {0}) Refusal) → is_err x ≡ true → code x ≡ clear → ⊥
code_err (Ok v) e c = let z : ◌≡◌ {A = ℕ} 0 1 = cc in absurd (omega arith)
code_err (Err r) e c = never_clear r c

pub code_none : (x : Result (Unit {0}) Refusal) → is_err x ≡ false → code x ≡ clear
code_none (Ok v) e = refl
code_none (Err r) e = let z : ◌≡◌ {A = ℕ} 0 1 = cc in absurd (omega arith)
