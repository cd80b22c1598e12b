-- What `?` returns.
use Rattle.std.proofs.Common.{◌≡◌, refl}
use Rattle.std.specs.Prelude.{Result, Ok, Err}
use Rattle.std.specs.Result.{IsErrAnd}

pub err_is : {A E : Type 0} (r : Result A E) (P : E → Type 0) → IsErrAnd r P → (e : E) × (r ≡ Err e) × P e
err_is (Ok a) P h = absurd h
err_is (Err e) P h = (e, refl, h)
