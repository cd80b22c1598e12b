-- `meaning` looks the number up.
use native.Mathlib.Omega.{arith}
use Rattle.text.specs.String.{joined}
use Rattle.cli_refusal.specs.Refusal.{meanings, key, meaning}
use Rattle.cli_refusal.proofs.meaning.Goals as goal

pub returns : goal.returns
unfolding meaning meanings key joined
returns c = record { value = c.find.ensures.value; short = omega (arith, c.find.ensures.short) }
