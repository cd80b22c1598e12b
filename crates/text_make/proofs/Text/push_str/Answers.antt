use Rattle.std.proofs.Common.{◌≡◌, ℕ, ◌+◌, ◌≤◌, List, ◌++◌, length, take, drop, arith, ap, ◌∙◌, length-take-le, append_assoc}
use Rattle.std.proofs.lemmas.Grind.{common_steps}
use Rattle.text.specs.Fill.{put}
use Rattle.text_make.proofs.Text.push_str.Goals as goal

-- what stands in front of what was stored, and that
put_front : (d : List ℕ) (at : ℕ) (s : List ℕ) → at ≤ length d → take (at + length s) (put d at s) ≡ take at d ++ s
unfolding put
put_front d at s h = grind (arith, common_steps, length-take-le)

pub returns : goal.returns
returns g c = rw c.copy.ensures (put_front c.self.inside.bytes c.self.inside.len c.args.s.now (omega (arith, c.self.invariant, c.requires)) ∙ ap (λ (l : List ℕ). l ++ c.args.s.now) c.self.view_is)
