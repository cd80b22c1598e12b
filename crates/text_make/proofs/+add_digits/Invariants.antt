-- Each call has a number with one digit less.
use Rattle.text_make.proofs.+add_digits.Given as goal

abbrev pub decreases-add_digits : goal.decreases-add_digits
decreases-add_digits l = l.n
