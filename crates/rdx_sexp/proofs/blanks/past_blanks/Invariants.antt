use Rattle.std.proofs.Common.{◌≡◌, length, []}
use Rattle.rdx_sexp.specs.Blanks.{past_blanks}
use Rattle.rdx_sexp.proofs.blanks.past_blanks.Given as goal

abbrev pub invariant-loop-c : goal.invariant-loop-c
invariant-loop-c l = past_blanks [] l.at.place l.at.rest.now ≡ past_blanks [] l.initial.at.place l.initial.at.rest.now

abbrev pub decreases-loop-c : goal.decreases-loop-c
decreases-loop-c l = length l.at.rest.now
