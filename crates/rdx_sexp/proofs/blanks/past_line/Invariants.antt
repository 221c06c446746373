use Rattle.std.proofs.Common.{◌≡◌, ◌≤◌, length}
use Rattle.rdx_sexp.specs.Begin.{past_line}
use Rattle.rdx_sexp.specs.Blanks.{past_comment}
use Rattle.rdx_sexp.proofs.blanks.past_line.Given as goal

abbrev pub invariant-loop-c : goal.invariant-loop-c
invariant-loop-c l = (past_comment l.at.place l.at.rest.now ≡ past_comment l.initial.at.place l.initial.at.rest.now) × (past_line l.at.place l.at.rest.now ≡ past_line l.initial.at.place l.initial.at.rest.now) × (length l.at.rest.now ≤ length l.initial.at.rest.now)

abbrev pub decreases-loop-c : goal.decreases-loop-c
decreases-loop-c l = length l.at.rest.now
