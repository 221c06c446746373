use Rattle.std.proofs.Common.{◌≡◌, length}
use Rattle.rdx_sexp.specs.Text.{after_all}
use Rattle.rdx_sexp.proofs.cursor.Cursor.end.Given as goal

abbrev pub invariant-loop-rest : goal.invariant-loop-rest
invariant-loop-rest l = after_all l.at.place l.at.rest.now ≡ after_all l.initial.at.place l.initial.at.rest.now

abbrev pub decreases-loop-rest : goal.decreases-loop-rest
decreases-loop-rest l = length l.at.rest.now
