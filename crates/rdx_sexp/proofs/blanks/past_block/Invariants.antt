use Rattle.std.proofs.Common.{◌≡◌, ◌≤◌, length, reverse, ◌∷◌, []}
use Rattle.rdx_sexp.specs.Blanks.{past_blanks}
use Rattle.rdx_sexp.proofs.blanks.past_block.Given as goal

abbrev pub invariant-loop-innermost : goal.invariant-loop-innermost
invariant-loop-innermost l = (past_blanks (reverse l.open.items) l.at.place l.at.rest.now ≡ past_blanks (l.fn.place ∷ []) l.initial.at.place l.initial.at.rest.now) × (length l.at.rest.now ≤ length l.initial.at.rest.now)

abbrev pub decreases-loop-innermost : goal.decreases-loop-innermost
decreases-loop-innermost l = length l.at.rest.now
