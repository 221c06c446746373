use Rattle.std.proofs.Common.{◌≤◌}
use Rattle.rdx_lang.specs.declared.operation.HostOp.{HostOp}
use Rattle.rdx_term.specs.Tree.{Tree}
use Rattle.rdx_eval.specs.Answers.{Answer}
use Rattle.rdx_eval.specs.Inside.Frames.{ArgumentsGive}
use Rattle.rdx_eval.specs.Inside.Parts.{hosts_in}
use Rattle.rdx_eval.specs.Inside.Scopes.{calls_here, bound_here}
use Rattle.rdx_eval.specs.Inside.Weights.{hosts_weight}
use Rattle.rdx_eval.specs.Views.{terms_in}
use Rattle.rdx_eval.proofs.at_once.past_arguments.Given as goal

abbrev pub invariant-loop : goal.invariant-loop
invariant-loop g l =
    ((op : HostOp) (r : Answer Tree) → ArgumentsGive (calls_here l.scope) (bound_here l.scope) l.turns op (hosts_in l.rest) (terms_in l.found) r
    → ArgumentsGive (calls_here l.scope) (bound_here l.scope) l.turns op (hosts_in l.hs) (terms_in l.fn.found) r)
    × (hosts_weight (hosts_in l.rest) ≤ hosts_weight (hosts_in l.hs))
