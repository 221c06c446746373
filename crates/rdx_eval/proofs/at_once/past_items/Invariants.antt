use Rattle.std.proofs.Common.{◌≤◌}
use Rattle.rdx_term.specs.Tree.{Tree}
use Rattle.rdx_eval.specs.Answers.{Answer}
use Rattle.rdx_eval.specs.Inside.Frames.{RowGives}
use Rattle.rdx_eval.specs.Inside.Parts.{items_in}
use Rattle.rdx_eval.specs.Inside.Scopes.{calls_here, bound_here}
use Rattle.rdx_eval.specs.Inside.Weights.{items_weight}
use Rattle.rdx_eval.specs.Views.{terms_in}
use Rattle.rdx_eval.specs.declared.frames.Aim.{Aim}
use Rattle.rdx_eval.proofs.at_once.past_items.Given as goal

abbrev pub invariant-loop : goal.invariant-loop
invariant-loop g l =
    ((a : Aim) (r : Answer Tree) → RowGives (calls_here l.scope) (bound_here l.scope) l.turns a (items_in l.rest) (terms_in l.found) r
    → RowGives (calls_here l.scope) (bound_here l.scope) l.turns a (items_in l.items) (terms_in l.fn.found) r)
    × (items_weight (items_in l.rest) ≤ items_weight (items_in l.items))
