use Rattle.std.proofs.lemmas.Result.{IfOk-weaker}
use Rattle.rdx_lang.specs.ProgramView.{program_of}
use Rattle.rdx_eval.specs.Views.{program_in}
use Rattle.rdx_deriv.specs.DerivationView.{derivation_of, goal_of}
use Rattle.rdx_deriv.proofs.HeldLists.{node_of}
use Rattle.rdx_deriv.proofs.holding.is_node.Goals as goal

pub returns-clause-node : goal.returns-clause-node
returns-clause-node g c =
    IfOk-weaker c.follows.result _ _
    (λ r h. node_of r (program_of (program_in c.args.engine.now).now) (derivation_of c.args.d.now) (goal_of c.goal.result.now) c.choice.result.now c.under.result.now c.goal.ensures c.choice.ensures c.under.ensures h)
    c.follows.ensures.node
