use Rattle.std.proofs.Common.{arith, ◌+◌, ℕ, List}
use Rattle.rdx_term.specs.Tree.{Tree}
use Rattle.rdx_lang.specs.Bindings.{Binding}
use Rattle.rdx_lang.specs.Templates.{Hosts}
use Rattle.rdx_lang.specs.declared.operation.HostOp.{HostOp}
use Rattle.rdx_eval.specs.Calls.{Calls}
use Rattle.rdx_eval.specs.Inside.Frames.{ArgumentsGive}
use Rattle.rdx_eval.specs.Inside.Parts.{hosts_in}
use Rattle.rdx_eval.specs.Inside.Scopes.{calls_here, bound_here}
use Rattle.rdx_eval.specs.Inside.Weights.{hosts_weight}
use Rattle.rdx_eval.specs.Views.{terms_in}
use Rattle.rdx_eval.proofs.StepLaws.{goes-less}
use Rattle.rdx_eval.proofs.steps.in_arguments.Goals as goal

pub returns : goal.returns
returns g c =
    let C : Calls = calls_here c.args.scope.now in
    let b : Binding = bound_here c.args.scope.now in
    let is : List ℕ = c.args.turns.now in
    let op : HostOp = c.args.op in
    let hs : Hosts = hosts_in c.args.hs.now in
    let us : List Tree = terms_in c.args.found in
    let qs : Hosts = hosts_in c.in_ok-rest.rest.now in
    let vs : List Tree = terms_in c.past_arguments.new.found in
    goes-less C b (ArgumentsGive C b is op qs vs) (ArgumentsGive C b is op hs us) (hosts_weight qs + 1) (hosts_weight hs + 1) is is _ _ c.next_argument.result
    (omega (arith, c.in_ok-rest.ensures.less)) (c.in_ok-rest.ensures.gives op) (c.next_argument.ensures is)
