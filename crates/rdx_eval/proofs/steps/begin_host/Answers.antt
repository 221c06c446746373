use Rattle.std.proofs.Common.{arith, ◌≡◌, ◌<◌, ◌+◌, List, [], map, refl, sym, ◌∙◌, ap, subst}
use Rattle.rdx_term.specs.Tree.{Tree}
use Rattle.rdx_term.specs.View.{tree_of}
use Rattle.rdx_lang.specs.Bindings.{Binding}
use Rattle.rdx_lang.specs.Templates.{Host, Hosts, apply}
use Rattle.rdx_lang.specs.TemplateView.{host_of}
use Rattle.rdx_eval.specs.Calls.{Calls}
use Rattle.rdx_eval.specs.Instantiation.{InstHost}
use Rattle.rdx_eval.specs.Inside.Frames.{stays}
use Rattle.rdx_eval.specs.Inside.Parts.{hosts_in}
use Rattle.rdx_eval.specs.Inside.Scopes.{calls_here, bound_here}
use Rattle.rdx_eval.specs.Inside.Weights.{host_weight, hosts_weight}
use Rattle.rdx_eval.specs.Views.{terms_in}
use Rattle.rdx_eval.proofs.ItemEquations.{host_call}
use Rattle.rdx_eval.proofs.StepLaws.{arguments-all}
use Rattle.rdx_eval.proofs.steps.begin_host.Goals as goal

pub returns-in-Call : goal.returns-in-Call
returns-in-Call g c =
    let C : Calls = calls_here c.args.scope.now in
    let b : Binding = bound_here c.args.scope.now in
    let hs : Hosts = hosts_in c.deref.result.now in
    let us : List Tree = terms_in c.new.result in
    let d : us ≡ [] = ap (map tree_of) c.new.ensures.items in
    let e : host_of c.args.h.now ≡ apply c.in-Call.op hs =
    ap host_of c.in-Call.is ∙ host_call c.in-Call.op c.in-Call.hs ∙ ap (λ xs. apply c.in-Call.op (hosts_in xs)) (sym c.deref.ensures.value) in
    let k : host_weight (host_of c.args.h.now) ≡ hosts_weight hs + 2 = ap host_weight e in
    let l : hosts_weight hs + 1 < host_weight (host_of c.args.h.now) = omega (arith, k) in
    λ is ws. stays refl refl l (λ r h. subst (λ (k : Host). InstHost C b is k r) (sym e) (arguments-all C b is c.in-Call.op hs us d r h))
