use Rattle.std.proofs.Common.{arith, ◌≡◌, ◌<◌, ◌+◌, List, refl, sym, ◌∙◌, ap, subst}
use Rattle.rdx_term.specs.Tree.{Tree}
use Rattle.rdx_term.specs.View.{tree_of}
use Rattle.rdx_lang.specs.Bindings.{Binding}
use Rattle.rdx_lang.specs.Templates.{Hosts, more, none}
use Rattle.rdx_lang.specs.TemplateView.{host_of}
use Rattle.rdx_delta.specs.Delta.{delta}
use Rattle.rdx_eval.specs.Answers.{fault}
use Rattle.rdx_eval.specs.Calls.{Calls}
use Rattle.rdx_eval.specs.Instantiation.{InstHost, InstHosts, replied}
use Rattle.rdx_eval.specs.Inside.Frames.{ArgumentsGive, stays}
use Rattle.rdx_eval.specs.Inside.Parts.{hosts_in}
use Rattle.rdx_eval.specs.Inside.Scopes.{calls_here, bound_here}
use Rattle.rdx_eval.specs.Inside.Weights.{host_weight, hosts_weight}
use Rattle.rdx_eval.specs.Views.{terms_in}
use Rattle.rdx_eval.specs.declared.frames.Frame.TheVariants as frames
use Rattle.rdx_eval.proofs.Pending.{onto-next, onto-none}
use Rattle.rdx_eval.proofs.StepLaws.{goes-error, hosts-none, push-plain}
use Rattle.rdx_eval.proofs.steps.next_argument.Goals as goal

pub returns-in_err-operate : goal.returns-in_err-operate
returns-in_err-operate g c =
    let C : Calls = calls_here c.args.scope.now in
    let b : Binding = bound_here c.args.scope.now in
    let us : List Tree = terms_in c.args.found in
    let e : hosts_in c.args.hs.now ≡ none = hosts-none c.args.hs.now c.in_default.ensures.cases in
    λ is. goes-error C b tree_of (λ r. r ≡ replied c.args.op us (delta c.args.op us)) (ArgumentsGive C b is c.args.op (hosts_in c.args.hs.now) us) _ is is _ _
    c.from_residual.result _ c.from_residual.ensures.1
    (λ f h. subst (λ (hs : Hosts). ArgumentsGive C b is c.args.op hs us (fault f)) (sym e)
    (onto-none (λ ts r. r ≡ replied c.args.op ts (delta c.args.op ts)) us (fault f) h)) c.in_err-operate.ensures

pub returns-in_default : goal.returns-in_default
returns-in_default g c =
    let C : Calls = calls_here c.args.scope.now in
    let b : Binding = bound_here c.args.scope.now in
    let us : List Tree = terms_in c.args.found in
    let e : hosts_in c.args.hs.now ≡ none = hosts-none c.args.hs.now c.in_default.ensures.cases in
    λ is. stays refl refl (omega arith) (λ r h. subst (λ (hs : Hosts). ArgumentsGive C b is c.args.op hs us r) (sym e)
    (onto-none (λ ts q. q ≡ replied c.args.op ts (delta c.args.op ts)) us r (h ∙ c.in_ok-operate.ensures)))

pub returns : goal.returns
returns g c =
    let C : Calls = calls_here c.args.scope.now in
    let b : Binding = bound_here c.args.scope.now in
    let us : List Tree = terms_in c.args.found in
    let e : hosts_in c.args.hs.now ≡ more (host_of c.in-Some.h.now) (hosts_in c.in-Some.rest.now) = ap hosts_in c.in-Some.ensures.cases.0 in
    let k : hosts_weight (hosts_in c.args.hs.now) ≡ host_weight (host_of c.in-Some.h.now) + hosts_weight (hosts_in c.in-Some.rest.now) + 2 = ap hosts_weight e in
    let l : hosts_weight (hosts_in c.in-Some.rest.now) + 2 + host_weight (host_of c.in-Some.h.now) < hosts_weight (hosts_in c.args.hs.now) + 1 = omega (arith, k) in
    λ is. push-plain C b (ArgumentsGive C b is c.args.op (hosts_in c.args.hs.now) us) _ is _ _ _ (frames.Argument c.args.op c.args.found c.in-Some.rest) refl
    c.in_ok-push.ensures.items l
    (λ r h. subst (λ (hs : Hosts). ArgumentsGive C b is c.args.op hs us r) (sym e)
    (onto-next (λ ts q. q ≡ replied c.args.op ts (delta c.args.op ts)) (InstHost C b is (host_of c.in-Some.h.now))
    (InstHosts C b is (hosts_in c.in-Some.rest.now)) us r h))
