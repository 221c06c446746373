use Rattle.std.proofs.Common.{arith, ◌≡◌, ◌<◌, ◌+◌, refl, sym, ap, subst}
use Rattle.rdx_lang.specs.Bindings.{Binding}
use Rattle.rdx_lang.specs.Templates.{Hosts, more}
use Rattle.rdx_lang.specs.TemplateView.{host_of}
use Rattle.rdx_eval.specs.Calls.{Calls}
use Rattle.rdx_eval.specs.Instantiation.{FirstTrue}
use Rattle.rdx_eval.specs.Inside.Parts.{hosts_in}
use Rattle.rdx_eval.specs.Inside.Scopes.{calls_here, bound_here}
use Rattle.rdx_eval.specs.Inside.Weights.{host_weight, hosts_weight}
use Rattle.rdx_eval.specs.declared.frames.Frame.TheVariants as frames
use Rattle.rdx_eval.proofs.StepLaws.{push-plain}
use Rattle.rdx_eval.proofs.steps.in_or.Goals as goal

pub returns : goal.returns
returns g c =
    let C : Calls = calls_here c.args._scope.now in
    let b : Binding = bound_here c.args._scope.now in
    let e : hosts_in c.args.hs.now ≡ more (host_of c.in-Some.h.now) (hosts_in c.in-Some.rest.now) = ap hosts_in c.in-Some.ensures.cases.0 in
    let k : hosts_weight (hosts_in c.args.hs.now) ≡ host_weight (host_of c.in-Some.h.now) + hosts_weight (hosts_in c.in-Some.rest.now) + 2 = ap hosts_weight e in
    let l : hosts_weight (hosts_in c.in-Some.rest.now) + 2 + host_weight (host_of c.in-Some.h.now) < hosts_weight (hosts_in c.args.hs.now) + 1 = omega (arith, k) in
    λ is. push-plain C b (FirstTrue C b is (hosts_in c.args.hs.now)) _ is _ _ _ (frames.Or c.in-Some.rest) refl c.in_ok-push.ensures.items l
    (λ r h. subst (λ (hs : Hosts). FirstTrue C b is hs r) (sym e) h)
