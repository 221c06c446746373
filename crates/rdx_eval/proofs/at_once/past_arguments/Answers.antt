use Rattle.std.proofs.Common.{arith, ◌≡◌, ◌≤◌, ◌+◌, ℕ, List, [], ◌∷◌, ◌++◌, map, sym, ◌∙◌, ap, subst}
use Rattle.std.proofs.lemmas.List.{map-append}
use Rattle.std.specs.Option.{IfSome}
use Rattle.rdx_delta.specs.Delta.{delta}
use Rattle.rdx_term.specs.Tree.{Tree}
use Rattle.rdx_term.specs.View.{tree_of}
use Rattle.rdx_lang.specs.Bindings.{Binding}
use Rattle.rdx_lang.specs.Templates.{Host, Hosts, more}
use Rattle.rdx_lang.specs.TemplateView.{host_of}
use Rattle.rdx_eval.specs.Answers.{value, goes}
use Rattle.rdx_eval.specs.Calls.{Calls}
use Rattle.rdx_eval.specs.Instantiation.{InstHost, InstHosts, replied}
use Rattle.rdx_eval.specs.Inside.Frames.{ArgumentsGive}
use Rattle.rdx_eval.specs.Inside.Parts.{hosts_in}
use Rattle.rdx_eval.specs.Inside.Scopes.{calls_here, bound_here}
use Rattle.rdx_eval.specs.Inside.Weights.{host_weight, hosts_weight}
use Rattle.rdx_eval.specs.Views.{terms_in}
use Rattle.rdx_eval.proofs.Pending.{onto-next}
use Rattle.rdx_eval.proofs.at_once.past_arguments.Goals as goal

pub loop-preserved : goal.loop-preserved
loop-preserved g c =
    let C : Calls = calls_here c.args.scope.now in
    let b : Binding = bound_here c.args.scope.now in
    let is : List ℕ = c.args.turns.now in
    let p : Host = host_of c.in-Some.h.now in
    let ps : Hosts = hosts_in c.in-Some.behind.now in
    let t : Tree = tree_of c.in-Some-2.t in
    let us : List Tree = terms_in c.loop.found in
    let e : hosts_in c.loop.rest.now ≡ more p ps = ap hosts_in c.in-Some.ensures.cases.0 in
    let m : InstHost C b is p (value t) = subst (λ o. IfSome o (λ v. InstHost C b is p (value (tree_of v)))) c.in-Some-2.is c.in_ok-t.ensures in
    let k : terms_in c.push.new.self ≡ us ++ t ∷ [] = ap (map tree_of) c.in_ok-push.ensures.items ∙ map-append tree_of c.loop.found.items (c.in-Some-2.t ∷ []) in
    let w : hosts_weight (hosts_in c.loop.rest.now) ≡ host_weight p + hosts_weight ps + 2 = ap hosts_weight e in
    let l : hosts_weight (hosts_in c.loop.rest.now) ≤ hosts_weight (hosts_in c.args.hs.now) = c.loop.invariant.1 in (
      (λ op r h. c.loop.invariant.0 op r (subst (λ (qs : Hosts). ArgumentsGive C b is op qs us r) (sym e)
          (onto-next (λ ts q. q ≡ replied op ts (delta op ts)) (InstHost C b is p) (InstHosts C b is ps) us r (goes m (subst (λ (vs : List Tree). ArgumentsGive C b is op ps vs r) k h))))),
      omega (arith, w, l),
    )
