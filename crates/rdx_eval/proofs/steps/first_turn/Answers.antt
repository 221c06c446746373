use Rattle.std.proofs.Common.{◌≡◌, ℕ, ◌+◌, List, subst}
use Rattle.rdx_term.specs.Tree.{Tree}
use Rattle.rdx_lang.specs.Bindings.{Binding}
use Rattle.rdx_lang.specs.Templates.{Template, Items, many}
use Rattle.rdx_lang.specs.TemplateView.{template_of}
use Rattle.rdx_eval.specs.Answers.{value, fault, stops}
use Rattle.rdx_eval.specs.Calls.{Calls}
use Rattle.rdx_eval.specs.Instantiation.{agree}
use Rattle.rdx_eval.specs.Inside.Frames.{RowGives}
use Rattle.rdx_eval.specs.Inside.Parts.{items_in}
use Rattle.rdx_eval.specs.Inside.Scopes.{calls_here, bound_here}
use Rattle.rdx_eval.specs.Inside.Weights.{items_weight}
use Rattle.rdx_eval.specs.Turns.{lengths}
use Rattle.rdx_eval.specs.Views.{terms_in}
use Rattle.rdx_eval.specs.declared.frames.Aim.{Aim}
use Rattle.rdx_eval.proofs.StepLaws.{goes-error}
use Rattle.rdx_eval.proofs.steps.first_turn.Goals as goal

pub returns-in_err-times : goal.returns-in_err-times
returns-in_err-times g c =
    let C : Calls = calls_here c.args.scope.now in
    let b : Binding = bound_here c.args.scope.now in
    let is : List ℕ = c.args.turns.now.items in
    let t : Template = template_of c.args.template.now in
    let ts : Items = items_in c.args.row.rest.now in
    let us : List Tree = terms_in c.args.row.found in
    let a : Aim = c.args.row.aim in
    let js : List ℕ = c.deref.result.now in
    goes-error C b (λ (m : ℕ). m) (λ r. r ≡ agree (lengths b js 0 t)) (RowGives C b is a (many t ts) us) (items_weight (many t ts) + 2) is is _ _ c.from_residual.result _
    c.from_residual.ensures.1
    (λ f h. stops (stops (stops (subst (λ (ks : List ℕ). fault f ≡ agree (lengths b ks 0 t)) c.deref.ensures.value h)))) c.in_err-times.ensures

pub begin_turns-requires : goal.begin_turns-requires
begin_turns-requires g c =
    let b : Binding = bound_here c.args.scope.now in
    subst (λ (ks : List ℕ). value c.in_ok-times.times ≡ agree (lengths b ks 0 (template_of c.args.template.now))) c.deref.ensures.value c.in_ok-times.ensures
