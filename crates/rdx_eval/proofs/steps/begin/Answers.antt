use Rattle.std.proofs.Common.{arith, ◌≡◌, ◌<◌, ℕ, ◌+◌, List, [], map, refl, sym, ◌∙◌, ap, subst}
use Rattle.rdx_term.specs.Tree.{Tree}
use Rattle.rdx_term.specs.View.{tree_of}
use Rattle.rdx_lang.specs.Bindings.{Binding}
use Rattle.rdx_lang.specs.Templates.{Template, Items, seq, call, fill}
use Rattle.rdx_lang.specs.TemplateView.{template_of}
use Rattle.rdx_eval.specs.Calls.{Calls}
use Rattle.rdx_eval.specs.Instantiation.{Inst}
use Rattle.rdx_eval.specs.Inside.Frames.{stays}
use Rattle.rdx_eval.specs.Inside.Parts.{items_in}
use Rattle.rdx_eval.specs.Inside.Scopes.{calls_here, bound_here}
use Rattle.rdx_eval.specs.Inside.Weights.{items_weight, weight}
use Rattle.rdx_eval.specs.Views.{terms_in}
use Rattle.rdx_eval.specs.declared.frames.Frame.TheVariants as frames
use Rattle.rdx_eval.proofs.ItemEquations.{template_call, template_fill, template_seq}
use Rattle.rdx_eval.proofs.StepLaws.{push-plain, row-call, row-list}
use Rattle.rdx_eval.proofs.steps.begin.Goals as goal

pub returns-in_ok-push-in-Fill : goal.returns-in_ok-push-in-Fill
returns-in_ok-push-in-Fill g c =
    let C : Calls = calls_here c.args.scope.now in
    let b : Binding = bound_here c.args.scope.now in
    let is : List ℕ = c.args.turns.now in
    let e : template_of c.args.template.now ≡ fill (template_of c.deref-in-Fill.result.now) (template_of c.deref.result.now) =
    ap template_of c.in-Fill.is ∙ template_fill c.in-Fill.context c.in-Fill.part
    ∙ ap (λ x. fill (template_of x) (template_of c.in-Fill.part.value)) (sym c.deref-in-Fill.ensures)
    ∙ ap (λ x. fill (template_of c.deref-in-Fill.result.now) (template_of x)) (sym c.deref.ensures) in
    let k : weight (template_of c.args.template.now) ≡ weight (template_of c.deref-in-Fill.result.now) + weight (template_of c.deref.result.now) + 3 = ap weight e in
    let l : weight (template_of c.deref.result.now) + 2 + weight (template_of c.deref-in-Fill.result.now) < weight (template_of c.args.template.now) = omega (arith, k) in
    push-plain C b (Inst C b is (template_of c.args.template.now)) _ is _ _ _ (frames.Context c.deref.result) refl c.in_ok-push-in-Fill.ensures.items l
    (λ r h. subst (λ (k : Template). Inst C b is k r) (sym e) h)

pub returns-in-Call : goal.returns-in-Call
returns-in-Call g c =
    let C : Calls = calls_here c.args.scope.now in
    let b : Binding = bound_here c.args.scope.now in
    let is : List ℕ = c.args.turns.now in
    let ts : Items = items_in c.deref-in-Call.result.now in
    let us : List Tree = terms_in c.new.result in
    let d : us ≡ [] = ap (map tree_of) c.new.ensures.items in
    let e : template_of c.args.template.now ≡ call c.in-Call.f ts =
    ap template_of c.in-Call.is ∙ template_call c.in-Call.f c.in-Call.items ∙ ap (λ xs. call c.in-Call.f (items_in xs)) (sym c.deref-in-Call.ensures.value) in
    let k : weight (template_of c.args.template.now) ≡ items_weight ts + 3 = ap weight e in
    let l : items_weight ts + 2 < weight (template_of c.args.template.now) = omega (arith, k) in
    stays refl refl l (λ r h. subst (λ (k : Template). Inst C b is k r) (sym e) (row-call C b is ts us d r c.in-Call.f h))

pub returns-in-Seq : goal.returns-in-Seq
returns-in-Seq g c =
    let C : Calls = calls_here c.args.scope.now in
    let b : Binding = bound_here c.args.scope.now in
    let is : List ℕ = c.args.turns.now in
    let ts : Items = items_in c.deref-in-Seq.result.now in
    let us : List Tree = terms_in c.new-in-Seq.result in
    let d : us ≡ [] = ap (map tree_of) c.new-in-Seq.ensures.items in
    let e : template_of c.args.template.now ≡ seq ts =
    ap template_of c.in-Seq.is ∙ template_seq c.in-Seq.items ∙ ap (λ xs. seq (items_in xs)) (sym c.deref-in-Seq.ensures.value) in
    let k : weight (template_of c.args.template.now) ≡ items_weight ts + 3 = ap weight e in
    let l : items_weight ts + 2 < weight (template_of c.args.template.now) = omega (arith, k) in
    stays refl refl l (λ r h. subst (λ (k : Template). Inst C b is k r) (sym e) (row-list C b is ts us d r h))
