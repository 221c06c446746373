use Rattle.std.proofs.Common.{arith, ◌≡◌, ◌≤◌, ◌+◌, ℕ, List, [], ◌∷◌, ◌++◌, map, sym, ◌∙◌, ap, subst}
use Rattle.std.proofs.lemmas.List.{map-append}
use Rattle.std.specs.Option.{IfSome}
use Rattle.rdx_term.specs.Tree.{Tree}
use Rattle.rdx_term.specs.View.{tree_of}
use Rattle.rdx_lang.specs.Bindings.{Binding}
use Rattle.rdx_lang.specs.Templates.{Template, Items, one}
use Rattle.rdx_lang.specs.TemplateView.{template_of}
use Rattle.rdx_eval.specs.Answers.{value, goes}
use Rattle.rdx_eval.specs.Calls.{Calls}
use Rattle.rdx_eval.specs.Instantiation.{Inst, InstItems}
use Rattle.rdx_eval.specs.Inside.Frames.{Finish, RowGives}
use Rattle.rdx_eval.specs.Inside.Parts.{items_in}
use Rattle.rdx_eval.specs.Inside.Scopes.{calls_here, bound_here}
use Rattle.rdx_eval.specs.Inside.Weights.{weight, items_weight}
use Rattle.rdx_eval.specs.Views.{terms_in}
use Rattle.rdx_eval.proofs.Pending.{onto-next}
use Rattle.rdx_eval.proofs.at_once.past_items.Goals as goal

pub loop-preserved : goal.loop-preserved
loop-preserved g c =
    let C : Calls = calls_here c.args.scope.now in
    let b : Binding = bound_here c.args.scope.now in
    let is : List ℕ = c.args.turns.now in
    let p : Template = template_of c.in-One.template.now in
    let ps : Items = items_in c.in-One.behind.now in
    let t : Tree = tree_of c.in-Some.t in
    let us : List Tree = terms_in c.loop.found in
    let e : one p ps ≡ items_in c.loop.rest.now = c.in-One.ensures in
    let m : Inst C b is p (value t) = subst (λ o. IfSome o (λ v. Inst C b is p (value (tree_of v)))) c.in-Some.is c.in_ok-t.ensures in
    let k : terms_in c.push.new.self ≡ us ++ t ∷ [] = ap (map tree_of) c.in_ok-push.ensures.items ∙ map-append tree_of c.loop.found.items (c.in-Some.t ∷ []) in
    let w : items_weight (items_in c.loop.rest.now) ≡ weight p + items_weight ps + 2 = ap items_weight (sym e) in
    let l : items_weight (items_in c.loop.rest.now) ≤ items_weight (items_in c.args.items.now) = c.loop.invariant.1 in (
      (λ a r h. c.loop.invariant.0 a r (subst (λ (qs : Items). RowGives C b is a qs us r) e
          (onto-next (Finish C a) (Inst C b is p) (InstItems C b is ps) us r (goes m (subst (λ (vs : List Tree). RowGives C b is a ps vs r) k h))))),
      omega (arith, w, l),
    )
