use Rattle.std.proofs.Common.{arith, ◌+◌, List, [], ◌∷◌, ◌++◌, refl, sym, ap, subst}
use Rattle.rdx_term.specs.Tree.{Tree}
use Rattle.rdx_term.specs.View.{tree_of}
use Rattle.rdx_lang.specs.Bindings.{Binding}
use Rattle.rdx_lang.specs.TemplateView.{template_of}
use Rattle.rdx_eval.specs.Calls.{Calls}
use Rattle.rdx_eval.specs.Inside.Frames.{After, ArgumentsGive, stays}
use Rattle.rdx_eval.specs.Inside.Parts.{items_in, hosts_in}
use Rattle.rdx_eval.specs.Inside.Scopes.{calls_here, bound_here}
use Rattle.rdx_eval.specs.Inside.Weights.{items_weight, weight}
use Rattle.rdx_eval.specs.Making.{IsFilled}
use Rattle.rdx_eval.specs.Views.{terms_in}
use Rattle.rdx_eval.specs.declared.frames.Frame.TheVariants as frames
use Rattle.rdx_eval.proofs.StepLaws.{at-plain, item-less, push-plain, row-same}
use Rattle.rdx_eval.proofs.steps.resume.Goals as goal

pub returns-in-Context : goal.returns-in-Context
returns-in-Context g c is e =
    let C : Calls = calls_here c.args.scope.now in
    let b : Binding = bound_here c.args.scope.now in
    let u : Tree = tree_of c.args.t in
    at-plain C b u is c.args.turns.now.items _ _ _ c.args.frame (frames.Context c.in-Context.part) e c.in-Context.is refl
    (push-plain C b (After C b is (frames.Context c.in-Context.part) u) (weight (template_of c.in-Context.part.now) + 2) is _ _ _ (frames.Part c.args.t) refl c.in_ok-push-in-Context.ensures.items (omega arith) (λ r h. h))

pub returns-in-Part : goal.returns-in-Part
returns-in-Part g c is e =
    let C : Calls = calls_here c.args.scope.now in
    let b : Binding = bound_here c.args.scope.now in
    let u : Tree = tree_of c.args.t in
    at-plain C b u is c.args.turns.now.items _ _ _ c.args.frame (frames.Part c.in-Part.context) e c.in-Part.is refl
    (stays refl refl (omega arith) (λ r h. subst (IsFilled (tree_of c.in-Part.context) u) (sym h) c.in_ok-filled-in-Part.ensures))

pub returns-in-Item : goal.returns-in-Item
returns-in-Item g c is e =
    let C : Calls = calls_here c.args.scope.now in
    let b : Binding = bound_here c.args.scope.now in
    let u : Tree = tree_of c.args.t in
    at-plain C b u is c.args.turns.now.items _ _ _ c.args.frame (frames.Item c.in-Item.row) e c.in-Item.is refl
    (stays refl refl (item-less (items_weight (items_in c.in-Item.row.rest.now)) (items_weight (items_in c.in_ok-with_term-in-Item.field-0.rest.now)) (ap (λ xs. items_weight (items_in xs)) c.in_ok-with_term-in-Item.ensures.rest)) (λ r h. row-same C b is c.in-Item.row.aim c.in_ok-with_term-in-Item.field-0.aim (items_in c.in-Item.row.rest.now) (items_in c.in_ok-with_term-in-Item.field-0.rest.now) (terms_in c.in-Item.row.found ++ u ∷ []) (terms_in c.in_ok-with_term-in-Item.field-0.found) r c.in_ok-with_term-in-Item.ensures.aim (ap items_in c.in_ok-with_term-in-Item.ensures.rest) c.in_ok-with_term-in-Item.ensures.found h))

pub returns-in-Argument : goal.returns-in-Argument
returns-in-Argument g c is e =
    let C : Calls = calls_here c.args.scope.now in
    let b : Binding = bound_here c.args.scope.now in
    let u : Tree = tree_of c.args.t in
    at-plain C b u is c.args.turns.now.items _ _ _ c.args.frame (frames.Argument c.in-Argument.op c.in-Argument.found c.in-Argument.hs) e c.in-Argument.is refl
    (stays refl refl (omega arith) (λ r h. subst (λ (us : List Tree). ArgumentsGive C b is c.in-Argument.op (hosts_in c.in-Argument.hs.now) us r) c.in_ok-one_more-in-Argument.ensures h))
