use Rattle.std.proofs.Common.{arith, ◌≡◌, ◌<◌, ℕ, ◌+◌, List, refl, sym, ap, subst}
use Rattle.rdx_term.specs.Tree.{Tree}
use Rattle.rdx_lang.specs.Bindings.{Binding}
use Rattle.rdx_lang.specs.Templates.{Items}
use Rattle.rdx_lang.specs.TemplateView.{template_of}
use Rattle.rdx_eval.specs.Calls.{Calls}
use Rattle.rdx_eval.specs.Instantiation.{Inst, InstItems}
use Rattle.rdx_eval.specs.Inside.Frames.{Finish, Goes, RowGives}
use Rattle.rdx_eval.specs.Inside.Parts.{items_in}
use Rattle.rdx_eval.specs.Inside.Scopes.{calls_here, bound_here}
use Rattle.rdx_eval.specs.Inside.Weights.{items_weight, weight}
use Rattle.rdx_eval.specs.Views.{terms_in}
use Rattle.rdx_eval.specs.declared.frames.Aim.{Aim}
use Rattle.rdx_eval.specs.declared.frames.Frame.TheVariants as frames
use Rattle.rdx_eval.proofs.Pending.{onto-next, onto-none}
use Rattle.rdx_eval.proofs.StepLaws.{goes-less, push-plain}
use Rattle.rdx_eval.proofs.steps.next_item.Goals as goal

pub returns-in-End : goal.returns-in-End
returns-in-End g c =
    let C : Calls = calls_here c.args.scope.now in
    let b : Binding = bound_here c.args.scope.now in
    let is : List ℕ = c.args.turns.now.items in
    let us : List Tree = terms_in c.args.row.found in
    let a : Aim = c.args.row.aim in
    goes-less C b (Finish C a us) (RowGives C b is a (items_in c.args.row.rest.now) us) 2 (items_weight (items_in c.args.row.rest.now) + 2) is is _ _ c.finish.result (omega arith)
    (λ q h. subst (λ (ts : Items). RowGives C b is a ts us q) c.in-End.ensures (onto-none (Finish C a) us q h)) (c.finish.ensures is _)

pub returns-in_ok-push-in-One : goal.returns-in_ok-push-in-One
returns-in_ok-push-in-One g c =
    let C : Calls = calls_here c.args.scope.now in
    let b : Binding = bound_here c.args.scope.now in
    let is : List ℕ = c.args.turns.now.items in
    let us : List Tree = terms_in c.args.row.found in
    let a : Aim = c.args.row.aim in
    let k : items_weight (items_in c.args.row.rest.now) ≡ weight (template_of c.in-One.template.now) + items_weight (items_in c.in-One.rest.now) + 2 =
    ap items_weight (sym c.in-One.ensures) in
    let l : items_weight (items_in c.in-One.rest.now) + 3 + weight (template_of c.in-One.template.now) < items_weight (items_in c.args.row.rest.now) + 2 = omega (arith, k) in
    push-plain C b (RowGives C b is a (items_in c.args.row.rest.now) us) _ is _ _ _
    (frames.Item (record { aim = a; found = c.args.row.found; rest = c.in-One.rest })) refl c.in_ok-push-in-One.ensures.items l
    (λ r h. subst (λ (ts : Items). RowGives C b is a ts us r) c.in-One.ensures
    (onto-next (Finish C a) (Inst C b is (template_of c.in-One.template.now)) (InstItems C b is (items_in c.in-One.rest.now)) us r h))

pub returns-in-Many : goal.returns-in-Many
returns-in-Many g c =
    let C : Calls = calls_here c.args.scope.now in
    let b : Binding = bound_here c.args.scope.now in
    let is : List ℕ = c.args.turns.now.items in
    let us : List Tree = terms_in c.args.row.found in
    let a : Aim = c.args.row.aim in
    subst (λ (ts : Items). Goes C b (RowGives C b is a ts us) (items_weight ts + 2) is c.args.stack.now.items c.first_turn.new.turns.items c.first_turn.new.stack.items c.first_turn.result)
    c.in-Many.ensures c.first_turn.ensures
