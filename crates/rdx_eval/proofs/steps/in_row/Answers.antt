use Rattle.std.proofs.Common.{arith, ◌+◌, ℕ, List, subst}
use Rattle.rdx_term.specs.Tree.{Tree}
use Rattle.rdx_lang.specs.Bindings.{Binding}
use Rattle.rdx_lang.specs.Templates.{Items}
use Rattle.rdx_eval.specs.Answers.{Answer}
use Rattle.rdx_eval.specs.Calls.{Calls}
use Rattle.rdx_eval.specs.Inside.Frames.{RowGives}
use Rattle.rdx_eval.specs.Inside.Parts.{items_in}
use Rattle.rdx_eval.specs.Inside.Scopes.{calls_here, bound_here}
use Rattle.rdx_eval.specs.Inside.Weights.{items_weight}
use Rattle.rdx_eval.specs.Views.{terms_in}
use Rattle.rdx_eval.specs.declared.frames.Aim.{Aim}
use Rattle.rdx_eval.proofs.StepLaws.{goes-less}
use Rattle.rdx_eval.proofs.steps.in_row.Goals as goal

pub returns : goal.returns
returns g c =
    let C : Calls = calls_here c.args.scope.now in
    let b : Binding = bound_here c.args.scope.now in
    let is : List ℕ = c.args.turns.now.items in
    let a : Aim = c.args.row.aim in
    let ps : Items = items_in c.args.row.rest.now in
    let us : List Tree = terms_in c.args.row.found in
    let qs : Items = items_in c.in_ok-rest.rest.now in
    let vs : List Tree = terms_in c.past_items.new.found in
    let k : (d : Aim) (r : Answer Tree) → RowGives C b is d qs vs r → RowGives C b is d ps us r =
    subst (λ (js : List ℕ). (d : Aim) (r : Answer Tree) → RowGives C b js d qs vs r → RowGives C b js d ps us r) c.deref.ensures.value c.in_ok-rest.ensures.gives in
    goes-less C b (RowGives C b is a qs vs) (RowGives C b is a ps us) (items_weight qs + 2) (items_weight ps + 2) is _ _ _ c.next_item.result
    (omega (arith, c.in_ok-rest.ensures.less)) (k a) c.next_item.ensures
