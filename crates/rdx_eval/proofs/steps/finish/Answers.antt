use Rattle.std.proofs.Common.{arith, List, refl, sym, subst}
use Rattle.rdx_term.specs.Tree.{Tree}
use Rattle.rdx_term.specs.View.{tree_of}
use Rattle.rdx_lang.specs.Bindings.{Binding}
use Rattle.rdx_eval.specs.Answers.{goes}
use Rattle.rdx_eval.specs.Calls.{Calls}
use Rattle.rdx_eval.specs.Inside.Frames.{Finish, stays}
use Rattle.rdx_eval.specs.Inside.Scopes.{calls_here, bound_here}
use Rattle.rdx_eval.specs.Making.{IsList}
use Rattle.rdx_eval.specs.Views.{terms_in}
use Rattle.rdx_eval.specs.declared.frames.Aim.{Aim}
use Rattle.rdx_eval.proofs.StepLaws.{finish-fault, goes-error}
use Rattle.rdx_eval.proofs.steps.finish.Goals as goal

pub returns-in_err-t : goal.returns-in_err-t
returns-in_err-t g c =
    let C : Calls = calls_here c.args.scope.now in
    let b : Binding = bound_here c.args.scope.now in
    let ts : List Tree = terms_in c.args.found in
    λ is ws. goes-error C b tree_of (IsList ts) (Finish C c.args.aim ts) 2 is is ws ws c.from_residual.result _ c.from_residual.ensures.1
    (λ f h. finish-fault C b c.args.aim ts f h) c.in_err-t.ensures

pub returns-in-List : goal.returns-in-List
returns-in-List g c =
    let C : Calls = calls_here c.args.scope.now in
    let b : Binding = bound_here c.args.scope.now in
    let ts : List Tree = terms_in c.args.found in
    λ is ws. stays refl refl (omega arith) (λ r h. subst (λ (a : Aim). Finish C a ts r) (sym c.in-List.is) (subst (IsList ts) (sym h) c.in_ok-t.ensures))

pub returns-in-Call : goal.returns-in-Call
returns-in-Call g c =
    let C : Calls = calls_here c.args.scope.now in
    let b : Binding = bound_here c.args.scope.now in
    let ts : List Tree = terms_in c.args.found in
    λ is ws. stays refl refl (omega arith) (λ r h. subst (λ (a : Aim). Finish C a ts r) (sym c.in-Call.is) (goes c.in_ok-t.ensures h))
