-- What templates and host expressions make.
use Rattle.std.proofs.Common.{arith, ◌≡◌, ℕ, ◌+◌, List, [], ◌∷◌, ◌++◌, drop, map, refl}
use Rattle.std.proofs.lemmas.Grind.{common_steps}
use Rattle.rdx_term.specs.Tree.{Tree}
use Rattle.rdx_term.specs.View.{tree_of}
use Rattle.rdx_lang.specs.Bindings.{Binding}
use Rattle.rdx_lang.specs.Templates.{Template}
use Rattle.rdx_lang.specs.TemplateView.{template_of}
use Rattle.rdx_lang.proofs.Rest.{rest_at, rest_none}
use Rattle.rdx_eval.specs.Answers.{Answer, stops, goes, Single}
use Rattle.rdx_eval.specs.Calls.{Calls}
use Rattle.rdx_eval.specs.Inside.Parts.{InstList}
use Rattle.rdx_eval.specs.Inside.Scopes.{calls_here, bound_here}
use Rattle.rdx_eval.specs.Instantiation.{Inst}
use Rattle.rdx_eval.specs.Making.{IsList}
use Rattle.rdx_eval.specs.Views.{terms_in}
use Rattle.rdx_eval.proofs.Gathered.{gathers-next, gathers-fault, gathers-end}
use Rattle.rdx_eval.proofs.HandedOn.{handed_on, error_handed_on}
use Rattle.rdx_eval.proofs.evaluation.+evaluation.Goals as goal

-- ---- a context and what fills it

-- ---- a call

-- ---- items

-- ---- templates, one after the other

pub make_list-returns-in_err-t-clause-answer : goal.make_list-returns-in_err-t-clause-answer
make_list-returns-in_err-t-clause-answer g t c =
    let C : Calls = calls_here c.args.scope.now in
    let b : Binding = bound_here c.args.scope.now in
    let is : List ℕ = [] in
    let R : Template → Answer (List Tree) → Type 0 = λ (u : Template). Single (Inst C b is u) in
    let xs = c.args.templates.now in
    let i : ℕ = c.loop-template.template-index in
    let x = c.template-item.result in
    let e : map template_of (drop i xs) ≡ template_of x ∷ map template_of (drop (i + 1) xs) =
    rest_at template_of xs i x c.loop-template-test.true c.template-item.is in
    error_handed_on tree_of tree_of (Inst C b is (template_of x)) (InstList C b is (map template_of xs))
    c.from_residual.result _ c.from_residual.ensures.1
    (λ f h. stops (gathers-fault R (map template_of xs) (template_of x) _ _ (terms_in c.loop-template.found) f e (stops h) c.loop-template.invariant.answer))
    c.in_err-t.ensures.answer

pub make_list-loop-template-preserved : goal.make_list-loop-template-preserved
make_list-loop-template-preserved g t c = record {
  answer = (let C : Calls = calls_here c.args.scope.now in
      let b : Binding = bound_here c.args.scope.now in
      let is : List ℕ = [] in
      let R : Template → Answer (List Tree) → Type 0 = λ (u : Template). Single (Inst C b is u) in
      let xs = c.args.templates.now in
      let i : ℕ = c.loop-template.template-index in
      let x = c.template-item.result in
      let e : map template_of (drop i xs) ≡ template_of x ∷ map template_of (drop (i + 1) xs) =
      rest_at template_of xs i x c.loop-template-test.true c.template-item.is in
      let d : terms_in c.push.new.self ≡ terms_in c.loop-template.found ++ tree_of c.in_ok-t.t ∷ [] = grind (arith, common_steps) in
      gathers-next R (map template_of xs) (template_of x) _ _ (terms_in c.loop-template.found) (tree_of c.in_ok-t.t ∷ []) (terms_in c.push.new.self) e d
      (goes c.in_ok-t.ensures.answer refl) c.loop-template.invariant.answer);
  kept = c.in_ok-t.ensures.kept;
}

pub make_list-returns-clause-answer : goal.make_list-returns-clause-answer
make_list-returns-clause-answer g t c =
    let C : Calls = calls_here c.args.scope.now in
    let b : Binding = bound_here c.args.scope.now in
    let is : List ℕ = [] in
    let R : Template → Answer (List Tree) → Type 0 = λ (u : Template). Single (Inst C b is u) in
    let xs = c.args.templates.now in
    let ts : List Tree = terms_in c.loop-template.found in
    handed_on tree_of (IsList ts) (InstList C b is (map template_of xs)) c.listed.result
    (λ q h. goes
    (gathers-end R (map template_of xs) _ ts (rest_none template_of xs c.loop-template.template-index c.loop-template-test.false)
    c.loop-template.invariant.answer) h)
    c.listed.ensures

-- ---- an ellipsis

-- ---- an operation

-- ---- `and`

-- ---- `or`
