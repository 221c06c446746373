use Rattle.std.proofs.Common.{arith, ◌≡◌, ℕ, ◌+◌, List, [], ◌∷◌, ◌++◌, drop, map, refl, ◌∙◌}
use Rattle.std.proofs.lemmas.Grind.{common_steps}
use Rattle.std.proofs.lemmas.Result.{IfOk-weaker}
use Rattle.rdx_term.specs.Tree.{Tree}
use Rattle.rdx_term.specs.View.{tree_of}
use Rattle.rdx_lang.specs.Bindings.{Binding}
use Rattle.rdx_lang.specs.ProgramView.{program_of}
use Rattle.rdx_lang.specs.Programs.{Program}
use Rattle.rdx_lang.specs.Shown.{binding_of}
use Rattle.rdx_lang.specs.Templates.{Template}
use Rattle.rdx_lang.specs.TemplateView.{template_of}
use Rattle.rdx_lang.proofs.Rest.{rest_at, rest_none}
use Rattle.rdx_bind.proofs.TurnRows.{item_in}
use Rattle.rdx_eval.specs.Answers.{Answer, value, goes, Single}
use Rattle.rdx_eval.specs.Instantiation.{Makes}
use Rattle.rdx_eval.specs.Views.{terms_in}
use Rattle.rdx_eval.proofs.Gathered.{gathers-next, gathers-end}
use Rattle.rdx_deriv.specs.Judged.{calls}
use Rattle.rdx_deriv.proofs.FoundOnce.{finds_list, found_none, found_some, list_not}
use Rattle.rdx_deriv.proofs.making.made_list.Goals as goal

pub loop-template-preserved : goal.loop-template-preserved
loop-template-preserved g c = record {
  gathers = (let R : Template → Answer (List Tree) → Type 0 = λ (m : Template). Single
      (Makes (calls (program_of c.args.program.now)) (binding_of c.args.b.now) m) in
      let xs = c.args.templates.now in
      let i : ℕ = c.loop-template.template-index in
      let x = c.template-item.result in
      let e : map template_of (drop i xs) ≡ template_of x ∷ map template_of (drop (i + 1) xs) =
      rest_at template_of xs i x c.loop-template-test.true c.template-item.is in
      let d : terms_in c.push.new.self ≡ terms_in c.loop-template.items ++ tree_of c.in-Some.t ∷ [] = grind (arith, common_steps) in
      gathers-next R (map template_of xs) (template_of x) _ _ (terms_in c.loop-template.items) (tree_of c.in-Some.t ∷ [])
      (terms_in c.push.new.self) e d
      (goes ((found_some tree_of (λ u. Makes (calls (program_of c.args.program.now)) (binding_of c.args.b.now) (template_of x) (value u))
      c.in_ok-t.field-0
      c.in_ok-t.ensures.made c.in-Some.t c.in-Some.is (tree_of c.in-Some.t)).1 refl) refl) c.loop-template.invariant.gathers);
  same = c.made.ensures.same ∙ c.loop-template.invariant.same;
}

pub returns-in_default-clause-made : goal.returns-in_default-clause-made
returns-in_default-clause-made g c =
    let x = c.template-item.result in
    list_not (program_of c.args.program.now) (binding_of c.args.b.now) (map template_of c.args.templates.now) (template_of x)
    (item_in template_of c.args.templates.now c.loop-template.template-index x c.loop-template-test.true c.template-item.is)
    (found_none tree_of (λ u. Makes (calls (program_of c.args.program.now)) (binding_of c.args.b.now) (template_of x) (value u)) c.in_ok-t.field-0
    c.in_ok-t.ensures.made c.in_default.is)

pub returns-clause-made : goal.returns-clause-made
returns-clause-made g c =
    let P : Program = program_of c.args.program.now in
    let b : Binding = binding_of c.args.b.now in
    let R : Template → Answer (List Tree) → Type 0 = λ (m : Template). Single (Makes (calls P) b m) in
    let xs = c.args.templates.now in
    let ts : List Tree = terms_in c.loop-template.items in
    IfOk-weaker c.listed.result _ _
    (λ o h. finds_list P b (map template_of xs) ts
    (gathers-end R (map template_of xs) _ ts (rest_none template_of xs c.loop-template.template-index c.loop-template-test.false)
    c.loop-template.invariant.gathers)
    o h)
    c.listed.ensures
