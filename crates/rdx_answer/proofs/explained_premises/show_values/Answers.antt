use Rattle.std.proofs.Common.{◌≡◌, ◌∙◌, ◌++◌, ◌+◌, ℕ, List, ◌∷◌, drop, length, map, sym, subst, codes}
use Rattle.std.specs.Borrow.{Bor}
use Rattle.std.specs.Prelude.{decimal}
use Rattle.rdx_term.specs.Text.{tree_text}
use Rattle.rdx_term.specs.Tree.{Tree}
use Rattle.rdx_term.specs.View.{tree_of}
use Rattle.rdx_lang.specs.Bindings.{Binding}
use Rattle.rdx_lang.specs.Checked.{language_in}
use Rattle.rdx_lang.specs.Patterns.{Language}
use Rattle.rdx_lang.specs.ProgramView.{premise_of, program_of}
use Rattle.rdx_lang.specs.Programs as programs
use Rattle.rdx_lang.specs.Programs.{Premise}
use Rattle.rdx_lang.specs.Shown.{bindings_of}
use Rattle.rdx_lang.specs.TemplateView.{template_of}
use Rattle.rdx_lang.specs.Templates.{Template}
use Rattle.rdx_lang.specs.declared.program.Program.{Program}
use Rattle.rdx_lang.proofs.Rest.{rest_at, rest_none}
use Rattle.rdx_eval.specs.Views.{program_in, terms_in}
use Rattle.rdx_answer.specs.AnswerText.{line_text}
use Rattle.rdx_answer.specs.Explained.{ExplainsValue, said}
use Rattle.rdx_answer.specs.Inside.Explaining.{GainsBehind, HasValue}
use Rattle.rdx_answer.proofs.Contexts.{member_at}
use Rattle.rdx_answer.proofs.ExplainedParts.{each-next, each-end, values_parts}
use Rattle.rdx_answer.proofs.MetOutputs.{found_asked, value_source}
use Rattle.rdx_answer.proofs.explained_premises.show_values.Goals as goal

pub ask-requires : goal.ask-requires
ask-requires g c =
    found_asked (program_of (program_in c.args.engine.now).now) (premise_of c.args.premise.now) (bindings_of c.args.found.now) c.requires.values.finds

pub show_value-requires-clause-value : goal.show_value-requires-clause-value
show_value-requires-clause-value g c =
    let P : programs.Program = program_of (program_in c.args.engine.now).now in
    let q : Premise = premise_of c.args.premise.now in
    let m : Template = template_of c.args.template.now in
    let bs : List Binding = bindings_of c.args.found.now in
    let xs = c.args.values.now in
    let x = c.value-item.result in
    let L : Language = language_in c.in_ok-asked.asked.language.now in
    let a : Tree = tree_of c.in_ok-asked.asked.inputs in
    let os : List Tree = terms_in c.in_ok-asked.asked.outputs in
    subst (λ (e : Bor Program). HasValue (program_of e.now) q L a os m bs (tree_of x)) (sym c.loop-value.invariant.same)
    (record {
      lawful = c.requires.values.lawful;
      asked = c.in_ok-asked.ensures.asked;
      finds = c.requires.values.finds;
      source = value_source P m bs (map tree_of xs) (tree_of x) c.requires.values.values
          (member_at tree_of xs c.loop-value.value-index x c.loop-value-test.true c.value-item.is);
    })

pub loop-value-preserved : goal.loop-value-preserved
loop-value-preserved g c =
    let P : programs.Program = program_of (program_in c.args.engine.now).now in
    let q : Premise = premise_of c.args.premise.now in
    let m : Template = template_of c.args.template.now in
    let xs = c.args.values.now in
    let i : ℕ = c.loop-value.value-index in
    let x = c.value-item.result in
    let vs : List Tree = map tree_of xs in
    let h : List ℕ = codes "answers" ++ codes " " ++ decimal (length vs) ++ codes "\n" in
    let s : List ℕ = line_text (tree_text (tree_of x)) in
    let e : map tree_of (drop i xs) ≡ tree_of x ∷ map tree_of (drop (i + 1) xs) = rest_at tree_of xs i x c.loop-value-test.true c.value-item.is in
    let gained : GainsBehind P (ExplainsValue P q m (tree_of x)) s c.loop-value.out.items c.show_value.new.out.items =
    subst (λ (r : Bor Program). GainsBehind (program_of r.now) (ExplainsValue (program_of r.now) q m (tree_of x)) s c.loop-value.out.items
    c.show_value.new.out.items) c.loop-value.invariant.same c.in_ok-show_value.ensures.gained in
    record {
      same = c.show_value.ensures.same ∙ c.loop-value.invariant.same;
      kept = c.show_value.ensures.kept ∙ c.loop-value.invariant.kept;
      upto = each-next P (ExplainsValue P q m) tree_text h c.args.out.now.items vs (tree_of x) _ _ c.loop-value.out.items c.show_value.new.out.items e gained
          c.loop-value.invariant.upto;
    }

pub returns-clause-gained : goal.returns-clause-gained
returns-clause-gained g c =
    let P : programs.Program = program_of (program_in c.args.engine.now).now in
    let q : Premise = premise_of c.args.premise.now in
    let m : Template = template_of c.args.template.now in
    let xs = c.args.values.now in
    let vs : List Tree = map tree_of xs in
    let h : List ℕ = codes "answers" ++ codes " " ++ decimal (length vs) ++ codes "\n" in
    let u = each-end P (ExplainsValue P q m) tree_text h c.args.out.now.items vs _ c.loop-value.out.items
    (rest_none tree_of xs c.loop-value.value-index c.loop-value-test.false) c.loop-value.invariant.upto in
    record {
      parts = said h ∷ u.explained;
      shows = values_parts P q m (bindings_of c.args.found.now) vs u.explained c.requires.values.finds c.requires.values.values u.each;
      gained = u.gained;
    }
