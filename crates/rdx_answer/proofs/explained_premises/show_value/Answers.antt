use Rattle.std.proofs.Common.{◌∙◌, List, map, sym, subst}
use Rattle.std.proofs.lemmas.Result.{on_ok_weaker}
use Rattle.std.specs.Borrow.{Bor}
use Rattle.rdx_term.specs.Text.{tree_text}
use Rattle.rdx_term.specs.Tree.{Tree}
use Rattle.rdx_term.specs.View.{tree_of}
use Rattle.rdx_term.specs.declared.term.Term.{Term}
use Rattle.rdx_lang.specs.Bindings.{Binding}
use Rattle.rdx_lang.specs.Checked.{language_in}
use Rattle.rdx_lang.specs.Patterns.{Language}
use Rattle.rdx_lang.specs.ProgramView.{premise_of, program_of}
use Rattle.rdx_lang.specs.Programs as programs
use Rattle.rdx_lang.specs.Programs.{Premise}
use Rattle.rdx_lang.specs.Shown.{binding_of, bindings_of}
use Rattle.rdx_lang.specs.TemplateView.{template_of}
use Rattle.rdx_lang.specs.Templates.{Template}
use Rattle.rdx_lang.specs.declared.program.Program.{Program}
use Rattle.rdx_eval.specs.Views.{program_in, terms_in}
use Rattle.rdx_deriv.specs.Derivations.{judged}
use Rattle.rdx_answer.specs.AnswerText.{line_text}
use Rattle.rdx_answer.specs.Explained.{ExplainsValue}
use Rattle.rdx_answer.specs.Inside.Explaining.{GainsDerivation, HasExplanation, HasGiven, IsGiven}
use Rattle.rdx_answer.proofs.Explaining.{judged_explained}
use Rattle.rdx_answer.proofs.ExplainedParts.{gained_behind}
use Rattle.rdx_answer.proofs.MetOutputs.{found_given, met_by}
use Rattle.rdx_answer.proofs.explained_premises.show_value.Goals as goal

pub first_given-requires : goal.first_given-requires
first_given-requires g c =
    let P : programs.Program = program_of (program_in c.args.engine.now).now in
    let q : Premise = premise_of c.args.premise.now in
    let L : Language = language_in c.args.asked.now.language.now in
    let a : Tree = tree_of c.args.asked.now.inputs in
    let os : List Tree = terms_in c.args.asked.now.outputs in
    let b : Binding = binding_of c.in_ok-b.b.now in
    subst (λ (us : List Term). HasGiven L q.outputs (map tree_of us) b) (sym c.deref.ensures.value)
    (found_given P q L a os c.requires.value.asked (bindings_of c.args.found.now) b c.requires.value.finds c.in_ok-b.ensures.found.among)

pub write_judged-requires-clause-there : goal.write_judged-requires-clause-there
write_judged-requires-clause-there g c =
    let P : programs.Program = program_of (program_in c.args.engine.now).now in
    let q : Premise = premise_of c.args.premise.now in
    let L : Language = language_in c.args.asked.now.language.now in
    let a : Tree = tree_of c.args.asked.now.inputs in
    let os : List Tree = terms_in c.args.asked.now.outputs in
    let b : Binding = binding_of c.in_ok-b.b.now in
    let o : Tree = tree_of c.in_ok-given.given.now in
    let m : IsGiven L q.outputs os b o =
    subst (λ (us : List Term). IsGiven L q.outputs (map tree_of us) b o) c.deref.ensures.value c.in_ok-given.ensures.found in
    subst (λ (e : Bor Program). HasExplanation (program_of e.now) (judged q.judgement a o)) (sym (c.in_ok-given.ensures.same ∙ c.in_ok-b.ensures.same))
    (judged_explained P q L a os o c.requires.value.lawful c.requires.value.asked m.among)

pub returns-clause-gained : goal.returns-clause-gained
returns-clause-gained g c =
    let P : programs.Program = program_of (program_in c.args.engine.now).now in
    let q : Premise = premise_of c.args.premise.now in
    let t : Template = template_of c.args.template.now in
    let v : Tree = tree_of c.args.wanted.now in
    let L : Language = language_in c.args.asked.now.language.now in
    let a : Tree = tree_of c.args.asked.now.inputs in
    let os : List Tree = terms_in c.args.asked.now.outputs in
    let b : Binding = binding_of c.in_ok-b.b.now in
    let o : Tree = tree_of c.in_ok-given.given.now in
    let m : IsGiven L q.outputs os b o =
    subst (λ (us : List Term). IsGiven L q.outputs (map tree_of us) b o) c.deref.ensures.value c.in_ok-given.ensures.found in
    on_ok_weaker c.write_judged.result
    (λ w. gained_behind P (judged q.judgement a o) (ExplainsValue P q t v) (line_text (tree_text v)) c.args.out.now.items c.write_term_line.new.out.items
    c.write_judged.new.out.items c.in_ok-write_term_line.ensures
    (λ d k. record {
      inputs = a;
      outputs = o;
      binding = b;
      met = met_by P q L a os c.requires.value.asked b o m;
      makes = c.in_ok-b.ensures.found.makes;
      explains = k;
    })
    (subst (λ (e : Bor Program). GainsDerivation (program_of e.now) (judged q.judgement a o) c.write_term_line.new.out.items c.write_judged.new.out.items)
    (c.in_ok-given.ensures.same ∙ c.in_ok-b.ensures.same) w))
    c.write_judged.ensures.gained
