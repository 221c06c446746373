use Rattle.std.proofs.Common.{◌∙◌, true, List, ◌∷◌, map, sym, subst}
use Rattle.std.proofs.lemmas.Result.{on_ok_weaker}
use Rattle.std.specs.Borrow.{Bor}
use Rattle.rdx_term.specs.Tree.{Tree}
use Rattle.rdx_term.specs.View.{tree_of}
use Rattle.rdx_term.specs.declared.term.Term.{Term}
use Rattle.rdx_lang.specs.Checked.{language_in}
use Rattle.rdx_lang.specs.Patterns.{Language}
use Rattle.rdx_lang.specs.ProgramView.{premise_of, program_of}
use Rattle.rdx_lang.specs.Programs as programs
use Rattle.rdx_lang.specs.Programs.{Premise}
use Rattle.rdx_lang.specs.declared.program.Program.{Program}
use Rattle.rdx_eval.specs.Views.{program_in, terms_in}
use Rattle.rdx_deriv.specs.Derivations.{judged}
use Rattle.rdx_answer.specs.AnswerText.{holds_text}
use Rattle.rdx_answer.specs.Explained.{ExplainsMet}
use Rattle.rdx_answer.specs.Inside.Explaining.{GainsDerivation, HasExplanation, HasMatched, IsMatched}
use Rattle.rdx_answer.proofs.Explaining.{judged_explained}
use Rattle.rdx_answer.proofs.ExplainedParts.{gained_behind}
use Rattle.rdx_answer.proofs.MetOutputs.{found_asked, found_matched, met_by}
use Rattle.rdx_answer.proofs.explained_premises.show_held.Goals as goal

pub ask-requires : goal.ask-requires
ask-requires g c =
    found_asked (program_of (program_in c.args.engine.now).now) (premise_of c.args.premise.now) (c.requires.held.binding ∷ c.requires.held.others) c.requires.held.finds

pub first_matched-requires : goal.first_matched-requires
first_matched-requires g c =
    let P : programs.Program = program_of (program_in c.args.engine.now).now in
    let q : Premise = premise_of c.args.premise.now in
    let L : Language = language_in c.in_ok-asked.asked.language.now in
    let a : Tree = tree_of c.in_ok-asked.asked.inputs in
    let os : List Tree = terms_in c.in_ok-asked.asked.outputs in
    subst (λ (us : List Term). HasMatched L q.outputs (map tree_of us)) (sym c.deref.ensures.value)
    (found_matched P q L a os c.in_ok-asked.ensures.asked c.requires.held.binding c.requires.held.others c.requires.held.finds)

pub write_judged-requires-clause-there : goal.write_judged-requires-clause-there
write_judged-requires-clause-there g c =
    let P : programs.Program = program_of (program_in c.args.engine.now).now in
    let q : Premise = premise_of c.args.premise.now in
    let L : Language = language_in c.in_ok-asked.asked.language.now in
    let a : Tree = tree_of c.in_ok-asked.asked.inputs in
    let os : List Tree = terms_in c.in_ok-asked.asked.outputs in
    let o : Tree = tree_of c.in_ok-given.given.now in
    let m : IsMatched L q.outputs os o =
    subst (λ (us : List Term). IsMatched L q.outputs (map tree_of us) o) c.deref.ensures.value c.in_ok-given.ensures.found in
    subst (λ (e : Bor Program). HasExplanation (program_of e.now) (judged q.judgement a o)) (sym (c.in_ok-given.ensures.same ∙ c.in_ok-asked.ensures.same))
    (judged_explained P q L a os o c.requires.held.lawful c.in_ok-asked.ensures.asked m.is_given.among)

pub returns-clause-gained : goal.returns-clause-gained
returns-clause-gained g c =
    let P : programs.Program = program_of (program_in c.args.engine.now).now in
    let q : Premise = premise_of c.args.premise.now in
    let L : Language = language_in c.in_ok-asked.asked.language.now in
    let a : Tree = tree_of c.in_ok-asked.asked.inputs in
    let os : List Tree = terms_in c.in_ok-asked.asked.outputs in
    let o : Tree = tree_of c.in_ok-given.given.now in
    let m : IsMatched L q.outputs os o =
    subst (λ (us : List Term). IsMatched L q.outputs (map tree_of us) o) c.deref.ensures.value c.in_ok-given.ensures.found in
    on_ok_weaker c.write_judged.result
    (λ w. gained_behind P (judged q.judgement a o) (ExplainsMet P q) (holds_text true) c.args.out.now.items c.write_holds.new.out.items
    c.write_judged.new.out.items c.in_ok-write_holds.ensures
    (λ d k. record {
      inputs = a;
      outputs = o;
      binding = m.binding;
      met = met_by P q L a os c.in_ok-asked.ensures.asked m.binding o m.is_given;
      explains = k;
    })
    (subst (λ (e : Bor Program). GainsDerivation (program_of e.now) (judged q.judgement a o) c.write_holds.new.out.items c.write_judged.new.out.items)
    (c.in_ok-given.ensures.same ∙ c.in_ok-asked.ensures.same) w))
    c.write_judged.ensures.gained
