use Rattle.std.proofs.Common.{◌≡◌, ◌∙◌, Option, Some, refl, sym, subst}
use Rattle.std.specs.Borrow.{Bor}
use Rattle.std.specs.Prelude.{IsSome, Vec, Result}
use Rattle.std.specs.declared.alloc.Global.{Global}
use Rattle.rdx_term.specs.Tree.{Tree}
use Rattle.rdx_term.specs.View.{tree_of}
use Rattle.rdx_term.specs.declared.term.Term.{Term}
use Rattle.rdx_lang.specs.Checked.{language_in}
use Rattle.rdx_lang.specs.Patterns.{Language}
use Rattle.rdx_lang.specs.ProgramView.{judgement_of, premise_of, program_of}
use Rattle.rdx_lang.specs.Programs as programs
use Rattle.rdx_lang.specs.Programs.{Judgement, Premise, judgement_named, language_named}
use Rattle.rdx_lang.specs.declared.program.Program.{Program}
use Rattle.rdx_eval.specs.Answers.{value}
use Rattle.rdx_eval.specs.Heights.{calls_at, height}
use Rattle.rdx_eval.specs.Views.{Says, program_in, terms_in}
use Rattle.rdx_eval.specs.declared.fault.EvalFault.{EvalFault}
use Rattle.rdx_answer.proofs.MetOutputs.{asked_inputs}
use Rattle.rdx_answer.proofs.explained_premises.ask.Goals as goal

pub inputs_of-requires : goal.inputs_of-requires
inputs_of-requires g c = asked_inputs (program_of (program_in c.args.engine.now).now) (premise_of c.args.premise.now) c.requires

pub judgement-requires : goal.judgement-requires
judgement-requires g c =
    subst (λ (p : Bor Program). IsSome (judgement_named (program_of p.now) c.args.premise.now.judgement)) (sym c.in_ok-inputs.ensures.same)
    (subst (λ (o : Option Judgement). IsSome o) (sym c.requires.asked.named) refl)

pub language-requires : goal.language-requires
language-requires g c =
    let P : programs.Program = program_of (program_in c.args.engine.now).now in
    let J : Judgement = judgement_of c.in_ok-judgement.judgement.now in
    let named : judgement_named P c.args.premise.now.judgement ≡ Some J =
    subst (λ (p : Bor Program). judgement_named (program_of p.now) c.args.premise.now.judgement ≡ Some J) c.in_ok-inputs.ensures.same
    c.in_ok-judgement.ensures.found in
    let e : c.requires.asked.judgement ≡ J = let f = c.requires.asked.named in cc in
    subst (λ (p : Bor Program). IsSome (language_named (program_of p.now) J.language)) (sym (c.in_ok-judgement.ensures.same ∙ c.in_ok-inputs.ensures.same))
    (subst (λ (K : Judgement). IsSome (language_named P K.language)) e (subst (λ (o : Option Language). IsSome o) (sym c.requires.asked.known) refl))

pub returns-in-Ok-clause-asked : goal.returns-in-Ok-clause-asked
returns-in-Ok-clause-asked g c =
    let P : programs.Program = program_of (program_in c.args.engine.now).now in
    let q : Premise = premise_of c.args.premise.now in
    let J : Judgement = judgement_of c.in_ok-judgement.judgement.now in
    let L : Language = language_in c.in_ok-language.language.now in
    let a : Tree = tree_of c.in_ok-inputs.inputs in
    let first = c.in_ok-inputs.ensures.same in
    let second = c.in_ok-judgement.ensures.same ∙ first in
    let third = c.in_ok-language.ensures.same ∙ second in
    record {
      judgement = J;
      named = subst (λ (p : Bor Program). judgement_named (program_of p.now) q.judgement ≡ Some J) first c.in_ok-judgement.ensures.found;
      known = subst (λ (p : Bor Program). language_named (program_of p.now) J.language ≡ Some L) second c.in_ok-language.ensures.found;
      inputs = c.in_ok-inputs.ensures.made;
      outputs = subst (λ (p : Bor Program). (calls_at (program_of p.now) height).outputs_of q.judgement a (value (terms_in c.in-Ok.outputs))) third
          (subst (λ (r : Result (Vec Term Global) EvalFault).
          Says terms_in ((calls_at (program_of (program_in c.language.new.engine).now) height).outputs_of q.judgement a) r) c.in-Ok.is c.judge.ensures.answer);
    }
