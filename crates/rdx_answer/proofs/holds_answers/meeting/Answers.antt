use Rattle.std.proofs.Common.{◌≡◌, Bor, Option, Some, refl, ap, sym, subst}
use Rattle.std.specs.Prelude.{IsSome}
use Rattle.rdx_lang.specs.ProgramView.{judgement_of, premise_of, program_of}
use Rattle.rdx_lang.specs.Programs as programs
use Rattle.rdx_lang.specs.Programs.{Judgement, Premise, judgement_named, language_named}
use Rattle.rdx_lang.specs.declared.program.Program.{Program}
use Rattle.rdx_eval.specs.Extending.{MeetsOver}
use Rattle.rdx_eval.specs.Heights.{calls_at, height}
use Rattle.rdx_eval.specs.Views.{Says, bindings_in, program_in}
use Rattle.rdx_eval.proofs.SaidOn.{said_on}
use Rattle.rdx_answer.specs.HoldsAnswers.{FindsMet}
use Rattle.rdx_answer.proofs.MetPremises.{finds_met}
use Rattle.rdx_answer.proofs.holds_answers.meeting.Goals as goal

pub judgement-requires : goal.judgement-requires
judgement-requires g c = subst (λ (o : Option Judgement). IsSome o) (sym c.requires.named) refl

pub meet-requires : goal.meet-requires
meet-requires g c =
    let P : programs.Program = program_of (program_in c.args.engine.now).now in
    let J : Judgement = judgement_of c.in_ok-judgement.judgement.now in
    let named : judgement_named P c.args.premise.now.judgement ≡ Some J = c.in_ok-judgement.ensures.found in
    let e : c.requires.judgement ≡ J = let f = c.requires.named in cc in
    subst (λ (p : Bor Program). IsSome (language_named (program_of p.now) J.language)) (sym c.in_ok-judgement.ensures.same)
    (subst (λ (K : Judgement). IsSome (language_named P K.language)) e c.requires.language)

pub returns-clause-answer : goal.returns-clause-answer
returns-clause-answer g c =
    let P : programs.Program = program_of (program_in c.args.engine.now).now in
    let q : Premise = premise_of c.args.premise.now in
    let J : Judgement = judgement_of c.in_ok-judgement.judgement.now in
    let named : judgement_named P q.judgement ≡ Some J = c.in_ok-judgement.ensures.found in
    let e : program_of (program_in c.judgement.new.engine).now ≡ P = ap (λ (p : Bor Program). program_of p.now) c.in_ok-judgement.ensures.same in
    said_on bindings_in (MeetsOver (language_named P J.language) (calls_at P height) q) (FindsMet P q) c.meet.result
    (λ found m. finds_met P q J found named m)
    (subst (λ (p : programs.Program). Says bindings_in (MeetsOver (language_named p J.language) (calls_at p height) q) c.meet.result) e c.meet.ensures.answer)
