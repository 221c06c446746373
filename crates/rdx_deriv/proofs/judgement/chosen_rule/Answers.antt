use Rattle.std.proofs.Common.{◌≡◌, ℕ, List, sym, ◌∙◌, ap}
use Rattle.std.specs.Prelude.{Some, option_map}
use Rattle.std.specs.Borrow.{Bor}
use Rattle.rdx_term.specs.View.{tree_of}
use Rattle.rdx_lang.specs.Checked.{language_in}
use Rattle.rdx_lang.specs.ProgramView.{judgement_of, judgement_rule_of, program_of}
use Rattle.rdx_lang.specs.Programs as model
use Rattle.rdx_lang.specs.Programs.{judgement_named, language_named}
use Rattle.rdx_lang.specs.declared.program.Judgement.{Judgement}
use Rattle.rdx_lang.specs.declared.program.Program.{Program}
use Rattle.rdx_eval.specs.Languages.{language_found}
use Rattle.rdx_deriv.proofs.RulesChosen.{chosen_no_rule, chosen_there}
use Rattle.rdx_deriv.proofs.judgement.chosen_rule.Goals as goal

pub returns-in_default-rule_at-clause-chosen : goal.returns-in_default-rule_at-clause-chosen
returns-in_default-rule_at-clause-chosen g c =
    let j : List ℕ = c.args.j.now in
    let J : model.Judgement = judgement_of c.in-Some.judgement.now in
    let named : judgement_named (program_of c.args.program.now) j ≡ Some J =
    ap (λ (p : Program). judgement_named (program_of p) j) (sym c.requires) ∙ sym c.in_ok-judgement.ensures.found
    ∙ ap (option_map (λ (x : Bor Judgement). judgement_of x.now)) c.in-Some.is in
    let spoken : language_named (program_of c.args.program.now) J.language ≡ Some (language_in c.in-Some-2.language.now) =
    ap (λ (p : Program). language_named (program_of p) J.language) (sym (ap (λ (p : Bor Program). p.now) c.in_ok-judgement.ensures.same
    ∙ c.requires))
    ∙ sym c.in_ok-language.ensures.found ∙ ap language_found c.in-Some-2.is in
    chosen_no_rule (program_of c.args.program.now) j c.args.choice.now (tree_of c.args.a.now) (tree_of c.args.o.now) J named
    (language_in c.in-Some-2.language.now) spoken c.in_default-rule_at.ensures

pub returns-clause-chosen : goal.returns-clause-chosen
returns-clause-chosen g c =
    let j : List ℕ = c.args.j.now in
    let J : model.Judgement = judgement_of c.in-Some.judgement.now in
    let named : judgement_named (program_of c.args.program.now) j ≡ Some J =
    ap (λ (p : Program). judgement_named (program_of p) j) (sym c.requires) ∙ sym c.in_ok-judgement.ensures.found
    ∙ ap (option_map (λ (x : Bor Judgement). judgement_of x.now)) c.in-Some.is in
    let spoken : language_named (program_of c.args.program.now) J.language ≡ Some (language_in c.in-Some-2.language.now) =
    ap (λ (p : Program). language_named (program_of p) J.language) (sym (ap (λ (p : Bor Program). p.now) c.in_ok-judgement.ensures.same
    ∙ c.requires))
    ∙ sym c.in_ok-language.ensures.found ∙ ap language_found c.in-Some-2.is in
    chosen_there (program_of c.args.program.now) j c.args.choice.now (tree_of c.args.a.now) (tree_of c.args.o.now) J named
    (language_in c.in-Some-2.language.now) spoken (judgement_rule_of c.in-Some-rule_at.rule.now) c.in-Some-rule_at.ensures
    (c.in_ok-allows.ensures.allows.0 c.if-not-branch.false)
