use Rattle.std.proofs.Common.{◌≡◌, ◌++◌, ◌∙◌, List, [], sym, ap, subst}
use Rattle.std.specs.Prelude.{Option, option_map}
use Rattle.rdx_sexp.specs.Sexp.{Sexp}
use Rattle.rdx_lang.specs.Programs.{Mode}
use Rattle.rdx_defs.specs.Inside.BareForms.{rules_stand}
use Rattle.rdx_defs.specs.Inside.FormOutlines.{rule_branches, options_patterns}
use Rattle.rdx_defs.specs.Inside.FormViews.{judgement_form_of}
use Rattle.rdx_parts.specs.PartViews.{stands_of}
use Rattle.rdx_parts.specs.PartsHave.{AreReadable, RulesHave, readable}
use Rattle.rdx_defs.specs.JudgementForms.{judgement_in, mode_form, own_mode}
use Rattle.rdx_defs.specs.JudgementStands.{missing_mode, options_stand}
use Rattle.rdx_templates.specs.Scope.{scope_of}
use Rattle.rdx_parts.specs.declared.stands.collecting.Stand as code
use Rattle.rdx_defs.proofs.RuleForms.{alone-readable}
use Rattle.rdx_defs.proofs.judgements.stands.judgement_stands.Goals as goal

pub add_options-requires : goal.add_options-requires
add_options-requires c =
    let f = judgement_form_of c.args.form in
    subst (λ (j : Option Sexp). AreReadable (options_patterns j [] f.options)) (sym c.judgement_in-judgement.ensures)
    (alone-readable (options_patterns (judgement_in f) [] f.options) c.requires.parts.alone)

pub add_rules-requires : goal.add_rules-requires
add_rules-requires c =
    let f = judgement_form_of c.args.form in
    let S = scope_of c.args.scope.now in
    subst (λ (j : Option Sexp). RulesHave S readable (rule_branches j (option_map (λ m. m.now) c.args.mode) f.rules)) (sym c.judgement_in-judgement.ensures)
    (subst (λ (m : Option Mode). RulesHave S readable (rule_branches (judgement_in f) m f.rules)) (sym c.requires.mode) c.requires.parts.rules)

pub returns : goal.returns
returns c =
    let f = judgement_form_of c.args.form in
    let S = scope_of c.args.scope.now in
    let m : option_map (λ m. m.now) c.args.mode ≡ own_mode f = c.requires.mode in
    let j : option_map (λ d. d.now) c.judgement_in-judgement.result ≡ judgement_in f = c.judgement_in-judgement.ensures in
    let missing = missing_mode c.args.d.now (mode_form f) in
    let a : stands_of c.add_missing_mode.new.out.items ≡ missing =
    c.in_ok-add_missing_mode.ensures ∙ ap (λ (ss : List code.Stand). stands_of ss ++ missing) c.new-found.ensures.items in
    let b : stands_of c.add_options.new.out.items ≡ missing ++ options_stand (judgement_in f) (own_mode f) [] f.options =
    c.in_ok-add_options.ensures ∙ (λ i. a i ++ options_stand (j i) (m i) [] f.options) in
    c.in_ok-add_rules.ensures ∙ (λ i. b i ++ rules_stand S (j i) (m i) f.rules)
