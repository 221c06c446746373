use Rattle.std.proofs.Common.{◌≡◌, ◌∙◌, subst}
use Rattle.std.proofs.lemmas.Result.{on_ok_weaker}
use Rattle.rdx_term.specs.View.{tree_of}
use Rattle.rdx_lang.specs.Decompositions.{Decomposition}
use Rattle.rdx_lang.specs.Checked.{pattern_in}
use Rattle.rdx_lang.specs.PatternView.{pattern_of}
use Rattle.rdx_lang.specs.Patterns.{Pattern}
use Rattle.rdx_lang.specs.ProgramView.{program_of}
use Rattle.rdx_lang.specs.Programs as programs
use Rattle.rdx_lang.specs.Shown.{binding_of, decomposition_of}
use Rattle.rdx_eval.specs.Views.{program_in}
use Rattle.rdx_deriv.specs.Derivations.{Goal, split}
use Rattle.rdx_why.specs.Explaining.{Explains}
use Rattle.rdx_answer.specs.AnswerText.{line_text, split_text}
use Rattle.rdx_answer.specs.Inside.Explaining.{GainsDerivation}
use Rattle.rdx_answer.proofs.ExplainedParts.{gained_behind}
use Rattle.rdx_answer.proofs.explained_answers.show_split.Goals as goal

pub returns-clause-gained : goal.returns-clause-gained
returns-clause-gained g c =
    let P : programs.Program = program_of (program_in c.args.engine.now).now in
    let p : Pattern = pattern_in c.args.pat.now in
    let b : Decomposition = decomposition_of c.args.split.now in
    let h : Goal = split c.args.name.now p (tree_of c.args.t.now) b.context b.part b.binding in
    let pe : pattern_of c.in_ok-share-2.field-0 ≡ p = c.in_ok-share-2.ensures ∙ c.pat.ensures in
    let e : split c.in_ok-share.field-0 (pattern_of c.in_ok-share-2.field-0) (tree_of c.in_ok-share-3.field-0) (tree_of c.in_ok-share-4.field-0)
    (tree_of c.in_ok-share-5.field-0) (binding_of c.in_ok-share-6.field-0) ≡ h =
    λ i. split (c.in_ok-share.ensures i) (pe i) (c.in_ok-share-3.ensures i) (c.in_ok-share-4.ensures i) (c.in_ok-share-5.ensures i) (c.in_ok-share-6.ensures i) in
    on_ok_weaker c.write_derivation.result
    (λ w. gained_behind P h (Explains P h) (line_text (split_text b)) c.args.out.now.items c.write_split_line.new.out.items
    c.write_derivation.new.out.items c.in_ok-write_split_line.ensures (λ d k. k)
    (subst (λ (x : Goal). GainsDerivation P x c.write_split_line.new.out.items c.write_derivation.new.out.items) e w))
    c.write_derivation.ensures.gained
