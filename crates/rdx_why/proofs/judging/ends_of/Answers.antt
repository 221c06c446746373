use Rattle.std.proofs.Common.{List, map, ap, subst, ◌∙◌}
use Rattle.std.specs.Borrow.{Bor}
use Rattle.std.specs.Prelude.{Err}
use Rattle.rdx_term.specs.Tree.{Tree}
use Rattle.rdx_term.specs.View.{tree_of}
use Rattle.rdx_lang.specs.Checked.{language_in}
use Rattle.rdx_lang.specs.Members.{In}
use Rattle.rdx_lang.specs.ProgramView.{extras_of, judgement_rule_of, program_of}
use Rattle.rdx_lang.specs.Programs.{language_named}
use Rattle.rdx_lang.specs.Shown.{bindings_of}
use Rattle.rdx_lang.specs.TemplateView.{template_of}
use Rattle.rdx_lang.specs.declared.binding.Binding.{Binding}
use Rattle.rdx_lang.specs.declared.program.Extra.{Extra}
use Rattle.rdx_lang.specs.declared.program.Program.{Program}
use Rattle.rdx_lang.specs.declared.template.Template as code
use Rattle.rdx_eval.specs.Answers.{value}
use Rattle.rdx_eval.specs.Extending.{ExtendOver}
use Rattle.rdx_eval.specs.Views.{Says, bindings_in}
use Rattle.rdx_deriv.specs.Judged.{calls}
use Rattle.rdx_why.specs.Model.Ends.{HasOnly}
use Rattle.rdx_why.specs.declared.kept.End.{End}
use Rattle.rdx_why.proofs.EndLaws.{found_ends, ok_both}
use Rattle.rdx_why.proofs.WaysLaws.{left_well, over_language}
use Rattle.rdx_why.proofs.judging.ends_of.Goals as goal

pub only_memory-requires : goal.only_memory-requires
only_memory-requires g c =
    let P = program_of c.args.program.now in
    let a : Tree = tree_of c.args.a.now in
    let bs = bindings_of c.in_ok-start.start.items in
    left_well bindings_in P (language_in c.args.language.now) c.args.l.now c.requires.spoken (judgement_rule_of c.args.rule.now) a c.requires.left bs
    c.in_ok-start.ensures.listing c.in-Err.fault
    (subst (λ (p : Program). Says bindings_in (ExtendOver (language_named (program_of p) c.args.l.now) (calls (program_of p)) a
    (extras_of c.args.rule.now.extras.items) bs) (Err c.in-Err.fault)) (ap (λ (p : Bor Program). p.now) c.in_ok-start.ensures.same ∙ c.requires.program)
    (subst (λ (es : List Extra). Says bindings_in (ExtendOver (language_named (program_of c.matches.new.self.program.now) c.args.l.now)
    (calls (program_of c.matches.new.self.program.now)) a (extras_of es) bs) (Err c.in-Err.fault)) c.deref.ensures.value c.in-Err.ensures.answer))

pub returns-clause-ends : goal.returns-clause-ends
returns-clause-ends g c =
    let P = program_of c.args.program.now in
    let L = language_in c.args.language.now in
    let r = judgement_rule_of c.args.rule.now in
    let a : Tree = tree_of c.args.a.now in
    let bs = bindings_of c.in_ok-start.start.items in
    let cs = bindings_of c.in-Ok.found.items in
    let over = subst (λ (p : Program). ExtendOver (language_named (program_of p) c.args.l.now) (calls (program_of p)) a
    (extras_of c.args.rule.now.extras.items) bs (value cs)) (ap (λ (p : Bor Program). p.now) c.in_ok-start.ensures.same ∙ c.requires.program)
    (subst (λ (es : List Extra). ExtendOver (language_named (program_of c.matches.new.self.program.now) c.args.l.now)
    (calls (program_of c.matches.new.self.program.now)) a (extras_of es) bs (value cs)) c.deref.ensures.value c.in-Ok.ensures.answer) in
    let extended = over_language (language_named P c.args.l.now) L (calls P) a r.extras bs (value cs) c.requires.spoken over in
    ok_both c.ends_by.result _ _ _
    (λ es d f. found_ends P L r a es.items bs cs c.in_ok-start.ensures.listing extended
    (d ∙ ap (λ (xs : List Binding). bindings_of xs) c.deref-3.ensures.value)
    (subst (λ (ms : List code.Template). (e : End) → In e es.items → HasOnly P (map template_of ms) e) c.deref-2.ensures.value f))
    c.ends_by.ensures.bound c.ends_by.ensures.only
