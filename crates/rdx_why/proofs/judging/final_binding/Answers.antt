use Rattle.std.proofs.Common.{List, map, sym, subst}
use Rattle.std.proofs.lemmas.Result.{IfOk-weaker}
use Rattle.rdx_term.specs.Tree.{Tree}
use Rattle.rdx_term.specs.View.{tree_of}
use Rattle.rdx_lang.specs.Checked.{language_in}
use Rattle.rdx_lang.specs.Members.{In}
use Rattle.rdx_lang.specs.ProgramView.{judgement_rule_of, program_of}
use Rattle.rdx_lang.specs.Shown.{binding_of}
use Rattle.rdx_lang.specs.TemplateView.{template_of}
use Rattle.rdx_lang.specs.declared.program.Program.{Program}
use Rattle.rdx_lang.specs.declared.template.Template as code
use Rattle.rdx_eval.specs.Answers.{value}
use Rattle.rdx_eval.specs.Instantiation.{MakeList}
use Rattle.rdx_deriv.specs.Judged.{calls}
use Rattle.rdx_why.specs.Model.Ends.{AreEnds, AreEndsAt, HasOnly, bound}
use Rattle.rdx_why.specs.declared.kept.End.{End}
use Rattle.rdx_why.proofs.EndLaws.{ended_none, ended_some, ends_there}
use Rattle.rdx_why.proofs.WaysLaws.{none_weaker, some_weaker}
use Rattle.rdx_why.proofs.judging.final_binding.Goals as goal

pub making_binding-requires-clause-only : goal.making_binding-requires-clause-only
making_binding-requires-clause-only g c =
    let P = program_of c.args.program.now in
    let a : Tree = tree_of c.args.a.now in
    let es = c.in-Some.kept.now in
    let k : AreEnds P (language_in c.args.language.now) (judgement_rule_of c.args.rule.now) a es =
    subst (λ (p : Program). AreEndsAt (program_of p) c.args.j.now c.args.place a es) c.requires.ends c.in-Some.ensures
    (language_in c.args.language.now) (judgement_rule_of c.args.rule.now) c.requires.rule in
    subst (λ (ms : List code.Template). (e : End) → In e es → HasOnly P (map template_of ms) e) (sym c.deref.ensures.value) k.made

pub returns-in-Some-clause-some : goal.returns-in-Some-clause-some
returns-in-Some-clause-some g c =
    let P = program_of c.args.program.now in
    let L = language_in c.args.language.now in
    let r = judgement_rule_of c.args.rule.now in
    let a : Tree = tree_of c.args.a.now in
    let o : Tree = tree_of c.args.o.now in
    let es = c.in-Some.kept.now in
    let k : AreEnds P L r a es =
    subst (λ (p : Program). AreEndsAt (program_of p) c.args.j.now c.args.place a es) c.requires.ends c.in-Some.ensures L r c.requires.rule in
    IfOk-weaker c.making_binding.result _ _
    (λ x h. some_weaker _ _
    (λ b m. ended_some P L r a es k c.requires.left o (binding_of b)
    (m.0, subst (λ (ms : List code.Template). MakeList (calls P) (binding_of b) (map template_of ms) (value o)) c.deref.ensures.value m.1)) x h)
    c.making_binding.ensures.some

pub returns-in-Some-clause-none : goal.returns-in-Some-clause-none
returns-in-Some-clause-none g c =
    let P = program_of c.args.program.now in
    let L = language_in c.args.language.now in
    let r = judgement_rule_of c.args.rule.now in
    let a : Tree = tree_of c.args.a.now in
    let o : Tree = tree_of c.args.o.now in
    let es = c.in-Some.kept.now in
    let k : AreEnds P L r a es =
    subst (λ (p : Program). AreEndsAt (program_of p) c.args.j.now c.args.place a es) c.requires.ends c.in-Some.ensures L r c.requires.rule in
    IfOk-weaker c.making_binding.result _ _
    (λ x h. none_weaker
    (λ n. ended_none P L r a es k c.requires.left o
    (λ b i m. n b i (subst (λ (ms : List code.Template). MakeList (calls P) b (map template_of ms) (value o)) (sym c.deref.ensures.value) m))) x h)
    c.making_binding.ensures.none

pub making_binding-requires-2-clause-only : goal.making_binding-requires-2-clause-only
making_binding-requires-2-clause-only g c =
    let P = program_of c.args.program.now in
    subst (λ (es : List End). (e : End) → In e es → HasOnly P (map template_of c.deref-3.result.now) e) (sym c.deref-2.ensures.value)
    (subst (λ (ms : List code.Template). (e : End) → In e c.in_ok-found.found.items → HasOnly P (map template_of ms) e) (sym c.deref-3.ensures.value)
    c.in_ok-found.ensures.ends.made)

pub keep-requires : goal.keep-requires
keep-requires g c =
    let a : Tree = tree_of c.args.a.now in
    let es : List End = c.in_ok-found.found.items in
    subst (λ (p : Program). AreEndsAt (program_of p) c.args.j.now c.args.place a es) (sym c.requires.ends)
    (ends_there (program_of c.args.program.now) c.args.j.now c.args.place (language_in c.args.language.now) (judgement_rule_of c.args.rule.now) a es
    c.requires.rule c.in_ok-found.ensures.ends)

pub returns-clause-some : goal.returns-clause-some
returns-clause-some g c =
    let P = program_of c.args.program.now in
    let o : Tree = tree_of c.args.o.now in
    let es : List End = c.in_ok-found.found.items in
    some_weaker _ _
    (λ b m. ended_some P (language_in c.args.language.now) (judgement_rule_of c.args.rule.now) (tree_of c.args.a.now) es c.in_ok-found.ensures.ends
    c.requires.left o (binding_of b) (
      subst (λ (xs : List End). In (binding_of b) (map bound xs)) c.deref-2.ensures.value m.0,
      subst (λ (ms : List code.Template). MakeList (calls P) (binding_of b) (map template_of ms) (value o)) c.deref-3.ensures.value m.1,
    )) c.in_ok-binding.binding c.in_ok-binding.ensures.some

pub returns-clause-none : goal.returns-clause-none
returns-clause-none g c =
    let P = program_of c.args.program.now in
    let o : Tree = tree_of c.args.o.now in
    let es : List End = c.in_ok-found.found.items in
    none_weaker
    (λ n. ended_none P (language_in c.args.language.now) (judgement_rule_of c.args.rule.now) (tree_of c.args.a.now) es c.in_ok-found.ensures.ends
    c.requires.left o
    (λ b i m. n b (subst (λ (xs : List End). In b (map bound xs)) (sym c.deref-2.ensures.value) i)
    (subst (λ (ms : List code.Template). MakeList (calls P) b (map template_of ms) (value o)) (sym c.deref-3.ensures.value) m)))
    c.in_ok-binding.binding c.in_ok-binding.ensures.none
