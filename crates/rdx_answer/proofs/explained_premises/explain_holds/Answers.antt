use Rattle.std.proofs.Common.{◌≡◌, ◌∙◌, true, false, sym, ap, subst}
use Rattle.std.specs.Borrow.{Bor}
use Rattle.std.specs.Prelude.{None}
use Rattle.rdx_lang.specs.ProgramView.{premise_of, program_of}
use Rattle.rdx_lang.specs.Programs as programs
use Rattle.rdx_lang.specs.Programs.{Premise}
use Rattle.rdx_lang.specs.Shown.{bindings_of}
use Rattle.rdx_lang.specs.declared.program.Program.{Program}
use Rattle.rdx_eval.specs.Judgements.{are_some}
use Rattle.rdx_eval.specs.Views.{bindings_in, program_in}
use Rattle.rdx_answer.specs.AnswerText.{holds_text}
use Rattle.rdx_answer.specs.Explained.{ExplainsMet}
use Rattle.rdx_answer.specs.HoldsAnswers.{FindsMet}
use Rattle.rdx_answer.specs.Inside.Explaining.{GainsBehind, IsHeld}
use Rattle.rdx_answer.specs.Queries.{holds}
use Rattle.rdx_answer.proofs.TriedParts.{held_parts, holds_fault, none_first, parts_error, some_first, unmet_parts}
use Rattle.rdx_answer.proofs.explained_premises.explain_holds.Goals as goal

pub returns-in_err-found-clause-answer : goal.returns-in_err-found-clause-answer
returns-in_err-found-clause-answer g c =
    let P : programs.Program = program_of (program_in c.args.engine.now).now in
    let q : Premise = premise_of c.args.premise.now in
    parts_error bindings_in (FindsMet P q) P (holds q None) c.args.out.now.items c.from_residual.result _ c.from_residual.ensures.1 (holds_fault P q)
    c.in_err-found.ensures.answer

pub show_held-requires-clause-held : goal.show_held-requires-clause-held
show_held-requires-clause-held g c =
    let P : programs.Program = program_of (program_in c.args.engine.now).now in
    let q : Premise = premise_of c.args.premise.now in
    let e : are_some (bindings_of c.in_ok-found.found.items) ≡ true =
    sym (c.are_some.ensures ∙ ap (λ ys. are_some (bindings_of ys)) c.deref.ensures.value) ∙ c.if-are_some.true in
    let k = some_first P q (bindings_of c.in_ok-found.found.items) c.in_ok-found.ensures.answer e in
    subst (λ (p : Bor Program). IsHeld (program_of p.now) q) (sym c.in_ok-found.ensures.same)
    (record { lawful = c.requires.lawful; binding = k.0; others = k.1; finds = k.2 })

pub returns-then-are_some-clause-answer : goal.returns-then-are_some-clause-answer
returns-then-are_some-clause-answer g c =
    let P : programs.Program = program_of (program_in c.args.engine.now).now in
    let q : Premise = premise_of c.args.premise.now in
    let e : are_some (bindings_of c.in_ok-found.found.items) ≡ true =
    sym (c.are_some.ensures ∙ ap (λ ys. are_some (bindings_of ys)) c.deref.ensures.value) ∙ c.if-are_some.true in
    let k = some_first P q (bindings_of c.in_ok-found.found.items) c.in_ok-found.ensures.answer e in
    held_parts P q c.args.out.now.items c.show_held.new.out.items k.0 k.1 k.2
    (subst (λ (p : Bor Program). GainsBehind (program_of p.now) (ExplainsMet (program_of p.now) q) (holds_text true) c.args.out.now.items
    c.show_held.new.out.items) c.in_ok-found.ensures.same c.in_ok-show_held.ensures.gained)

pub returns-clause-answer : goal.returns-clause-answer
returns-clause-answer g c =
    let P : programs.Program = program_of (program_in c.args.engine.now).now in
    let q : Premise = premise_of c.args.premise.now in
    let e : are_some (bindings_of c.in_ok-found.found.items) ≡ false =
    sym (c.are_some.ensures ∙ ap (λ ys. are_some (bindings_of ys)) c.deref.ensures.value) ∙ c.if-are_some.false in
    unmet_parts P q c.args.out.now.items c.write_holds.new.out.items (none_first P q (bindings_of c.in_ok-found.found.items) c.in_ok-found.ensures.answer e)
    c.in_ok-write_holds.ensures
