use Rattle.std.proofs.Common.{◌≡◌, ◌∙◌, ◌++◌, ℕ, false, List, ap, sym, subst}
use Rattle.std.proofs.lemmas.Result.{IfOk-weaker}
use Rattle.std.specs.Prelude.{Result, Err}
use Rattle.rdx_lang.specs.ProgramView.{program_of}
use Rattle.rdx_lang.specs.Programs as programs
use Rattle.rdx_eval.specs.Views.{fault_of, program_in}
use Rattle.rdx_eval.specs.declared.fault.EvalFault.{EvalFault}
use Rattle.rdx_answer.specs.AnswerText.{fault_line}
use Rattle.rdx_answer.specs.Inside.Counting.{counts_of}
use Rattle.rdx_answer.specs.Inside.Explaining.{TriesParts, is_shown}
use Rattle.rdx_answer.specs.Inside.Tabled.{forms_in}
use Rattle.rdx_answer.specs.Queries as model
use Rattle.rdx_answer.specs.Views.{query_of}
use Rattle.rdx_answer.proofs.ExplainedParts.{fault_gained, parts_gained, said_gained}
use Rattle.rdx_answer.proofs.explained_answers.write_explained.Goals as goal

pub returns-in-Ok-clause-answer : goal.returns-in-Ok-clause-answer
returns-in-Ok-clause-answer g c =
    let P : programs.Program = program_of (program_in c.args.engine.now).now in
    let q : model.Query = query_of (forms_in c.args.table.now) c.args.query.now in
    parts_gained P (counts_of c.args.counts) q c.args.out.now.items c.show.new.out.items
    (subst (λ (r : Result (Unit {0}) EvalFault). TriesParts P q c.args.out.now.items c.show.new.out.items r) c.in-Ok.is c.show.ensures.answer)

pub returns-then-not-is_shown-clause-answer : goal.returns-then-not-is_shown-clause-answer
returns-then-not-is_shown-clause-answer g c =
    let P : programs.Program = program_of (program_in c.args.engine.now).now in
    let q : model.Query = query_of (forms_in c.args.table.now) c.args.query.now in
    let none : is_shown q ≡ false = sym (c.is_shown.ensures (forms_in c.args.table.now)) ∙ c.if-not-is_shown.true in
    IfOk-weaker c.write_answer.result _ _
    (λ met a. said_gained P (counts_of c.args.counts) q c.args.out.now.items c.write_answer.new.out.items met none a) c.write_answer.ensures.answer

pub returns-in_ok-write_fault-in-Err-Named-clause-answer : goal.returns-in_ok-write_fault-in-Err-Named-clause-answer
returns-in_ok-write_fault-in-Err-Named-clause-answer g c =
    let P : programs.Program = program_of (program_in c.args.engine.now).now in
    let q : model.Query = query_of (forms_in c.args.table.now) c.args.query.now in
    let f = fault_of c.in-Err-Named.fault in
    let faulted = subst (λ (r : Result (Unit {0}) EvalFault). TriesParts P q c.args.out.now.items c.show.new.out.items r) c.in-Err-Named.is c.show.ensures.answer in
    let tried = subst (λ (e : EvalFault). TriesParts P q c.args.out.now.items c.show.new.out.items (Err e)) c.in-Err-Named.field-0-is faulted in
    fault_gained P (counts_of c.args.counts) q f c.args.out.now.items c.write_fault.new.out.items
    (c.in_ok-write_fault-in-Err-Named.ensures ∙ ap (λ (z : List ℕ). z ++ fault_line f) tried.0) tried.1
