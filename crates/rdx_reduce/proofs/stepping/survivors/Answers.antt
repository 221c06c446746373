use Rattle.std.proofs.Common.{Option, List, refl, sym, subst}
use Rattle.std.specs.Borrow.{Bor}
use Rattle.std.specs.Prelude.{IsSome}
use Rattle.rdx_term.specs.Tree.{Tree}
use Rattle.rdx_term.specs.View.{tree_of}
use Rattle.rdx_lang.specs.Bindings.{Binding}
use Rattle.rdx_lang.specs.Checked.{language_in, pattern_in}
use Rattle.rdx_lang.specs.Patterns.{Language}
use Rattle.rdx_lang.specs.ProgramView.{program_of, extras_of}
use Rattle.rdx_lang.specs.Programs.{language_named}
use Rattle.rdx_lang.specs.declared.program.Extra.{Extra}
use Rattle.rdx_lang.specs.declared.program.Program.{Program}
use Rattle.rdx_eval.specs.Answers.{goes, lists}
use Rattle.rdx_eval.specs.Calls.{Calls}
use Rattle.rdx_eval.specs.Heights.{calls_at, height}
use Rattle.rdx_eval.specs.Extending.{Extend, ExtendOver, Survivors}
use Rattle.rdx_eval.specs.Fresh.{avoiding}
use Rattle.rdx_eval.specs.Views.{Says, bindings_in, program_in}
use Rattle.rdx_eval.proofs.SaidOn.{said_on}
use Rattle.rdx_reduce.proofs.stepping.survivors.Goals as goal

pub extend-requires : goal.extend-requires
extend-requires g c =
    subst (λ (p : Bor Program). IsSome (language_named (program_of p.now) c.args.name.now)) (sym c.matches.ensures.same)
    (subst (λ (L : Option Language). IsSome L) (sym c.requires) refl)

pub returns-clause-answer : goal.returns-clause-answer
returns-clause-answer g c =
    let L : Language = language_in c.args.language.now in
    let C : Calls = calls_at (program_of (program_in c.args.engine.now).now) height in
    let t : Tree = tree_of c.args.t.now in
    let bs : List Binding = bindings_in c.in_ok-found.found in
    let over : Says bindings_in (ExtendOver (language_named (program_of (program_in c.args.engine.now).now) c.args.name.now) C t (extras_of c.deref.result.now) bs) c.extend.result =
    subst (λ (p : Bor Program). Says bindings_in (ExtendOver (language_named (program_of p.now) c.args.name.now) (calls_at (program_of p.now) height) t (extras_of c.deref.result.now) bs) c.extend.result)
    c.matches.ensures.same c.extend.ensures.answer in
    let extended : Says bindings_in (Extend L C (avoiding t) (extras_of c.deref.result.now) bs) c.extend.result =
    subst (λ (o : Option Language). Says bindings_in (ExtendOver o C t (extras_of c.deref.result.now) bs) c.extend.result) c.requires over in
    said_on bindings_in (Extend L C (avoiding t) (extras_of c.args.rule.now.extras.items) bs) (Survivors L C t (pattern_in c.args.rule.now.pattern) (extras_of c.args.rule.now.extras.items)) c.extend.result
    (λ a h. goes (lists c.in_ok-found.ensures.listing) h)
    (subst (λ (es : List Extra). Says bindings_in (Extend L C (avoiding t) (extras_of es) bs) c.extend.result) c.deref.ensures.value extended)
