use Rattle.std.proofs.Common.{◌≡◌, ◌+◌, ◌∙◌, true, false, ℕ, List, ◌∷◌, drop, sym, subst, Bor, Option, Some}
use Rattle.std.specs.Prelude.{option_map}
use Rattle.rdx_term.specs.Tree.{Tree}
use Rattle.rdx_term.specs.View.{tree_of}
use Rattle.rdx_lang.specs.Bindings.{Binding}
use Rattle.rdx_lang.specs.ProgramView.{program_of}
use Rattle.rdx_lang.specs.Shown.{binding_of, bindings_of}
use Rattle.rdx_lang.specs.TemplateView.{host_of}
use Rattle.rdx_lang.specs.Templates.{Host}
use Rattle.rdx_lang.specs.declared.binding.Binding as code_binding
use Rattle.rdx_lang.specs.declared.program.Program.{Program}
use Rattle.rdx_lang.proofs.Rest.{rest_at}
use Rattle.rdx_eval.specs.Answers.{Answer, value, fault, stops}
use Rattle.rdx_eval.specs.Calls.{Calls}
use Rattle.rdx_eval.specs.Heights.{calls_at, height}
use Rattle.rdx_eval.specs.Instantiation.{HostMakes, is_false}
use Rattle.rdx_eval.specs.Views.{program_in}
use Rattle.rdx_eval.proofs.SaidOn.{error_said_on}
use Rattle.rdx_answer.specs.GenerateAnswers.{FirstFalseOf}
use Rattle.rdx_answer.proofs.Attempting.{first_false-here, first_false-behind}
use Rattle.rdx_answer.proofs.generate_answers.first_false.Goals as goal

pub returns-in_err-value-clause-answer : goal.returns-in_err-value-clause-answer
returns-in_err-value-clause-answer g c =
    let C : Calls = calls_at (program_of (program_in c.args.engine.now).now) height in
    let h : Host = host_of c.args.check.now.host.now in
    let xs = c.args.found.now in
    let i : ℕ = c.loop-b.b-index in
    let x = c.b-item.result in
    let e : bindings_of (drop i xs) ≡ binding_of x ∷ bindings_of (drop (i + 1) xs) = rest_at binding_of xs i x c.loop-b-test.true c.b-item.is in
    error_said_on tree_of (option_map (λ (b : Bor code_binding.Binding). binding_of b.now))
    (HostMakes (calls_at (program_of (program_in c.loop-b.engine).now) height) (binding_of x) h)
    (FirstFalseOf C h (bindings_of xs)) c.from_residual.result _ c.from_residual.ensures.1
    (λ f m. c.loop-b.invariant.first (fault f) (subst (λ (bs : List Binding). FirstFalseOf C h bs (fault f)) (sym e)
    (stops (subst (λ (p : Bor Program). HostMakes (calls_at (program_of p.now) height) (binding_of x) h (fault f)) c.loop-b.invariant.same m))))
    c.in_err-value.ensures.answer

pub returns-then-is_false-clause-answer : goal.returns-then-is_false-clause-answer
returns-then-is_false-clause-answer g c =
    let C : Calls = calls_at (program_of (program_in c.args.engine.now).now) height in
    let h : Host = host_of c.args.check.now.host.now in
    let xs = c.args.found.now in
    let i : ℕ = c.loop-b.b-index in
    let x = c.b-item.result in
    let t : Tree = tree_of c.in_ok-value.value in
    let e : bindings_of (drop i xs) ≡ binding_of x ∷ bindings_of (drop (i + 1) xs) = rest_at binding_of xs i x c.loop-b-test.true c.b-item.is in
    let m : HostMakes C (binding_of x) h (value t) =
    subst (λ (p : Bor Program). HostMakes (calls_at (program_of p.now) height) (binding_of x) h (value t)) c.loop-b.invariant.same c.in_ok-value.ensures.answer in
    let said : is_false t ≡ true = sym c.is_false.ensures ∙ c.if-is_false.true in
    c.loop-b.invariant.first (value (Some (binding_of x))) (subst (λ (bs : List Binding). FirstFalseOf C h bs (value (Some (binding_of x)))) (sym e)
    (first_false-here C h (binding_of x) (bindings_of (drop (i + 1) xs)) t m said))

pub loop-b-preserved : goal.loop-b-preserved
loop-b-preserved g c =
    let C : Calls = calls_at (program_of (program_in c.args.engine.now).now) height in
    let h : Host = host_of c.args.check.now.host.now in
    let xs = c.args.found.now in
    let i : ℕ = c.loop-b.b-index in
    let x = c.b-item.result in
    let t : Tree = tree_of c.in_ok-value.value in
    let e : bindings_of (drop i xs) ≡ binding_of x ∷ bindings_of (drop (i + 1) xs) = rest_at binding_of xs i x c.loop-b-test.true c.b-item.is in
    let m : HostMakes C (binding_of x) h (value t) =
    subst (λ (p : Bor Program). HostMakes (calls_at (program_of p.now) height) (binding_of x) h (value t)) c.loop-b.invariant.same c.in_ok-value.ensures.answer in
    let said : is_false t ≡ false = sym c.is_false.ensures ∙ c.if-is_false.false in
    record {
      same = c.in_ok-value.ensures.same ∙ c.loop-b.invariant.same;
      first = λ (r : Answer (Option Binding)) f. c.loop-b.invariant.first r (subst (λ (bs : List Binding). FirstFalseOf C h bs r) (sym e)
          (first_false-behind C h (binding_of x) (bindings_of (drop (i + 1) xs)) t r m said f));
    }
