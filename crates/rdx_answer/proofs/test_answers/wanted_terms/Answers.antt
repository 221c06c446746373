use Rattle.std.proofs.Common.{◌≡◌, ◌∙◌, List, map, refl, sym, ap, subst}
use Rattle.std.specs.Borrow.{Bor}
use Rattle.rdx_term.specs.Tree.{Tree}
use Rattle.rdx_term.specs.View.{tree_of}
use Rattle.rdx_term.specs.declared.term.Term.{Term}
use Rattle.rdx_lang.specs.BindingView.{pairs_of}
use Rattle.rdx_lang.specs.Bindings.{Binding, of_pairs, no_names}
use Rattle.rdx_lang.specs.ProgramView.{program_of}
use Rattle.rdx_lang.specs.Programs as programs
use Rattle.rdx_lang.specs.Shown.{binding_of}
use Rattle.rdx_lang.specs.TemplateView.{host_of}
use Rattle.rdx_lang.specs.Templates.{Host}
use Rattle.rdx_lang.specs.declared.program.Program.{Program}
use Rattle.rdx_lang.specs.declared.template.HostExpr.{HostExpr}
use Rattle.rdx_eval.specs.Answers.{Answer, value, fault, stops, Single}
use Rattle.rdx_eval.specs.Heights.{calls_at, height}
use Rattle.rdx_eval.specs.Instantiation.{HostMakes}
use Rattle.rdx_eval.specs.Views.{program_in, terms_in}
use Rattle.rdx_eval.proofs.Gathered.{Gathers, gathers-start}
use Rattle.rdx_eval.proofs.GatheredLoops.{gather-fault, gather-end}
use Rattle.rdx_eval.proofs.SaidOn.{error_said_on}
use Rattle.rdx_answer.specs.Answering.{HostValue, HostValues}
use Rattle.rdx_answer.proofs.OverHosts.{next_made}
use Rattle.rdx_answer.proofs.test_answers.wanted_terms.Goals as goal

pub loop-host-init : goal.loop-host-init
loop-host-init g c =
    let P : programs.Program = program_of (program_in c.args.engine.now).now in
    let R : Host → Answer (List Tree) → Type 0 = λ h. Single (HostValue P h) in
    let hs : List Host = map host_of c.args.hosts.now in
    record {
      same = refl;
      gathers = subst (λ (ts : List Term). Gathers R hs hs (map tree_of ts)) (sym c.new-terms.ensures.items) (gathers-start R hs);
    }

pub returns-in_err-term-clause-answer : goal.returns-in_err-term-clause-answer
returns-in_err-term-clause-answer g c =
    let P : programs.Program = program_of (program_in c.args.engine.now).now in
    let R : Host → Answer (List Tree) → Type 0 = λ h. Single (HostValue P h) in
    let xs : List HostExpr = c.args.hosts.now in
    let x = c.host-item.result in
    let empty : binding_of c.new-in-loop-host.result ≡ no_names = c.new-in-loop-host.ensures ∙ ap (λ ps. of_pairs (pairs_of ps)) c.new.ensures.items in
    error_said_on tree_of terms_in
    (HostMakes (calls_at (program_of (program_in c.loop-host.engine).now) height) (binding_of c.new-in-loop-host.result) (host_of x))
    (HostValues P (map host_of xs)) c.from_residual.result _ c.from_residual.ensures.1
    (λ f h. gather-fault host_of R xs c.loop-host.host-index (map tree_of c.loop-host.terms.items) c.loop-host.invariant.gathers x
    c.loop-host-test.true c.host-item.is f
    (stops (subst (λ (b : Binding). HostMakes (calls_at P height) b (host_of x) (fault f)) empty
    (subst (λ (p : Bor Program). HostMakes (calls_at (program_of p.now) height) (binding_of c.new-in-loop-host.result) (host_of x) (fault f))
    c.loop-host.invariant.same h))))
    c.in_err-term.ensures.answer

pub loop-host-preserved : goal.loop-host-preserved
loop-host-preserved g c =
    let P : programs.Program = program_of (program_in c.args.engine.now).now in
    let xs : List HostExpr = c.args.hosts.now in
    let x = c.host-item.result in
    let t : Tree = tree_of c.in_ok-term.term in
    let empty : binding_of c.new-in-loop-host.result ≡ no_names = c.new-in-loop-host.ensures ∙ ap (λ ps. of_pairs (pairs_of ps)) c.new.ensures.items in
    let made : HostValue P (host_of x) (value t) =
    subst (λ (b : Binding). HostMakes (calls_at P height) b (host_of x) (value t)) empty
    (subst (λ (p : Bor Program). HostMakes (calls_at (program_of p.now) height) (binding_of c.new-in-loop-host.result) (host_of x) (value t))
    c.loop-host.invariant.same c.in_ok-term.ensures.answer) in
    record {
      same = c.in_ok-term.ensures.same ∙ c.loop-host.invariant.same;
      gathers = next_made P xs c.loop-host.host-index c.loop-host.terms.items c.push.new.self.items x c.in_ok-term.term
          c.loop-host-test.true c.host-item.is c.in_ok-push.ensures.items made c.loop-host.invariant.gathers;
    }

pub returns-clause-answer : goal.returns-clause-answer
returns-clause-answer g c =
    let P : programs.Program = program_of (program_in c.args.engine.now).now in
    gather-end host_of (λ h. Single (HostValue P h)) c.args.hosts.now c.loop-host.host-index (map tree_of c.loop-host.terms.items)
    c.loop-host.invariant.gathers c.loop-host-test.false
