use Rattle.std.proofs.Common.{◌≡◌, ℕ, ◌+◌, List, ◌∷◌, drop, map, refl, sym, ◌∙◌, ap, subst}
use Rattle.std.specs.Borrow.{Bor}
use Rattle.std.specs.BTreeSet.{insert_key}
use Rattle.rdx_term.specs.Order.{tree_cmp}
use Rattle.rdx_term.specs.Tree.{Tree}
use Rattle.rdx_term.specs.View.{tree_of}
use Rattle.rdx_term.specs.declared.term.Term.{Term}
use Rattle.rdx_lang.specs.Bindings.{Binding}
use Rattle.rdx_lang.specs.ProgramView.{premise_of, program_of}
use Rattle.rdx_lang.specs.Programs as programs
use Rattle.rdx_lang.specs.Programs.{Premise}
use Rattle.rdx_lang.specs.Shown.{binding_of, bindings_of}
use Rattle.rdx_lang.specs.TemplateView.{template_of}
use Rattle.rdx_lang.specs.Templates.{Template}
use Rattle.rdx_lang.specs.declared.binding.Binding as code_binding
use Rattle.rdx_lang.specs.declared.program.Program.{Program}
use Rattle.rdx_lang.proofs.Keys.{map-inserted}
use Rattle.rdx_lang.proofs.Rest.{rest_at, rest_none}
use Rattle.rdx_eval.specs.Answers.{Answer, value, fault, Then, stops, goes, Single}
use Rattle.rdx_eval.specs.Calls.{Calls}
use Rattle.rdx_eval.specs.Heights.{calls_at, height}
use Rattle.rdx_eval.specs.Instantiation.{Makes}
use Rattle.rdx_eval.specs.Views.{bindings_in, program_in, terms_in}
use Rattle.rdx_eval.proofs.SaidOn.{error_said_on}
use Rattle.rdx_answer.specs.HoldsAnswers.{FindsMet, Values}
use Rattle.rdx_answer.proofs.MetPremises.{Listing, listing-start, listing-next, listing-fault, listing-end}
use Rattle.rdx_answer.proofs.holds_answers.values_of.Goals as goal

pub returns-in_err-found-clause-answer : goal.returns-in_err-found-clause-answer
returns-in_err-found-clause-answer g c =
    let P : programs.Program = program_of (program_in c.args.engine.now).now in
    let q : Premise = premise_of c.args.premise.now in
    let t : Template = template_of c.args.t.now in
    error_said_on bindings_in terms_in (FindsMet P q) (Then (FindsMet P q) (Values (calls_at P height) t))
    c.from_residual.result _ c.from_residual.ensures.1 (λ f h. stops h) c.in_err-found.ensures.answer

pub loop-b-init : goal.loop-b-init
loop-b-init g c =
    let C : Calls = calls_at (program_of (program_in c.args.engine.now).now) height in
    let t : Template = template_of c.args.t.now in
    let R : Binding → Answer (List Tree) → Type 0 = λ b. Single (Makes C b t) in
    let bs : List Binding = bindings_of c.deref-b-items.result.now in
    record {
      same = c.meeting.ensures.same;
      listing = subst (λ (ks : List Term). Listing R bs bs (map tree_of ks)) (sym c.new-set.ensures.empty) (listing-start R bs);
    }

pub returns-in_err-value-clause-answer : goal.returns-in_err-value-clause-answer
returns-in_err-value-clause-answer g c =
    let P : programs.Program = program_of (program_in c.args.engine.now).now in
    let q : Premise = premise_of c.args.premise.now in
    let t : Template = template_of c.args.t.now in
    let R : Binding → Answer (List Tree) → Type 0 = λ b. Single (Makes (calls_at P height) b t) in
    let xs = c.deref-b-items.result.now in
    let i : ℕ = c.loop-b.b-index in
    let x = c.b-item.result in
    let e : bindings_of (drop i xs) ≡ binding_of x ∷ bindings_of (drop (i + 1) xs) = rest_at binding_of xs i x c.loop-b-test.true c.b-item.is in
    let found : FindsMet P q (value (bindings_of xs)) =
    subst (λ (ys : List code_binding.Binding). FindsMet P q (value (bindings_of ys))) (sym c.deref-b-items.ensures.value) c.in_ok-found.ensures.answer in
    error_said_on tree_of terms_in (Makes (calls_at (program_of (program_in c.loop-b.engine).now) height) (binding_of x) t)
    (Then (FindsMet P q) (Values (calls_at P height) t)) c.from_residual-in_err-value.result _ c.from_residual-in_err-value.ensures.1
    (λ f h. goes found (stops (listing-fault R (bindings_of xs) (binding_of x) _ _ (map tree_of c.loop-b.set.keys) f e
    (stops (subst (λ (p : Bor Program). Makes (calls_at (program_of p.now) height) (binding_of x) t (fault f)) c.loop-b.invariant.same h))
    c.loop-b.invariant.listing)))
    c.in_err-value.ensures.answer

pub loop-b-preserved : goal.loop-b-preserved
loop-b-preserved g c =
    let C : Calls = calls_at (program_of (program_in c.args.engine.now).now) height in
    let t : Template = template_of c.args.t.now in
    let R : Binding → Answer (List Tree) → Type 0 = λ b. Single (Makes C b t) in
    let xs = c.deref-b-items.result.now in
    let i : ℕ = c.loop-b.b-index in
    let x = c.b-item.result in
    let e : bindings_of (drop i xs) ≡ binding_of x ∷ bindings_of (drop (i + 1) xs) = rest_at binding_of xs i x c.loop-b-test.true c.b-item.is in
    let u : Tree = tree_of c.in_ok-value.value in
    let keys : List Tree = map tree_of c.loop-b.set.keys in
    let k : map tree_of c.insert.new.self.keys ≡ insert_key tree_cmp keys u =
    ap (map tree_of) c.in_ok-insert.ensures.keys ∙ map-inserted tree_of tree_cmp c.loop-b.set.keys c.in_ok-value.value in
    let h : Makes C (binding_of x) t (value u) =
    subst (λ (p : Bor Program). Makes (calls_at (program_of p.now) height) (binding_of x) t (value u)) c.loop-b.invariant.same c.in_ok-value.ensures.answer in
    record {
      same = c.instantiate.ensures.same ∙ c.loop-b.invariant.same;
      listing = listing-next R (bindings_of xs) (binding_of x) _ _ keys (map tree_of c.insert.new.self.keys) u e k (goes h refl) c.loop-b.invariant.listing;
    }

pub returns-clause-answer : goal.returns-clause-answer
returns-clause-answer g c =
    let P : programs.Program = program_of (program_in c.args.engine.now).now in
    let q : Premise = premise_of c.args.premise.now in
    let t : Template = template_of c.args.t.now in
    let R : Binding → Answer (List Tree) → Type 0 = λ b. Single (Makes (calls_at P height) b t) in
    let xs = c.deref-b-items.result.now in
    let found : FindsMet P q (value (bindings_of xs)) =
    subst (λ (ys : List code_binding.Binding). FindsMet P q (value (bindings_of ys))) (sym c.deref-b-items.ensures.value) c.in_ok-found.ensures.answer in
    subst (λ (ks : List Term). Then (FindsMet P q) (Values (calls_at P height) t) (value (map tree_of ks))) (sym c.in_ok-terms_of.ensures)
    (goes found (listing-end R (bindings_of xs) _ (map tree_of c.loop-b.set.keys) (rest_none binding_of xs c.loop-b.b-index c.loop-b-test.false)
    c.loop-b.invariant.listing))
