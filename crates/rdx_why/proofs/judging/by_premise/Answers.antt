use Rattle.std.proofs.Common.{◌≡◌, List, map, subst}
use Rattle.std.specs.Prelude.{◌↔◌}
use Rattle.std.proofs.lemmas.Result.{IfOk-weaker}
use Rattle.rdx_term.specs.Tree.{Tree}
use Rattle.rdx_term.specs.View.{tree_of}
use Rattle.rdx_term.specs.declared.term.Term.{Term}
use Rattle.rdx_lang.specs.Bindings.{Binding, visible}
use Rattle.rdx_lang.specs.Checked.{language_in}
use Rattle.rdx_lang.specs.Members.{In}
use Rattle.rdx_lang.specs.Names.{names}
use Rattle.rdx_lang.specs.Patterns.{Language}
use Rattle.rdx_lang.specs.ProgramView.{premise_of, program_of}
use Rattle.rdx_lang.specs.Programs.{Premise, Program, holds}
use Rattle.rdx_lang.specs.Rules.{Match}
use Rattle.rdx_lang.specs.Shown.{binding_of}
use Rattle.rdx_lang.specs.TemplateView.{template_of}
use Rattle.rdx_lang.specs.declared.template.Template as code
use Rattle.rdx_eval.specs.Answers.{value}
use Rattle.rdx_eval.specs.Instantiation.{MakeList}
use Rattle.rdx_eval.specs.Views.{terms_in}
use Rattle.rdx_deriv.specs.DerivationView.{goal_of}
use Rattle.rdx_deriv.specs.Derivations.{judged}
use Rattle.rdx_deriv.specs.Avoiding.{avoided_of}
use Rattle.rdx_deriv.specs.Finding.{Finds}
use Rattle.rdx_opened.specs.Picking.{picked}
use Rattle.rdx_deriv.specs.Judged.{calls}
use Rattle.rdx_deriv.proofs.FoundOnce.{found_some}
use Rattle.rdx_why.proofs.WaysLaws.{none_holds, passed_by, premise_has, premise_joins, premise_passed, premise_seen, some_holds}
use Rattle.rdx_why.proofs.judging.by_premise.Goals as goal

pub answered-requires-clause-outputs : goal.answered-requires-clause-outputs
answered-requires-clause-outputs g c =
    let P : Program = program_of c.args.program.now in
    let q : Premise = premise_of c.args.premise.now in
    let b : Binding = binding_of c.args.b.now in
    premise_has P (language_in c.args.language.now) q b _ c.requires.way (tree_of c.in-Some.ins)
    (found_some tree_of (λ u. MakeList (calls P) b q.inputs (value u)) c.in_ok-ins.field-0
    (subst (λ (ms : List code.Template). Finds tree_of (λ u. MakeList (calls P) b (map template_of ms) (value u)) c.in_ok-ins.field-0)
    c.deref.ensures.value c.in_ok-ins.ensures.made) c.in-Some.ins c.in-Some.is)

pub unreachable-requires-in_default-2 : goal.unreachable-requires-in_default-2
unreachable-requires-in_default-2 g c =
    let P : Program = program_of c.args.program.now in
    let L : Language = language_in c.args.language.now in
    let q : Premise = premise_of c.args.premise.now in
    let b : Binding = binding_of c.args.b.now in
    let C : Binding = binding_of c.args.c.now in
    let made : (y : Tree) → (MakeList (calls P) b q.inputs (value y) ↔ (y ≡ tree_of c.in-Some.ins)) =
    found_some tree_of (λ u. MakeList (calls P) b q.inputs (value u)) c.in_ok-ins.field-0
    (subst (λ (ms : List code.Template). Finds tree_of (λ u. MakeList (calls P) b (map template_of ms) (value u)) c.in_ok-ins.field-0)
    c.deref.ensures.value c.in_ok-ins.ensures.made) c.in-Some.ins c.in-Some.is in
    premise_seen P L q b C c.requires.map c.requires.way (tree_of c.in-Some.ins) (terms_in c.in_ok-outs.outs) made c.in_ok-outs.ensures.answered
    (subst (λ (us : List Term). (u : Tree) → In u (map tree_of us) → (d : Binding) → Match L q.outputs u d → visible d ≡ picked C (names q.outputs) → ⊥)
    c.deref-2.ensures.value (none_holds c.in_ok-there.field-0 c.in_default-2.is c.in_ok-there.ensures.none))

pub unreachable-requires-in_default-3 : goal.unreachable-requires-in_default-3
unreachable-requires-in_default-3 g c =
    let P : Program = program_of c.args.program.now in
    let L : Language = language_in c.args.language.now in
    let q : Premise = premise_of c.args.premise.now in
    let b : Binding = binding_of c.args.b.now in
    let t = c.in-Some-2.there in
    let h = some_holds _ _ _ c.in-Some-2.is c.in_ok-there.ensures.some in
    premise_joins P L q b (binding_of c.args.c.now) c.requires.map c.requires.way c.args.l.now (tree_of t.outputs) (goal_of t.seen.goal)
    (binding_of t.seen.binding) h.1 (none_holds c.in_ok-binding.field-0 c.in_default-3.is c.in_ok-binding.ensures.none)

pub returns-clause-passed : goal.returns-clause-passed
returns-clause-passed g c =
    let P : Program = program_of c.args.program.now in
    let L : Language = language_in c.args.language.now in
    let q : Premise = premise_of c.args.premise.now in
    let b : Binding = binding_of c.args.b.now in
    let C : Binding = binding_of c.args.c.now in
    let t = c.in-Some-2.there in
    let u : Tree = tree_of t.outputs in
    let h = some_holds _ _ _ c.in-Some-2.is c.in_ok-there.ensures.some in
    let j = some_holds _ _ _ c.in-Some-3.is c.in_ok-binding.ensures.some in
    let made : (y : Tree) → (MakeList (calls P) b q.inputs (value y) ↔ (y ≡ tree_of c.in-Some.ins)) =
    found_some tree_of (λ u. MakeList (calls P) b q.inputs (value u)) c.in_ok-ins.field-0
    (subst (λ (ms : List code.Template). Finds tree_of (λ u. MakeList (calls P) b (map template_of ms) (value u)) c.in_ok-ins.field-0)
    c.deref.ensures.value c.in_ok-ins.ensures.made) c.in-Some.ins c.in-Some.is in
    let among : In u (terms_in c.in_ok-outs.outs) = subst (λ (us : List Term). In u (map tree_of us)) c.deref-2.ensures.value h.0 in
    IfOk-weaker c.passed_two.result _ _
    (λ r e. passed_by P c.args.l.now (avoided_of c.args.avoids.now) (holds q) C b _ _ _ _ e.0 e.1
    (premise_passed P L c.args.l.now (avoided_of c.args.avoids.now) q C b (binding_of c.in-Some-3.binding) (tree_of c.in-Some.ins) u
    (terms_in c.in_ok-outs.outs) _ (goal_of t.seen.goal) (binding_of t.seen.binding) c.requires.spoken c.requires.rules c.requires.known
    ((made (tree_of c.in-Some.ins)).1 (λ i. tree_of c.in-Some.ins)) c.in_ok-outs.ensures.answered among
    (λ i. judged (c.in_ok-share.ensures i) (tree_of c.in-Some.ins) u) h.1 j))
    c.passed_two.ensures
