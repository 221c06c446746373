-- What metafunctions and judgements are answered.
use Rattle.std.proofs.Common.{arith, ◌≡◌, ℕ, ◌+◌, ◌-◌, ◌≤◌, List, [], ◌∷◌, ◌++◌, Option, Some, length, drop, map, refl, ap, sym, subst}
use Rattle.std.proofs.lemmas.Grind.{common_steps}
use Rattle.rdx_term.specs.Tree.{Tree}
use Rattle.rdx_term.specs.View.{tree_of}
use Rattle.rdx_term.specs.declared.term.Term as code_term
use Rattle.rdx_lang.specs.Bindings.{Binding}
use Rattle.rdx_lang.specs.Checked.{language_in, pattern_in}
use Rattle.rdx_lang.specs.Patterns.{Pattern, Language}
use Rattle.rdx_lang.specs.ProgramView.{clause_of, clauses_of, extras_of, judgement_of, judgement_rule_of, judgement_rules_of, metafunction_of, program_of}
use Rattle.rdx_lang.specs.Programs.{JudgementRule, Program}
use Rattle.rdx_lang.specs.Shown.{binding_of, bindings_of}
use Rattle.rdx_lang.specs.Templates.{Template}
use Rattle.rdx_lang.specs.TemplateView.{template_of}
use Rattle.rdx_lang.specs.declared.binding.Binding as code_binding
use Rattle.rdx_lang.specs.declared.program.Clause as code_clause
use Rattle.rdx_lang.specs.declared.program.Extra as code_extra
use Rattle.rdx_lang.specs.declared.program.JRule as code_rule
use Rattle.rdx_lang.specs.declared.template.Template as code_template
use Rattle.rdx_lang.proofs.Rest.{rest_at, rest_none}
use Rattle.rdx_eval.specs.Answers.{Answer, value, fault, not_contract, spent, undefined, stops, goes, Single, lists}
use Rattle.rdx_eval.specs.Asking.{AskedIf}
use Rattle.rdx_eval.specs.Calls.{Calls}
use Rattle.rdx_eval.specs.Extending.{Survivors}
use Rattle.rdx_eval.specs.Languages.{language_found}
use Rattle.rdx_eval.specs.Inside.Asked.{Passes, passed, pattern_found}
use Rattle.rdx_eval.specs.Inside.Judgements.{judgement_found}
use Rattle.rdx_eval.specs.Inside.Metafunctions.{metafunction_found}
use Rattle.rdx_eval.specs.Inside.Scopes.{calls_in}
use Rattle.rdx_eval.specs.Instantiation.{Makes, MakeList}
use Rattle.rdx_eval.specs.Judgements.{ContractedRules, OutputList, OutputLists, RuleOutputs, Rules, RulesOver}
use Rattle.rdx_eval.specs.Metafunctions.{Clauses, ClausesOver, Contracted, Results, OneOf}
use Rattle.rdx_eval.specs.Views.{terms_in, bindings_in}
use Rattle.rdx_eval.specs.declared.fault.Side.TheVariants as sides
use Rattle.rdx_eval.proofs.Calling.{at-none, at-some, outputs-no_judgement, outputs-none, outputs-over, outputs-some, value-no_metafunction, value-over}
use Rattle.rdx_eval.proofs.ContractLaws.{contracted-in, contracted-fault, contracted-out, contracted-value, rules-in, rules-allowed, output-refused, output-allowed}
use Rattle.rdx_eval.proofs.Gathered.{gathers-next, gathers-fault, gathers-end}
use Rattle.rdx_eval.proofs.GoingOn.{tries-fault, tries-taken, tries-next}
use Rattle.rdx_eval.proofs.HandedOn.{stops_for, handed_on, error_handed_on}
use Rattle.rdx_eval.proofs.LeastValues.{some_gathered}
use Rattle.rdx_eval.proofs.evaluation.+evaluation.Goals as goal

-- ---- metafunctions

pub value-returns-then-height-eq0-clause-answer : goal.calls::value-returns-then-height-eq0-clause-answer
value-returns-then-height-eq0-clause-answer g t c =
    let P : Program = program_of c.args.setting.now.program.now in
    let n : ℕ = c.args.height in
    let C : Calls = calls_in c.args.setting.now (n - 1) in
    let f : List ℕ = c.args.f.now in
    let a : Tree = tree_of c.args.args.now in
    stops_for tree_of ((calls_in c.args.setting.now n).value_of f a) _ (spent f) c.in_ok-spent.ensures (at-none P n f a c.if-height-eq0.true)

pub value-returns-in_default-clause-answer : goal.calls::value-returns-in_default-clause-answer
value-returns-in_default-clause-answer g t c =
    let P : Program = program_of c.args.setting.now.program.now in
    let n : ℕ = c.args.height in
    let C : Calls = calls_in c.args.setting.now (n - 1) in
    let f : List ℕ = c.args.f.now in
    let a : Tree = tree_of c.args.args.now in
    stops_for tree_of ((calls_in c.args.setting.now n).value_of f a) _ (undefined f a) c.in_ok-undefined.ensures
    (at-some P n (n - 1) f a _ (omega arith) refl
    (value-no_metafunction P C f a (metafunction_found c.metafunction_named.result) c.metafunction_named.ensures
    (ap metafunction_found c.in_default.is)))

pub value-returns-in_default-language_named-clause-answer : goal.calls::value-returns-in_default-language_named-clause-answer
value-returns-in_default-language_named-clause-answer g t c =
    let P : Program = program_of c.args.setting.now.program.now in
    let n : ℕ = c.args.height in
    let C : Calls = calls_in c.args.setting.now (n - 1) in
    let f : List ℕ = c.args.f.now in
    let a : Tree = tree_of c.args.args.now in
    let M = metafunction_of c.in-Some.metafunction.now in
    let d : metafunction_found c.metafunction_named.result ≡ Some M = ap metafunction_found c.in-Some.is in
    stops_for tree_of ((calls_in c.args.setting.now n).value_of f a) _ (undefined f a) c.in_ok-undefined-2.ensures
    (at-some P n (n - 1) f a _ (omega arith) refl
    (value-over P C f a (metafunction_found c.metafunction_named.result) c.metafunction_named.ensures M d
    (language_found c.language_named.result) c.language_named.ensures _
    (subst (λ (o : Option Language). ClausesOver o C M.contract f a M.clauses (fault (undefined f a)))
    (sym (ap language_found c.in_default-language_named.is)) refl)))

pub value-returns-in_err-ask-clause-answer : goal.calls::value-returns-in_err-ask-clause-answer
value-returns-in_err-ask-clause-answer g t c =
    let P : Program = program_of c.args.setting.now.program.now in
    let n : ℕ = c.args.height in
    let C : Calls = calls_in c.args.setting.now (n - 1) in
    let f : List ℕ = c.args.f.now in
    let a : Tree = tree_of c.args.args.now in
    let M = metafunction_of c.in-Some.metafunction.now in
    let d : metafunction_found c.metafunction_named.result ≡ Some M = ap metafunction_found c.in-Some.is in
    let L : Language = language_in c.in-Some-language_named.language.now in
    let o : Option Pattern = pattern_found c.in_pattern-ins.result in
    let lift : (r : Answer Tree) → Contracted L C M.contract f a M.clauses r → (calls_in c.args.setting.now n).value_of f a r =
    (λ r h. at-some P n (n - 1) f a r (omega arith) refl
    (value-over P C f a (metafunction_found c.metafunction_named.result) c.metafunction_named.ensures M d
    (language_found c.language_named.result) c.language_named.ensures r
    (subst (λ (q : Option Language). ClausesOver q C M.contract f a M.clauses r) (sym (ap language_found c.in-Some-language_named.is)) h))) in
    error_handed_on passed tree_of (AskedIf L o a (not_contract f sides.In a) Passes) ((calls_in c.args.setting.now n).value_of f a)
    c.from_residual-in_err-ask.result _ c.from_residual-in_err-ask.ensures.1
    (λ q h. lift (fault q) (contracted-in L C M.contract f a M.clauses o c.in_pattern-ins.ensures q h)) c.in_err-ask.ensures

pub value-returns-in_err-t-clause-answer : goal.calls::value-returns-in_err-t-clause-answer
value-returns-in_err-t-clause-answer g t c =
    let P : Program = program_of c.args.setting.now.program.now in
    let n : ℕ = c.args.height in
    let C : Calls = calls_in c.args.setting.now (n - 1) in
    let f : List ℕ = c.args.f.now in
    let a : Tree = tree_of c.args.args.now in
    let M = metafunction_of c.in-Some.metafunction.now in
    let d : metafunction_found c.metafunction_named.result ≡ Some M = ap metafunction_found c.in-Some.is in
    let L : Language = language_in c.in-Some-language_named.language.now in
    let o : Option Pattern = pattern_found c.in_pattern-ins.result in
    let lift : (r : Answer Tree) → Contracted L C M.contract f a M.clauses r → (calls_in c.args.setting.now n).value_of f a r =
    (λ r h. at-some P n (n - 1) f a r (omega arith) refl
    (value-over P C f a (metafunction_found c.metafunction_named.result) c.metafunction_named.ensures M d
    (language_found c.language_named.result) c.language_named.ensures r
    (subst (λ (q : Option Language). ClausesOver q C M.contract f a M.clauses r) (sym (ap language_found c.in-Some-language_named.is)) h))) in
    error_handed_on tree_of tree_of (Clauses L C f a (clauses_of c.as_slice-clauses.result.now)) ((calls_in c.args.setting.now n).value_of f a)
    c.from_residual-in_err-t.result _ c.from_residual-in_err-t.ensures.1
    (λ q h. lift (fault q) (contracted-fault L C M.contract f a M.clauses o c.in_pattern-ins.ensures c.in_ok-ask.ensures q
    (subst (λ (cs : List code_clause.Clause). Clauses L C f a (clauses_of cs) (fault q)) c.as_slice-clauses.ensures.value h)))
    c.in_err-t.ensures.answer

pub value-returns-in_err-ask-2-clause-answer : goal.calls::value-returns-in_err-ask-2-clause-answer
value-returns-in_err-ask-2-clause-answer g t c =
    let P : Program = program_of c.args.setting.now.program.now in
    let n : ℕ = c.args.height in
    let C : Calls = calls_in c.args.setting.now (n - 1) in
    let f : List ℕ = c.args.f.now in
    let a : Tree = tree_of c.args.args.now in
    let M = metafunction_of c.in-Some.metafunction.now in
    let d : metafunction_found c.metafunction_named.result ≡ Some M = ap metafunction_found c.in-Some.is in
    let L : Language = language_in c.in-Some-language_named.language.now in
    let o : Option Pattern = pattern_found c.in_pattern-ins.result in
    let lift : (r : Answer Tree) → Contracted L C M.contract f a M.clauses r → (calls_in c.args.setting.now n).value_of f a r =
    (λ r h. at-some P n (n - 1) f a r (omega arith) refl
    (value-over P C f a (metafunction_found c.metafunction_named.result) c.metafunction_named.ensures M d
    (language_found c.language_named.result) c.language_named.ensures r
    (subst (λ (q : Option Language). ClausesOver q C M.contract f a M.clauses r) (sym (ap language_found c.in-Some-language_named.is)) h))) in
    let p : Option Pattern = pattern_found c.out_pattern-outs.result in
    let v : Tree = tree_of c.in_ok-t.t in
    let k : Clauses L C f a M.clauses (value v) =
    subst (λ (cs : List code_clause.Clause). Clauses L C f a (clauses_of cs) (value v)) c.as_slice-clauses.ensures.value c.in_ok-t.ensures.answer in
    error_handed_on passed tree_of (AskedIf L p v (not_contract f sides.Out v) Passes) ((calls_in c.args.setting.now n).value_of f a)
    c.from_residual-in_err-ask-2.result _ c.from_residual-in_err-ask-2.ensures.1
    (λ q h. lift (fault q) (contracted-out L C M.contract f a M.clauses o c.in_pattern-ins.ensures c.in_ok-ask.ensures v k p c.out_pattern-outs.ensures q h))
    c.in_err-ask-2.ensures

pub value-returns-clause-answer : goal.calls::value-returns-clause-answer
value-returns-clause-answer g t c =
    let P : Program = program_of c.args.setting.now.program.now in
    let n : ℕ = c.args.height in
    let C : Calls = calls_in c.args.setting.now (n - 1) in
    let f : List ℕ = c.args.f.now in
    let a : Tree = tree_of c.args.args.now in
    let M = metafunction_of c.in-Some.metafunction.now in
    let d : metafunction_found c.metafunction_named.result ≡ Some M = ap metafunction_found c.in-Some.is in
    let L : Language = language_in c.in-Some-language_named.language.now in
    let o : Option Pattern = pattern_found c.in_pattern-ins.result in
    let lift : (r : Answer Tree) → Contracted L C M.contract f a M.clauses r → (calls_in c.args.setting.now n).value_of f a r =
    (λ r h. at-some P n (n - 1) f a r (omega arith) refl
    (value-over P C f a (metafunction_found c.metafunction_named.result) c.metafunction_named.ensures M d
    (language_found c.language_named.result) c.language_named.ensures r
    (subst (λ (q : Option Language). ClausesOver q C M.contract f a M.clauses r) (sym (ap language_found c.in-Some-language_named.is)) h))) in
    let p : Option Pattern = pattern_found c.out_pattern-outs.result in
    let v : Tree = tree_of c.in_ok-t.t in
    let k : Clauses L C f a M.clauses (value v) =
    subst (λ (cs : List code_clause.Clause). Clauses L C f a (clauses_of cs) (value v)) c.as_slice-clauses.ensures.value c.in_ok-t.ensures.answer in
    lift (value v)
    (contracted-value L C M.contract f a M.clauses o c.in_pattern-ins.ensures c.in_ok-ask.ensures v k p c.out_pattern-outs.ensures c.in_ok-ask-2.ensures)

-- ---- clauses

pub by_clauses-returns-in_err-bs-clause-answer : goal.calls::by_clauses-returns-in_err-bs-clause-answer
by_clauses-returns-in_err-bs-clause-answer g t c =
    let C : Calls = calls_in c.args.setting.now c.args.height in
    let L : Language = language_in c.args.language.now in
    let f : List ℕ = c.args.f.now in
    let a : Tree = tree_of c.args.args.now in
    let xs = c.args.clauses.now in
    let i : ℕ = c.loop-clause.clause-index in
    let x = c.clause-item.result in
    let e : clauses_of (drop i xs) ≡ clause_of x ∷ clauses_of (drop (i + 1) xs) =
    rest_at clause_of xs i x c.loop-clause-test.true c.clause-item.is in
    error_handed_on bindings_in tree_of (Survivors L C a (pattern_in x.args) (extras_of c.deref.result.now)) (Clauses L C f a (clauses_of xs))
    c.from_residual.result _ c.from_residual.ensures.1
    (λ q h. tries-fault L C f a (clauses_of xs) _ c.loop-clause.invariant.answer (clause_of x) _ e q
    (subst (λ (es : List code_extra.Extra). Survivors L C a (pattern_in x.args) (extras_of es) (fault q)) c.deref.ensures.value h))
    c.in_err-bs.ensures.answer

pub by_clauses-returns-then-not-is_empty-clause-answer : goal.calls::by_clauses-returns-then-not-is_empty-clause-answer
by_clauses-returns-then-not-is_empty-clause-answer g t c =
    let C : Calls = calls_in c.args.setting.now c.args.height in
    let L : Language = language_in c.args.language.now in
    let f : List ℕ = c.args.f.now in
    let a : Tree = tree_of c.args.args.now in
    let xs = c.args.clauses.now in
    let i : ℕ = c.loop-clause.clause-index in
    let x = c.clause-item.result in
    let e : clauses_of (drop i xs) ≡ clause_of x ∷ clauses_of (drop (i + 1) xs) =
    rest_at clause_of xs i x c.loop-clause-test.true c.clause-item.is in
    let bs : List Binding = bindings_in c.in_ok-bs.bs in
    let s : Survivors L C a (pattern_in x.args) (extras_of x.extras.items) (value bs) =
    subst (λ (es : List code_extra.Extra). Survivors L C a (pattern_in x.args) (extras_of es) (value bs)) c.deref.ensures.value c.in_ok-bs.ensures.answer in
    let n : 1 ≤ length bs = grind (arith, common_steps) in
    handed_on tree_of (Results C f a (template_of x.result) (bindings_of c.deref-then-not-is_empty.result.now)) (Clauses L C f a (clauses_of xs)) c.result_of.result
    (λ r h. tries-taken L C f a (clauses_of xs) _ c.loop-clause.invariant.answer (clause_of x) _ e bs s n r
    (subst (λ (cs : List code_binding.Binding). Results C f a (template_of x.result) (bindings_of cs) r) c.deref-then-not-is_empty.ensures.value h))
    c.result_of.ensures.answer

pub by_clauses-loop-clause-preserved : goal.calls::by_clauses-loop-clause-preserved
by_clauses-loop-clause-preserved g t c = record {
  answer = (let C : Calls = calls_in c.args.setting.now c.args.height in
      let L : Language = language_in c.args.language.now in
      let f : List ℕ = c.args.f.now in
      let a : Tree = tree_of c.args.args.now in
      let xs = c.args.clauses.now in
      let i : ℕ = c.loop-clause.clause-index in
      let x = c.clause-item.result in
      let e : clauses_of (drop i xs) ≡ clause_of x ∷ clauses_of (drop (i + 1) xs) =
      rest_at clause_of xs i x c.loop-clause-test.true c.clause-item.is in
      let bs : List Binding = bindings_in c.in_ok-bs.bs in
      let s : Survivors L C a (pattern_in x.args) (extras_of x.extras.items) (value bs) =
      subst (λ (es : List code_extra.Extra). Survivors L C a (pattern_in x.args) (extras_of es) (value bs)) c.deref.ensures.value c.in_ok-bs.ensures.answer in
      let n : length bs ≡ 0 = grind (arith, common_steps) in
      tries-next L C f a (clauses_of xs) _ c.loop-clause.invariant.answer (clause_of x) _ e bs s n);
  kept = c.in_ok-bs.ensures.kept;
}

-- ---- the value by a clause

pub result_of-returns-in_err-t-clause-answer : goal.calls::result_of-returns-in_err-t-clause-answer
result_of-returns-in_err-t-clause-answer g t c =
    let C : Calls = calls_in c.args.setting.now c.args.height in
    let T : Template = template_of c.args.template.now in
    let R : Binding → Answer (List Tree) → Type 0 = λ (b : Binding). Single (Makes C b T) in
    let xs = c.args.bs.now in
    let i : ℕ = c.loop-b.b-index in
    let x = c.b-item.result in
    let e : bindings_of (drop i xs) ≡ binding_of x ∷ bindings_of (drop (i + 1) xs) = rest_at binding_of xs i x c.loop-b-test.true c.b-item.is in
    error_handed_on tree_of tree_of (Makes C (binding_of x) T) (Results C c.args.f.now (tree_of c.args.args.now) T (bindings_of xs))
    c.from_residual.result _ c.from_residual.ensures.1
    (λ f h. stops (gathers-fault R (bindings_of xs) (binding_of x) _ _ (terms_in c.loop-b.found) f e (stops h) c.loop-b.invariant.answer)) c.in_err-t.ensures.answer

pub result_of-loop-b-preserved : goal.calls::result_of-loop-b-preserved
result_of-loop-b-preserved g t c = record {
  answer = (let C : Calls = calls_in c.args.setting.now c.args.height in
      let T : Template = template_of c.args.template.now in
      let R : Binding → Answer (List Tree) → Type 0 = λ (b : Binding). Single (Makes C b T) in
      let xs = c.args.bs.now in
      let i : ℕ = c.loop-b.b-index in
      let x = c.b-item.result in
      let e : bindings_of (drop i xs) ≡ binding_of x ∷ bindings_of (drop (i + 1) xs) = rest_at binding_of xs i x c.loop-b-test.true c.b-item.is in
      let d : terms_in c.push.new.self ≡ terms_in c.loop-b.found ++ tree_of c.in_ok-t.t ∷ [] = grind (arith, common_steps) in
      gathers-next R (bindings_of xs) (binding_of x) _ _ (terms_in c.loop-b.found) (tree_of c.in_ok-t.t ∷ []) (terms_in c.push.new.self) e d
      (goes c.in_ok-t.ensures.answer refl) c.loop-b.invariant.answer);
  kept = c.in_ok-t.ensures.kept;
}

pub result_of-one_of-requires : goal.calls::result_of-one_of-requires
result_of-one_of-requires g t c =
    let C : Calls = calls_in c.args.setting.now c.args.height in
    let T : Template = template_of c.args.template.now in
    let R : Binding → Answer (List Tree) → Type 0 = λ (b : Binding). Single (Makes C b T) in
    let xs = c.args.bs.now in
    let n : 1 ≤ length (bindings_of xs) = grind (arith, common_steps) in
    let k : 1 ≤ length (terms_in c.loop-b.found) =
    some_gathered (λ (b : Binding). Makes C b T) (bindings_of xs) (terms_in c.loop-b.found)
    (gathers-end R (bindings_of xs) _ (terms_in c.loop-b.found) (rest_none binding_of xs c.loop-b.b-index c.loop-b-test.false) c.loop-b.invariant.answer) n in
    grind (arith, common_steps)

pub result_of-returns-clause-answer : goal.calls::result_of-returns-clause-answer
result_of-returns-clause-answer g t c =
    let C : Calls = calls_in c.args.setting.now c.args.height in
    let T : Template = template_of c.args.template.now in
    let R : Binding → Answer (List Tree) → Type 0 = λ (b : Binding). Single (Makes C b T) in
    let xs = c.args.bs.now in
    handed_on tree_of (OneOf c.args.f.now (tree_of c.args.args.now) (terms_in c.loop-b.found))
    (Results C c.args.f.now (tree_of c.args.args.now) T (bindings_of xs)) c.one_of.result
    (λ q h. goes
    (gathers-end R (bindings_of xs) _ (terms_in c.loop-b.found) (rest_none binding_of xs c.loop-b.b-index c.loop-b-test.false) c.loop-b.invariant.answer) h)
    c.one_of.ensures

-- ---- judgements

pub outputs-returns-then-height-eq0-clause-answer : goal.calls::outputs-returns-then-height-eq0-clause-answer
outputs-returns-then-height-eq0-clause-answer g t c =
    let P : Program = program_of c.args.setting.now.program.now in
    let n : ℕ = c.args.height in
    let j : List ℕ = c.args.j.now in
    let a : Tree = tree_of c.args.ins.now in
    stops_for terms_in ((calls_in c.args.setting.now n).outputs_of j a) _ (spent j) c.in_ok-spent.ensures (outputs-none P n j a c.if-height-eq0.true)

pub outputs-returns-in_default-clause-answer : goal.calls::outputs-returns-in_default-clause-answer
outputs-returns-in_default-clause-answer g t c =
    let P : Program = program_of c.args.setting.now.program.now in
    let n : ℕ = c.args.height in
    let C : Calls = calls_in c.args.setting.now (n - 1) in
    let j : List ℕ = c.args.j.now in
    let a : Tree = tree_of c.args.ins.now in
    let e : [] ≡ terms_in c.new.result = sym (ap (λ (ts : List code_term.Term). map tree_of ts) c.new.ensures.items) in
    subst (λ (ts : List Tree). (calls_in c.args.setting.now n).outputs_of j a (value ts)) e
    (outputs-some P n (n - 1) j a _ (omega arith) refl
    (outputs-no_judgement P C j a (judgement_found c.judgement_named.result) c.judgement_named.ensures (ap judgement_found c.in_default.is)))

pub outputs-returns-in_default-language_named-clause-answer : goal.calls::outputs-returns-in_default-language_named-clause-answer
outputs-returns-in_default-language_named-clause-answer g t c =
    let P : Program = program_of c.args.setting.now.program.now in
    let n : ℕ = c.args.height in
    let C : Calls = calls_in c.args.setting.now (n - 1) in
    let j : List ℕ = c.args.j.now in
    let a : Tree = tree_of c.args.ins.now in
    let J = judgement_of c.in-Some.judgement.now in
    let d : judgement_found c.judgement_named.result ≡ Some J = ap judgement_found c.in-Some.is in
    let e : [] ≡ terms_in c.new-in_default-language_named.result =
    sym (ap (λ (ts : List code_term.Term). map tree_of ts) c.new-in_default-language_named.ensures.items) in
    subst (λ (ts : List Tree). (calls_in c.args.setting.now n).outputs_of j a (value ts)) e
    (outputs-some P n (n - 1) j a _ (omega arith) refl
    (outputs-over P C j a (judgement_found c.judgement_named.result) c.judgement_named.ensures J d
    (language_found c.language_named.result) c.language_named.ensures _
    (subst (λ (o : Option Language). RulesOver o C J.contract j a J.rules (value [])) (sym (ap language_found c.in_default-language_named.is)) refl)))

pub outputs-returns-in_err-ask-clause-answer : goal.calls::outputs-returns-in_err-ask-clause-answer
outputs-returns-in_err-ask-clause-answer g t c =
    let P : Program = program_of c.args.setting.now.program.now in
    let n : ℕ = c.args.height in
    let C : Calls = calls_in c.args.setting.now (n - 1) in
    let j : List ℕ = c.args.j.now in
    let a : Tree = tree_of c.args.ins.now in
    let J = judgement_of c.in-Some.judgement.now in
    let d : judgement_found c.judgement_named.result ≡ Some J = ap judgement_found c.in-Some.is in
    let L : Language = language_in c.in-Some-language_named.language.now in
    let o : Option Pattern = pattern_found c.in_pattern-asked.result in
    let lift : (r : Answer (List Tree)) → ContractedRules L C J.contract j a J.rules r → (calls_in c.args.setting.now n).outputs_of j a r =
    (λ r h. outputs-some P n (n - 1) j a r (omega arith) refl
    (outputs-over P C j a (judgement_found c.judgement_named.result) c.judgement_named.ensures J d
    (language_found c.language_named.result) c.language_named.ensures r
    (subst (λ (q : Option Language). RulesOver q C J.contract j a J.rules r) (sym (ap language_found c.in-Some-language_named.is)) h))) in
    error_handed_on passed terms_in (AskedIf L o a (not_contract j sides.In a) Passes) ((calls_in c.args.setting.now n).outputs_of j a)
    c.from_residual-in_err-ask.result _ c.from_residual-in_err-ask.ensures.1
    (λ q h. lift (fault q) (rules-in L C J.contract j a J.rules o c.in_pattern-asked.ensures q h)) c.in_err-ask.ensures

pub outputs-returns-clause-answer : goal.calls::outputs-returns-clause-answer
outputs-returns-clause-answer g t c =
    let P : Program = program_of c.args.setting.now.program.now in
    let n : ℕ = c.args.height in
    let C : Calls = calls_in c.args.setting.now (n - 1) in
    let j : List ℕ = c.args.j.now in
    let a : Tree = tree_of c.args.ins.now in
    let J = judgement_of c.in-Some.judgement.now in
    let d : judgement_found c.judgement_named.result ≡ Some J = ap judgement_found c.in-Some.is in
    let L : Language = language_in c.in-Some-language_named.language.now in
    let o : Option Pattern = pattern_found c.in_pattern-asked.result in
    let lift : (r : Answer (List Tree)) → ContractedRules L C J.contract j a J.rules r → (calls_in c.args.setting.now n).outputs_of j a r =
    (λ r h. outputs-some P n (n - 1) j a r (omega arith) refl
    (outputs-over P C j a (judgement_found c.judgement_named.result) c.judgement_named.ensures J d
    (language_found c.language_named.result) c.language_named.ensures r
    (subst (λ (q : Option Language). RulesOver q C J.contract j a J.rules r) (sym (ap language_found c.in-Some-language_named.is)) h))) in
    let p : Option Pattern = pattern_found c.out_pattern-outs.result in
    handed_on terms_in (Rules L C j p a (judgement_rules_of c.as_slice-rules.result.now)) ((calls_in c.args.setting.now n).outputs_of j a)
    c.by_rules.result
    (λ r h. lift r (rules-allowed L C J.contract j a J.rules o c.in_pattern-asked.ensures c.in_ok-ask.ensures p c.out_pattern-outs.ensures r
    (subst (λ (rs : List code_rule.JRule). Rules L C j p a (judgement_rules_of rs) r) c.as_slice-rules.ensures.value h)))
    c.by_rules.ensures.answer

-- ---- rules

pub by_rules-returns-in_err-bs-clause-answer : goal.calls::by_rules-returns-in_err-bs-clause-answer
by_rules-returns-in_err-bs-clause-answer g t c =
    let C : Calls = calls_in c.args.setting.now c.args.height in
    let L : Language = language_in c.args.language.now in
    let j : List ℕ = c.args.j.now in
    let o : Option Pattern = pattern_found c.args.asked in
    let a : Tree = tree_of c.args.ins.now in
    let R : JudgementRule → Answer (List Tree) → Type 0 = RuleOutputs L C j o a in
    let xs = c.args.rules.now in
    let i : ℕ = c.loop-rule.rule-index in
    let x = c.rule-item.result in
    let e : judgement_rules_of (drop i xs) ≡ judgement_rule_of x ∷ judgement_rules_of (drop (i + 1) xs) =
    rest_at judgement_rule_of xs i x c.loop-rule-test.true c.rule-item.is in
    error_handed_on bindings_in terms_in (Survivors L C a (pattern_in x.ins) (extras_of c.deref.result.now)) (Rules L C j o a (judgement_rules_of xs))
    c.from_residual.result _ c.from_residual.ensures.1
    (λ f h. stops (gathers-fault R (judgement_rules_of xs) (judgement_rule_of x) _ _ (terms_in c.loop-rule.found) f e
    (stops (subst (λ (es : List code_extra.Extra). Survivors L C a (pattern_in x.ins) (extras_of es) (fault f)) c.deref.ensures.value h))
    c.loop-rule.invariant.answer))
    c.in_err-bs.ensures.answer

pub by_rules-returns-in_err-more-clause-answer : goal.calls::by_rules-returns-in_err-more-clause-answer
by_rules-returns-in_err-more-clause-answer g t c =
    let C : Calls = calls_in c.args.setting.now c.args.height in
    let L : Language = language_in c.args.language.now in
    let j : List ℕ = c.args.j.now in
    let o : Option Pattern = pattern_found c.args.asked in
    let a : Tree = tree_of c.args.ins.now in
    let R : JudgementRule → Answer (List Tree) → Type 0 = RuleOutputs L C j o a in
    let xs = c.args.rules.now in
    let i : ℕ = c.loop-rule.rule-index in
    let x = c.rule-item.result in
    let ts = c.deref-in-loop-rule.result.now in
    let cs = c.deref-in-loop-rule-2.result.now in
    let bs : List Binding = bindings_in c.in_ok-bs.bs in
    let e : judgement_rules_of (drop i xs) ≡ judgement_rule_of x ∷ judgement_rules_of (drop (i + 1) xs) =
    rest_at judgement_rule_of xs i x c.loop-rule-test.true c.rule-item.is in
    let s : Survivors L C a (pattern_in x.ins) (extras_of x.extras.items) (value bs) =
    subst (λ (es : List code_extra.Extra). Survivors L C a (pattern_in x.ins) (extras_of es) (value bs)) c.deref.ensures.value c.in_ok-bs.ensures.answer in
    error_handed_on terms_in terms_in (OutputLists L C j o (map template_of ts) (bindings_of cs)) (Rules L C j o a (judgement_rules_of xs))
    c.from_residual-in_err-more.result _ c.from_residual-in_err-more.ensures.1
    (λ f h. stops (gathers-fault R (judgement_rules_of xs) (judgement_rule_of x) _ _ (terms_in c.loop-rule.found) f e
    (goes s (subst (λ (us : List code_template.Template). OutputLists L C j o (map template_of us) bs (fault f)) c.deref-in-loop-rule.ensures.value
    (subst (λ (ds : List code_binding.Binding). OutputLists L C j o (map template_of ts) (bindings_of ds) (fault f)) c.deref-in-loop-rule-2.ensures.value h)))
    c.loop-rule.invariant.answer))
    c.in_err-more.ensures.answer

pub by_rules-loop-rule-preserved : goal.calls::by_rules-loop-rule-preserved
by_rules-loop-rule-preserved g t c = record {
  answer = (let C : Calls = calls_in c.args.setting.now c.args.height in
      let L : Language = language_in c.args.language.now in
      let j : List ℕ = c.args.j.now in
      let o : Option Pattern = pattern_found c.args.asked in
      let a : Tree = tree_of c.args.ins.now in
      let R : JudgementRule → Answer (List Tree) → Type 0 = RuleOutputs L C j o a in
      let xs = c.args.rules.now in
      let i : ℕ = c.loop-rule.rule-index in
      let x = c.rule-item.result in
      let ts = c.deref-in-loop-rule.result.now in
      let bs : List Binding = bindings_in c.in_ok-bs.bs in
      let more : List Tree = terms_in c.in_ok-more.more in
      let e : judgement_rules_of (drop i xs) ≡ judgement_rule_of x ∷ judgement_rules_of (drop (i + 1) xs) =
      rest_at judgement_rule_of xs i x c.loop-rule-test.true c.rule-item.is in
      let s : Survivors L C a (pattern_in x.ins) (extras_of x.extras.items) (value bs) =
      subst (λ (es : List code_extra.Extra). Survivors L C a (pattern_in x.ins) (extras_of es) (value bs)) c.deref.ensures.value c.in_ok-bs.ensures.answer in
      let k : OutputLists L C j o (map template_of x.outs.items) bs (value more) =
      subst (λ (us : List code_template.Template). OutputLists L C j o (map template_of us) bs (value more)) c.deref-in-loop-rule.ensures.value
      (subst (λ (ds : List code_binding.Binding). OutputLists L C j o (map template_of ts) (bindings_of ds) (value more)) c.deref-in-loop-rule-2.ensures.value
      c.in_ok-more.ensures.answer) in
      let d : terms_in c.append.new.self ≡ terms_in c.loop-rule.found ++ more = grind (arith, common_steps) in
      gathers-next R (judgement_rules_of xs) (judgement_rule_of x) _ _ (terms_in c.loop-rule.found) more (terms_in c.append.new.self) e d (goes s k)
      c.loop-rule.invariant.answer);
  kept = c.in_ok-more.ensures.kept;
}

pub by_rules-returns-clause-answer : goal.calls::by_rules-returns-clause-answer
by_rules-returns-clause-answer g t c =
    let C : Calls = calls_in c.args.setting.now c.args.height in
    let L : Language = language_in c.args.language.now in
    let j : List ℕ = c.args.j.now in
    let o : Option Pattern = pattern_found c.args.asked in
    let a : Tree = tree_of c.args.ins.now in
    let xs = c.args.rules.now in
    goes
    (gathers-end (RuleOutputs L C j o a) (judgement_rules_of xs) _ (terms_in c.loop-rule.found)
    (rest_none judgement_rule_of xs c.loop-rule.rule-index c.loop-rule-test.false) c.loop-rule.invariant.answer)
    (lists c.in_ok-ascending.ensures)

pub output_lists-returns-in_err-t-clause-answer : goal.calls::output_lists-returns-in_err-t-clause-answer
output_lists-returns-in_err-t-clause-answer g t c =
    let C : Calls = calls_in c.args.setting.now c.args.height in
    let L : Language = language_in c.args.language.now in
    let j : List ℕ = c.args.j.now in
    let o : Option Pattern = pattern_found c.args.asked in
    let ts : List Template = map template_of c.args.templates.now in
    let R : Binding → Answer (List Tree) → Type 0 = λ (b : Binding). Single (OutputList L C j o ts b) in
    let xs = c.args.bs.now in
    let i : ℕ = c.loop-binding.binding-index in
    let x = c.binding-item.result in
    let e : bindings_of (drop i xs) ≡ binding_of x ∷ bindings_of (drop (i + 1) xs) = rest_at binding_of xs i x c.loop-binding-test.true c.binding-item.is in
    error_handed_on tree_of terms_in (MakeList C (binding_of x) ts) (OutputLists L C j o ts (bindings_of xs))
    c.from_residual.result _ c.from_residual.ensures.1
    (λ f h. gathers-fault R (bindings_of xs) (binding_of x) _ _ (terms_in c.loop-binding.found) f e (stops (stops h)) c.loop-binding.invariant.answer)
    c.in_err-t.ensures.answer

pub output_lists-returns-in_err-ask-clause-answer : goal.calls::output_lists-returns-in_err-ask-clause-answer
output_lists-returns-in_err-ask-clause-answer g t c =
    let C : Calls = calls_in c.args.setting.now c.args.height in
    let L : Language = language_in c.args.language.now in
    let j : List ℕ = c.args.j.now in
    let o : Option Pattern = pattern_found c.args.asked in
    let ts : List Template = map template_of c.args.templates.now in
    let R : Binding → Answer (List Tree) → Type 0 = λ (b : Binding). Single (OutputList L C j o ts b) in
    let xs = c.args.bs.now in
    let i : ℕ = c.loop-binding.binding-index in
    let x = c.binding-item.result in
    let u : Tree = tree_of c.in_ok-t.t in
    let e : bindings_of (drop i xs) ≡ binding_of x ∷ bindings_of (drop (i + 1) xs) = rest_at binding_of xs i x c.loop-binding-test.true c.binding-item.is in
    error_handed_on passed terms_in (AskedIf L o u (not_contract j sides.Out u) Passes) (OutputLists L C j o ts (bindings_of xs))
    c.from_residual-in_err-ask.result _ c.from_residual-in_err-ask.ensures.1
    (λ f h. gathers-fault R (bindings_of xs) (binding_of x) _ _ (terms_in c.loop-binding.found) f e
    (stops (output-refused L C j o ts (binding_of x) u c.in_ok-t.ensures.answer f h)) c.loop-binding.invariant.answer)
    c.in_err-ask.ensures

pub output_lists-loop-binding-preserved : goal.calls::output_lists-loop-binding-preserved
output_lists-loop-binding-preserved g t c = record {
  answer = (let C : Calls = calls_in c.args.setting.now c.args.height in
      let L : Language = language_in c.args.language.now in
      let j : List ℕ = c.args.j.now in
      let o : Option Pattern = pattern_found c.args.asked in
      let ts : List Template = map template_of c.args.templates.now in
      let R : Binding → Answer (List Tree) → Type 0 = λ (b : Binding). Single (OutputList L C j o ts b) in
      let xs = c.args.bs.now in
      let i : ℕ = c.loop-binding.binding-index in
      let x = c.binding-item.result in
      let u : Tree = tree_of c.in_ok-t.t in
      let e : bindings_of (drop i xs) ≡ binding_of x ∷ bindings_of (drop (i + 1) xs) = rest_at binding_of xs i x c.loop-binding-test.true c.binding-item.is in
      let d : terms_in c.push.new.self ≡ terms_in c.loop-binding.found ++ u ∷ [] = grind (arith, common_steps) in
      gathers-next R (bindings_of xs) (binding_of x) _ _ (terms_in c.loop-binding.found) (u ∷ []) (terms_in c.push.new.self) e d
      (goes (output-allowed L C j o ts (binding_of x) u c.in_ok-t.ensures.answer c.in_ok-ask.ensures) refl) c.loop-binding.invariant.answer);
  kept = c.in_ok-t.ensures.kept;
}

pub output_lists-returns-clause-answer : goal.calls::output_lists-returns-clause-answer
output_lists-returns-clause-answer g t c =
    let C : Calls = calls_in c.args.setting.now c.args.height in
    let L : Language = language_in c.args.language.now in
    let j : List ℕ = c.args.j.now in
    let o : Option Pattern = pattern_found c.args.asked in
    let ts : List Template = map template_of c.args.templates.now in
    let xs = c.args.bs.now in
    gathers-end (λ (b : Binding). Single (OutputList L C j o ts b)) (bindings_of xs) _ (terms_in c.loop-binding.found)
    (rest_none binding_of xs c.loop-binding.binding-index c.loop-binding-test.false) c.loop-binding.invariant.answer
