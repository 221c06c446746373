-- What extras and premises make of bindings.
use Rattle.std.proofs.Common.{arith, ◌≡◌, ℕ, ◌+◌, List, [], ◌∷◌, ◌++◌, drop, take, map, ap, sym, subst}
use Rattle.std.proofs.lemmas.Grind.{common_steps}
use Rattle.std.specs.Prelude.{Vec}
use Rattle.std.specs.declared.alloc.Global.{Global}
use Rattle.rdx_term.specs.Tree.{Tree}
use Rattle.rdx_term.specs.View.{tree_of}
use Rattle.rdx_term.specs.declared.term.Term as code_term
use Rattle.rdx_lang.specs.Bindings.{Binding}
use Rattle.rdx_lang.specs.Checked.{language_in, pattern_in}
use Rattle.rdx_lang.specs.Patterns.{Language}
use Rattle.rdx_lang.specs.ProgramView.{extra_of, extras_of, premise_of}
use Rattle.rdx_lang.specs.Programs.{Extra, Premise, such_as, provided, holds}
use Rattle.rdx_lang.specs.Shown.{binding_of, bindings_of}
use Rattle.rdx_lang.specs.Templates.{Host, Template}
use Rattle.rdx_lang.specs.TemplateView.{template_of, host_of}
use Rattle.rdx_lang.specs.declared.binding.Binding as code_binding
use Rattle.rdx_lang.specs.declared.template.Template as code_template
use Rattle.rdx_lang.proofs.Rest.{rest_at}
use Rattle.rdx_bind.proofs.Prefixes.{taken_next}
use Rattle.rdx_eval.specs.Answers.{Answer, value, fault, stops, goes, Gather, lists}
use Rattle.rdx_eval.specs.Calls.{Calls}
use Rattle.rdx_eval.specs.Extending.{By, ByEach, ByPremise, Extend, MatchedEach, Survivors}
use Rattle.rdx_eval.specs.Fresh.{Avoided, avoiding}
use Rattle.rdx_eval.specs.Inside.Extras.{WhereOne, SideOne, behind_all}
use Rattle.rdx_eval.specs.Inside.Scopes.{calls_in}
use Rattle.rdx_eval.specs.Instantiation.{HostMakes, Makes, MakeList}
use Rattle.rdx_eval.specs.Views.{terms_in, bindings_in}
use Rattle.rdx_eval.proofs.ExtraAfterExtra.{extends-next, extends-fault}
use Rattle.rdx_eval.proofs.GatheredLoops.{used_up-next, used_up-end, used_up-error}
use Rattle.rdx_eval.proofs.HandedOn.{handed_on, error_handed_on}
use Rattle.rdx_eval.proofs.evaluation.+evaluation.Goals as goal
use Rattle.rdx_eval.proofs.evaluation.+evaluation.Goals.{extras::by_each-in-Where+in_ok-found-in-Where, extras::by_each-in-Side+in_ok-found-in-Side, extras::by_each-in-Holds+in_ok-found-in-Holds, extras::by_each-in-Fresh+in_ok-found-in-Fresh}

-- ---- extras

pub survivors-returns-clause-answer : goal.extras::survivors-returns-clause-answer
survivors-returns-clause-answer g t c =
    let C : Calls = calls_in c.args.setting.now c.args.height in
    let L : Language = language_in c.args.language.now in
    let w : Tree = tree_of c.args.t.now in
    let es = extras_of c.args.extras.now in
    handed_on bindings_in (Extend L C (avoiding w) es (bindings_in c.in_ok-found.found)) (Survivors L C w (pattern_in c.args.pat.now) es) c.extend.result
    (λ q h. goes (lists c.in_ok-found.ensures) h) c.extend.ensures.answer

pub extend-returns-in_err-bs-clause-answer : goal.extras::extend-returns-in_err-bs-clause-answer
extend-returns-in_err-bs-clause-answer g t c =
    let C : Calls = calls_in c.args.setting.now c.args.height in
    let L : Language = language_in c.args.language.now in
    let a : Avoided = avoiding (tree_of c.args.whole.now) in
    let xs = c.args.extras.now in
    let i : ℕ = c.loop-i.i in
    let x = c.index-extras-i.result in
    let done : List Extra = extras_of (take i xs) in
    let e : extras_of (drop i xs) ≡ extra_of x ∷ extras_of (drop (i + 1) xs) = rest_at extra_of xs i x c.loop-i-test.true c.index-extras-i.is in
    error_handed_on bindings_in bindings_in (ByEach L C (behind_all a done) (extra_of x) (bindings_in c.loop-i.bs))
    (Extend L C a (extras_of xs) (bindings_in c.args.found)) c.from_residual.result _ c.from_residual.ensures.1
    (λ f h. extends-fault L C a (extras_of xs) (bindings_in c.args.found) done _ (bindings_in c.loop-i.bs) (extra_of x) _ e f h
    c.loop-i.invariant.answer)
    c.in_err-bs.ensures.answer

pub extend-loop-i-preserved : goal.extras::extend-loop-i-preserved
extend-loop-i-preserved g t c = record {
  answer = (let C : Calls = calls_in c.args.setting.now c.args.height in
      let L : Language = language_in c.args.language.now in
      let a : Avoided = avoiding (tree_of c.args.whole.now) in
      let xs = c.args.extras.now in
      let i : ℕ = c.loop-i.i in
      let x = c.index-extras-i.result in
      let done : List Extra = extras_of (take i xs) in
      let cs : List Binding = bindings_in c.in_ok-bs.bs in
      let e : extras_of (drop i xs) ≡ extra_of x ∷ extras_of (drop (i + 1) xs) = rest_at extra_of xs i x c.loop-i-test.true c.index-extras-i.is in
      let d : extras_of (take (i + 1) xs) ≡ done ++ extra_of x ∷ [] = taken_next extra_of xs i x c.loop-i-test.true c.index-extras-i.is in
      extends-next L C a (extras_of xs) (bindings_in c.args.found) done _ (bindings_in c.loop-i.bs) (extra_of x) _ e (extras_of (take (i + 1) xs)) d cs c.in_ok-bs.ensures.answer
      c.loop-i.invariant.answer);
  kept = c.in_ok-bs.ensures.kept;
}

-- what is gathered of one form of extras is what is gathered of the extra that has it
gathered_by : (R : Extra → List code_binding.Binding → Type 0) {e d : Extra} {found ds : Vec code_binding.Binding Global} → e ≡ d → found ≡ ds
    → R d ds.items → R e found.items
gathered_by R {e} {d} {found} {ds} p q h =
    subst (λ (x : Extra). R x found.items) (sym p) (subst (λ (vs : Vec code_binding.Binding Global). R d vs.items) (sym q) h)

pub by_each-returns-in_err-found-in-Where-clause-answer : goal.extras::by_each-returns-in_err-found-in-Where-clause-answer
by_each-returns-in_err-found-in-Where-clause-answer g t c =
    let C : Calls = calls_in c.args.setting.now c.args.height in
    let L : Language = language_in c.args.language.now in
    let a : Avoided = behind_all (avoiding (tree_of c.args.whole.now)) (extras_of c.args.earlier.now) in
    let bs : List Binding = bindings_in c.args.bs in
    let e : extra_of c.args.extra.now ≡ such_as (pattern_in c.in-Where.pat) (template_of c.in-Where.template) = ap extra_of c.in-Where.is in
    error_handed_on bindings_in bindings_in (Gather (WhereOne L C (pattern_in c.in-Where.pat) (template_of c.in-Where.template)) bs)
    (ByEach L C a (extra_of c.args.extra.now) bs) c.from_residual.result _ c.from_residual.ensures.1
    (λ f h. stops (subst (λ (x : Extra). Gather (By L C a x) bs (fault f)) (sym e) h)) c.in_err-found-in-Where.ensures.answer

pub by_each-returns-in_err-found-in-Side-clause-answer : goal.extras::by_each-returns-in_err-found-in-Side-clause-answer
by_each-returns-in_err-found-in-Side-clause-answer g t c =
    let C : Calls = calls_in c.args.setting.now c.args.height in
    let L : Language = language_in c.args.language.now in
    let a : Avoided = behind_all (avoiding (tree_of c.args.whole.now)) (extras_of c.args.earlier.now) in
    let bs : List Binding = bindings_in c.args.bs in
    let e : extra_of c.args.extra.now ≡ provided (host_of c.in-Side.h) = ap extra_of c.in-Side.is in
    error_handed_on bindings_in bindings_in (Gather (SideOne C (host_of c.in-Side.h)) bs)
    (ByEach L C a (extra_of c.args.extra.now) bs) c.from_residual-in_err-found-in-Side.result _ c.from_residual-in_err-found-in-Side.ensures.1
    (λ f h. stops (subst (λ (x : Extra). Gather (By L C a x) bs (fault f)) (sym e) h)) c.in_err-found-in-Side.ensures.answer

pub by_each-returns-in_err-found-in-Holds-clause-answer : goal.extras::by_each-returns-in_err-found-in-Holds-clause-answer
by_each-returns-in_err-found-in-Holds-clause-answer g t c =
    let C : Calls = calls_in c.args.setting.now c.args.height in
    let L : Language = language_in c.args.language.now in
    let a : Avoided = behind_all (avoiding (tree_of c.args.whole.now)) (extras_of c.args.earlier.now) in
    let bs : List Binding = bindings_in c.args.bs in
    let e : extra_of c.args.extra.now ≡ holds (premise_of c.in-Holds.premise) = ap extra_of c.in-Holds.is in
    error_handed_on bindings_in bindings_in (Gather (ByPremise L C (premise_of c.in-Holds.premise)) bs)
    (ByEach L C a (extra_of c.args.extra.now) bs) c.from_residual-in_err-found-in-Holds.result _ c.from_residual-in_err-found-in-Holds.ensures.1
    (λ f h. stops (subst (λ (x : Extra). Gather (By L C a x) bs (fault f)) (sym e) h)) c.in_err-found-in-Holds.ensures.answer

pub by_each-returns-clause-answer : goal.extras::by_each-returns-clause-answer
by_each-returns-clause-answer g t c =
    let C : Calls = calls_in c.args.setting.now c.args.height in
    let L : Language = language_in c.args.language.now in
    let a : Avoided = behind_all (avoiding (tree_of c.args.whole.now)) (extras_of c.args.earlier.now) in
    let bs : List Binding = bindings_in c.args.bs in
    let R : Extra → List code_binding.Binding → Type 0 = λ e ds. Gather (By L C a e) bs (value (bindings_of ds)) in
    let h : R (extra_of c.args.extra.now) c.match-extra.found.items =
    elim c.match-extra.branch [
      | extras::by_each-in-Where+in_ok-found-in-Where w ↦
          gathered_by R (ap extra_of w.in-Where.is) w.found-is w.in_ok-found-in-Where.ensures.answer
      | extras::by_each-in-Side+in_ok-found-in-Side w ↦
          gathered_by R (ap extra_of w.in-Side.is) w.found-is w.in_ok-found-in-Side.ensures.answer
      | extras::by_each-in-Holds+in_ok-found-in-Holds w ↦
          gathered_by R (ap extra_of w.in-Holds.is) w.found-is w.in_ok-found-in-Holds.ensures.answer
      | extras::by_each-in-Fresh+in_ok-found-in-Fresh w ↦
          gathered_by R (ap extra_of w.in-Fresh.is) w.found-is w.in_ok-found-in-Fresh.ensures
    ] in
    goes h (lists c.in_ok-listed_bindings.ensures)

-- ---- extras of one kind, over all bindings

pub where_each-returns-in_err-t-clause-answer : goal.extras::where_each-returns-in_err-t-clause-answer
where_each-returns-in_err-t-clause-answer g t c =
    let C : Calls = calls_in c.args.setting.now c.args.height in
    let p : Template = template_of c.args.template.now in
    let x = c.in-Some.binding in
    used_up-error binding_of (WhereOne (language_in c.args.language.now) C (pattern_in c.args.pat.now) p) c.args.bs.items _
    (bindings_in c.loop-binding.found) c.loop-binding.invariant.answer x _ c.in-Some.ensures.steps.0 tree_of bindings_in (Makes C (binding_of x) p)
    c.from_residual.result _ c.from_residual.ensures.1 (λ f k. stops k) c.in_err-t.ensures.answer

pub where_each-loop-binding-preserved : goal.extras::where_each-loop-binding-preserved
where_each-loop-binding-preserved g t c = record {
  answer = (let R : Binding → Answer (List Binding) → Type 0 =
      WhereOne (language_in c.args.language.now) (calls_in c.args.setting.now c.args.height) (pattern_in c.args.pat.now) (template_of c.args.template.now) in
      let d : bindings_in c.append.new.self ≡ bindings_in c.loop-binding.found ++ bindings_in c.in_ok-more.more = grind (arith, common_steps) in
      used_up-next binding_of R c.args.bs.items _ (bindings_in c.loop-binding.found) c.loop-binding.invariant.answer c.in-Some.binding _
      c.in-Some.ensures.steps.0 (bindings_in c.in_ok-more.more) (bindings_in c.append.new.self) d (goes c.in_ok-t.ensures.answer c.in_ok-more.ensures));
  kept = c.in_ok-t.ensures.kept;
}

pub where_each-returns-clause-answer : goal.extras::where_each-returns-clause-answer
where_each-returns-clause-answer g t c =
    let e : c.loop-binding.binding-iterator.rest.items ≡ [] = grind (arith, common_steps) in
    used_up-end binding_of
    (WhereOne (language_in c.args.language.now) (calls_in c.args.setting.now c.args.height) (pattern_in c.args.pat.now) (template_of c.args.template.now))
    c.args.bs.items _ (bindings_in c.loop-binding.found) c.loop-binding.invariant.answer e

pub side_each-returns-in_err-t-clause-answer : goal.extras::side_each-returns-in_err-t-clause-answer
side_each-returns-in_err-t-clause-answer g t c =
    let C : Calls = calls_in c.args.setting.now c.args.height in
    let h : Host = host_of c.args.h.now in
    let x = c.in-Some.binding in
    used_up-error binding_of (SideOne C h) c.args.bs.items _ (bindings_in c.loop-binding.found) c.loop-binding.invariant.answer x _
    c.in-Some.ensures.steps.0 tree_of bindings_in (HostMakes C (binding_of x) h) c.from_residual.result _
    c.from_residual.ensures.1 (λ f k. stops k) c.in_err-t.ensures.answer

pub side_each-loop-binding-preserved : goal.extras::side_each-loop-binding-preserved
side_each-loop-binding-preserved g t c = record {
  answer = (let d : bindings_in c.append.new.self ≡ bindings_in c.loop-binding.found ++ bindings_in c.in_ok-more.more = grind (arith, common_steps) in
      used_up-next binding_of (SideOne (calls_in c.args.setting.now c.args.height) (host_of c.args.h.now)) c.args.bs.items _
      (bindings_in c.loop-binding.found) c.loop-binding.invariant.answer c.in-Some.binding _ c.in-Some.ensures.steps.0 (bindings_in c.in_ok-more.more)
      (bindings_in c.append.new.self) d (goes c.in_ok-t.ensures.answer (ap value c.in_ok-more.ensures)));
  kept = c.in_ok-t.ensures.kept;
}

pub side_each-returns-clause-answer : goal.extras::side_each-returns-clause-answer
side_each-returns-clause-answer g t c =
    let e : c.loop-binding.binding-iterator.rest.items ≡ [] = grind (arith, common_steps) in
    used_up-end binding_of (SideOne (calls_in c.args.setting.now c.args.height) (host_of c.args.h.now)) c.args.bs.items _
    (bindings_in c.loop-binding.found) c.loop-binding.invariant.answer e

pub premise_each-returns-in_err-more-clause-answer : goal.extras::premise_each-returns-in_err-more-clause-answer
premise_each-returns-in_err-more-clause-answer g t c =
    let R : Binding → Answer (List Binding) → Type 0 =
    ByPremise (language_in c.args.language.now) (calls_in c.args.setting.now c.args.height) (premise_of c.args.premise.now) in
    let x = c.in-Some.b in
    used_up-error binding_of R c.args.bs.items _ (bindings_in c.loop-b.found) c.loop-b.invariant.answer x _ c.in-Some.ensures.steps.0
    bindings_in bindings_in (R (binding_of x)) c.from_residual.result _ c.from_residual.ensures.1 (λ f k. k)
    c.in_err-more.ensures.answer

pub premise_each-loop-b-preserved : goal.extras::premise_each-loop-b-preserved
premise_each-loop-b-preserved g t c = record {
  answer = (let R : Binding → Answer (List Binding) → Type 0 =
      ByPremise (language_in c.args.language.now) (calls_in c.args.setting.now c.args.height) (premise_of c.args.premise.now) in
      let d : bindings_in c.append.new.self ≡ bindings_in c.loop-b.found ++ bindings_in c.in_ok-more.more = grind (arith, common_steps) in
      used_up-next binding_of R c.args.bs.items _ (bindings_in c.loop-b.found) c.loop-b.invariant.answer c.in-Some.b _ c.in-Some.ensures.steps.0
      (bindings_in c.in_ok-more.more) (bindings_in c.append.new.self) d c.in_ok-more.ensures.answer);
  kept = c.in_ok-more.ensures.kept;
}

pub premise_each-returns-clause-answer : goal.extras::premise_each-returns-clause-answer
premise_each-returns-clause-answer g t c =
    let e : c.loop-b.b-iterator.rest.items ≡ [] = grind (arith, common_steps) in
    used_up-end binding_of
    (ByPremise (language_in c.args.language.now) (calls_in c.args.setting.now c.args.height) (premise_of c.args.premise.now))
    c.args.bs.items _ (bindings_in c.loop-b.found) c.loop-b.invariant.answer e

-- ---- premises

pub by_premise-returns-in_err-ins-clause-answer : goal.extras::by_premise-returns-in_err-ins-clause-answer
by_premise-returns-in_err-ins-clause-answer g t c =
    let C : Calls = calls_in c.args.setting.now c.args.height in
    let L : Language = language_in c.args.language.now in
    let q : Premise = premise_of c.args.premise.now in
    let b : Binding = binding_of c.args.b in
    error_handed_on tree_of bindings_in (MakeList C b (map template_of c.deref.result.now)) (ByPremise L C q b)
    c.from_residual.result _ c.from_residual.ensures.1
    (λ f h. stops (stops (subst (λ (ts : List code_template.Template). MakeList C b (map template_of ts) (fault f)) c.deref.ensures.value h)))
    c.in_err-ins.ensures.answer

pub by_premise-returns-in_err-found-clause-answer : goal.extras::by_premise-returns-in_err-found-clause-answer
by_premise-returns-in_err-found-clause-answer g t c =
    let C : Calls = calls_in c.args.setting.now c.args.height in
    let L : Language = language_in c.args.language.now in
    let q : Premise = premise_of c.args.premise.now in
    let b : Binding = binding_of c.args.b in
    let u : Tree = tree_of c.in_ok-ins.ins in
    let m : MakeList C b q.inputs (value u) =
    subst (λ (ts : List code_template.Template). MakeList C b (map template_of ts) (value u)) c.deref.ensures.value c.in_ok-ins.ensures.answer in
    error_handed_on terms_in bindings_in (C.outputs_of q.judgement u) (ByPremise L C q b)
    c.from_residual-in_err-found.result _ c.from_residual-in_err-found.ensures.1 (λ f h. stops (goes m h)) c.in_err-found.ensures.answer

pub by_premise-returns-clause-answer : goal.extras::by_premise-returns-clause-answer
by_premise-returns-clause-answer g t c =
    let C : Calls = calls_in c.args.setting.now c.args.height in
    let L : Language = language_in c.args.language.now in
    let q : Premise = premise_of c.args.premise.now in
    let b : Binding = binding_of c.args.b in
    let u : Tree = tree_of c.in_ok-ins.ins in
    let bs : List Binding = bindings_in c.in_ok-matched_each.field-0 in
    let m : MakeList C b q.inputs (value u) =
    subst (λ (ts : List code_template.Template). MakeList C b (map template_of ts) (value u)) c.deref.ensures.value c.in_ok-ins.ensures.answer in
    goes (goes m c.in_ok-found.ensures.answer)
    (subst (λ (ts : List code_term.Term). MatchedEach L q.outputs b (map tree_of ts) (value bs)) c.deref-2.ensures.value c.in_ok-matched_each.ensures)
