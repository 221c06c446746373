use Rattle.std.proofs.Common.{◌≡◌, ℕ, List, [], ◌∷◌, ◌++◌, length, map, sym, ◌∙◌, ap, subst, refl}
use Rattle.std.proofs.lemmas.Option.{slice_get-map, slice_get_read}
use Rattle.std.specs.Prelude.{Some, option_map, slice_get}
use Rattle.std.specs.Borrow.{Bor}
use Rattle.rdx_term.specs.Tree.{Tree}
use Rattle.rdx_term.specs.View.{tree_of}
use Rattle.rdx_lang.specs.Bindings.{Binding}
use Rattle.rdx_lang.specs.Checked.{language_in}
use Rattle.rdx_lang.specs.Members.{In}
use Rattle.rdx_lang.specs.Patterns.{Language}
use Rattle.rdx_lang.specs.ProgramView.{judgement_of, judgement_rule_of, program_of}
use Rattle.rdx_lang.specs.Programs as model
use Rattle.rdx_lang.specs.Programs.{judgement_named, language_named}
use Rattle.rdx_lang.specs.Shown.{binding_of}
use Rattle.rdx_lang.specs.declared.program.JRule.{JRule}
use Rattle.rdx_lang.specs.declared.program.Judgement.{Judgement}
use Rattle.rdx_lang.specs.declared.program.Program.{Program}
use Rattle.rdx_eval.specs.Languages.{language_found}
use Rattle.rdx_deriv.specs.DerivationView.{goal_of}
use Rattle.rdx_deriv.proofs.Sound.{placed-in}
use Rattle.rdx_why.specs.Explaining.{HasKnownRules}
use Rattle.rdx_why.specs.Inside.Ways.{AreRuleGoals, HasSurvivors, RuleHas, RuleMakes}
use Rattle.rdx_why.proofs.WaysLaws.{no_rule, none_holds, not_allowed, not_made, not_named, not_spoken, rule_here, rule_left, some_holds, step_from}
use Rattle.rdx_why.proofs.judging.step_judgement.Goals as goal

pub returns-in_default-clause-none : goal.returns-in_default-clause-none
returns-in_default-clause-none g c =
    let P = program_of c.args.engine.now.program.now in
    let j : List ℕ = c.args.j.now in
    let a : Tree = tree_of c.args.a.now in
    let o : Tree = tree_of c.args.o.now in
    not_named P j a o (sym c.in_ok-judgement.ensures.found ∙ ap (option_map (λ (x : Bor Judgement). judgement_of x.now)) c.in_default.is)

pub returns-in_default-2-clause-none : goal.returns-in_default-2-clause-none
returns-in_default-2-clause-none g c =
    let P = program_of c.args.engine.now.program.now in
    let j : List ℕ = c.args.j.now in
    let a : Tree = tree_of c.args.a.now in
    let o : Tree = tree_of c.args.o.now in
    let J : model.Judgement = judgement_of c.in-Some.judgement.now in
    let named : judgement_named P j ≡ Some J =
    sym c.in_ok-judgement.ensures.found ∙ ap (option_map (λ (x : Bor Judgement). judgement_of x.now)) c.in-Some.is in
    not_spoken P j a o J named
    (ap (λ (p : Program). language_named (program_of p) J.language) (sym (ap (λ (p : Bor Program). p.now) c.in_ok-judgement.ensures.same))
    ∙ sym c.in_ok-language.ensures.found ∙ ap language_found c.in_default-2.is)

pub returns-then-not-branch-clause-none : goal.returns-then-not-branch-clause-none
returns-then-not-branch-clause-none g c =
    let P = program_of c.args.engine.now.program.now in
    let j : List ℕ = c.args.j.now in
    let a : Tree = tree_of c.args.a.now in
    let o : Tree = tree_of c.args.o.now in
    let J : model.Judgement = judgement_of c.in-Some.judgement.now in
    let named : judgement_named P j ≡ Some J =
    sym c.in_ok-judgement.ensures.found ∙ ap (option_map (λ (x : Bor Judgement). judgement_of x.now)) c.in-Some.is in
    let L : Language = language_in c.in-Some-2.language.now in
    let spoken : language_named P J.language ≡ Some L =
    ap (λ (p : Program). language_named (program_of p) J.language) (sym (ap (λ (p : Bor Program). p.now) c.in_ok-judgement.ensures.same))
    ∙ sym c.in_ok-language.ensures.found ∙ ap language_found c.in-Some-2.is in
    not_allowed P j a o J named L spoken (not_made c.in_ok-allows.ensures.allows c.if-not-branch.true)

pub first_rule-requires-clause-spoken : goal.first_rule-requires-clause-spoken
first_rule-requires-clause-spoken g c =
    let P = program_of c.args.engine.now.program.now in
    let j : List ℕ = c.args.j.now in
    let a : Tree = tree_of c.args.a.now in
    let o : Tree = tree_of c.args.o.now in
    let J : model.Judgement = judgement_of c.in-Some.judgement.now in
    let named : judgement_named P j ≡ Some J =
    sym c.in_ok-judgement.ensures.found ∙ ap (option_map (λ (x : Bor Judgement). judgement_of x.now)) c.in-Some.is in
    let L : Language = language_in c.in-Some-2.language.now in
    let spoken : language_named P J.language ≡ Some L =
    ap (λ (p : Program). language_named (program_of p) J.language) (sym (ap (λ (p : Bor Program). p.now) c.in_ok-judgement.ensures.same))
    ∙ sym c.in_ok-language.ensures.found ∙ ap language_found c.in-Some-2.is in
    let p : Program = c.program-program.result.now in
    let e : p ≡ c.args.engine.now.program.now = c.program-program.ensures in
    subst (λ (q : Program). language_named (program_of q) J.language ≡ Some L) (sym e) spoken

pub first_rule-requires-clause-ends : goal.first_rule-requires-clause-ends
first_rule-requires-clause-ends g c = c.requires.ends ∙ sym c.program-program.ensures

pub first_rule-requires-clause-rules : goal.first_rule-requires-clause-rules
first_rule-requires-clause-rules g c =
    let P = program_of c.args.engine.now.program.now in
    let j : List ℕ = c.args.j.now in
    let J : model.Judgement = judgement_of c.in-Some.judgement.now in
    let named : judgement_named P j ≡ Some J =
    sym c.in_ok-judgement.ensures.found ∙ ap (option_map (λ (x : Bor Judgement). judgement_of x.now)) c.in-Some.is in
    let L : Language = language_in c.in-Some-2.language.now in
    let spoken : language_named P J.language ≡ Some L =
    ap (λ (p : Program). language_named (program_of p) J.language) (sym (ap (λ (p : Bor Program). p.now) c.in_ok-judgement.ensures.same))
    ∙ sym c.in_ok-language.ensures.found ∙ ap language_found c.in-Some-2.is in
    let p : Program = c.program-program.result.now in
    let e : p ≡ c.args.engine.now.program.now = c.program-program.ensures in
    record {
      judgement = J;
      named = subst (λ (q : Program). judgement_named (program_of q) j ≡ Some J) (sym e) named;
      spoken = subst (λ (q : Program). language_named (program_of q) J.language ≡ Some L) (sym e) spoken;
      rules = sym (ap (λ (xs : List JRule). map judgement_rule_of xs) c.as_slice-rules.ensures.value);
    }

pub first_rule-requires-clause-left : goal.first_rule-requires-clause-left
first_rule-requires-clause-left g c =
    let P = program_of c.args.engine.now.program.now in
    let j : List ℕ = c.args.j.now in
    let a : Tree = tree_of c.args.a.now in
    let o : Tree = tree_of c.args.o.now in
    let J : model.Judgement = judgement_of c.in-Some.judgement.now in
    let named : judgement_named P j ≡ Some J =
    sym c.in_ok-judgement.ensures.found ∙ ap (option_map (λ (x : Bor Judgement). judgement_of x.now)) c.in-Some.is in
    let L : Language = language_in c.in-Some-2.language.now in
    let spoken : language_named P J.language ≡ Some L =
    ap (λ (p : Program). language_named (program_of p) J.language) (sym (ap (λ (p : Bor Program). p.now) c.in_ok-judgement.ensures.same))
    ∙ sym c.in_ok-language.ensures.found ∙ ap language_found c.in-Some-2.is in
    let p : Program = c.program-program.result.now in
    let e : p ≡ c.args.engine.now.program.now = c.program-program.ensures in
    let rs = map judgement_rule_of c.as_slice-rules.result.now in
    let all : rs ≡ J.rules = ap (λ (xs : List JRule). map judgement_rule_of xs) c.as_slice-rules.ensures.value in
    λ x i. subst (λ (q : Program). HasSurvivors (program_of q) L x a) (sym e)
    (rule_left P j a J named L spoken x (subst (λ (xs : List model.JudgementRule). In x xs) all i) c.requires.outputs)

pub returns-in_default-3-clause-none : goal.returns-in_default-3-clause-none
returns-in_default-3-clause-none g c =
    let P = program_of c.args.engine.now.program.now in
    let j : List ℕ = c.args.j.now in
    let a : Tree = tree_of c.args.a.now in
    let o : Tree = tree_of c.args.o.now in
    let J : model.Judgement = judgement_of c.in-Some.judgement.now in
    let named : judgement_named P j ≡ Some J =
    sym c.in_ok-judgement.ensures.found ∙ ap (option_map (λ (x : Bor Judgement). judgement_of x.now)) c.in-Some.is in
    let L : Language = language_in c.in-Some-2.language.now in
    let spoken : language_named P J.language ≡ Some L =
    ap (λ (p : Program). language_named (program_of p) J.language) (sym (ap (λ (p : Bor Program). p.now) c.in_ok-judgement.ensures.same))
    ∙ sym c.in_ok-language.ensures.found ∙ ap language_found c.in-Some-2.is in
    let p : Program = c.program-program.result.now in
    let e : p ≡ c.args.engine.now.program.now = c.program-program.ensures in
    let rs = map judgement_rule_of c.as_slice-rules.result.now in
    let all : rs ≡ J.rules = ap (λ (xs : List JRule). map judgement_rule_of xs) c.as_slice-rules.ensures.value in
    no_rule P j a o J named L spoken rs all
    (subst (λ (q : Program). (x : model.JudgementRule) → In x rs → RuleHas (program_of q) L x a o → ⊥) e
    (none_holds c.in_ok-last.field-0 c.in_default-3.is c.in_ok-last.ensures.none))

pub rule_goals-requires-clause-spoken : goal.rule_goals-requires-clause-spoken
rule_goals-requires-clause-spoken g c =
    let P = program_of c.args.engine.now.program.now in
    let j : List ℕ = c.args.j.now in
    let a : Tree = tree_of c.args.a.now in
    let o : Tree = tree_of c.args.o.now in
    let J : model.Judgement = judgement_of c.in-Some.judgement.now in
    let named : judgement_named P j ≡ Some J =
    sym c.in_ok-judgement.ensures.found ∙ ap (option_map (λ (x : Bor Judgement). judgement_of x.now)) c.in-Some.is in
    let L : Language = language_in c.in-Some-2.language.now in
    let spoken : language_named P J.language ≡ Some L =
    ap (λ (p : Program). language_named (program_of p) J.language) (sym (ap (λ (p : Bor Program). p.now) c.in_ok-judgement.ensures.same))
    ∙ sym c.in_ok-language.ensures.found ∙ ap language_found c.in-Some-2.is in
    let p : Program = c.program-program.result.now in
    let e : p ≡ c.args.engine.now.program.now = c.program-program.ensures in
    subst (λ (q : Program). language_named (program_of q) J.language ≡ Some L) (sym e) spoken

pub rule_goals-requires-clause-rules : goal.rule_goals-requires-clause-rules
rule_goals-requires-clause-rules g c =
    subst (λ (q : Program). HasKnownRules (program_of q)) (sym c.program-program.ensures) c.requires.known

pub rule_goals-requires-clause-known : goal.rule_goals-requires-clause-known
rule_goals-requires-clause-known g c =
    let P = program_of c.args.engine.now.program.now in
    let j : List ℕ = c.args.j.now in
    let a : Tree = tree_of c.args.a.now in
    let o : Tree = tree_of c.args.o.now in
    let J : model.Judgement = judgement_of c.in-Some.judgement.now in
    let named : judgement_named P j ≡ Some J =
    sym c.in_ok-judgement.ensures.found ∙ ap (option_map (λ (x : Bor Judgement). judgement_of x.now)) c.in-Some.is in
    let L : Language = language_in c.in-Some-2.language.now in
    let spoken : language_named P J.language ≡ Some L =
    ap (λ (p : Program). language_named (program_of p) J.language) (sym (ap (λ (p : Bor Program). p.now) c.in_ok-judgement.ensures.same))
    ∙ sym c.in_ok-language.ensures.found ∙ ap language_found c.in-Some-2.is in
    let p : Program = c.program-program.result.now in
    let e : p ≡ c.args.engine.now.program.now = c.program-program.ensures in
    let rs = map judgement_rule_of c.as_slice-rules.result.now in
    let all : rs ≡ J.rules = ap (λ (xs : List JRule). map judgement_rule_of xs) c.as_slice-rules.ensures.value in
    let h = some_holds _ _ _ c.in-Some-3.is c.in_ok-last.ensures.some in
    let n : ℕ = c.in-Some-3.last.place in
    let C : Binding = binding_of c.in-Some-3.last.binding in
    let x = c.index-rules-last.result in
    let r : model.JudgementRule = judgement_rule_of x in
    let xs = c.as_slice-rules.result.now in
    let there : slice_get rs n ≡ Some r =
    slice_get-map judgement_rule_of xs n ∙ ap (option_map judgement_rule_of) (slice_get_read xs (length xs) n x refl h.0 c.index-rules-last.is) in
    let at : slice_get J.rules n ≡ Some r = subst (λ (ys : List model.JudgementRule). slice_get ys n ≡ Some r) all there in
    let makes : RuleMakes (program_of p) L r a o C = rule_here (program_of p) L rs a o n C h.1 r there in
    c.requires.known j J L named spoken r (placed-in J.rules n r at)

pub rule_goals-requires-clause-way : goal.rule_goals-requires-clause-way
rule_goals-requires-clause-way g c =
    let P = program_of c.args.engine.now.program.now in
    let j : List ℕ = c.args.j.now in
    let a : Tree = tree_of c.args.a.now in
    let o : Tree = tree_of c.args.o.now in
    let J : model.Judgement = judgement_of c.in-Some.judgement.now in
    let named : judgement_named P j ≡ Some J =
    sym c.in_ok-judgement.ensures.found ∙ ap (option_map (λ (x : Bor Judgement). judgement_of x.now)) c.in-Some.is in
    let L : Language = language_in c.in-Some-2.language.now in
    let p : Program = c.program-program.result.now in
    let e : p ≡ c.args.engine.now.program.now = c.program-program.ensures in
    let rs = map judgement_rule_of c.as_slice-rules.result.now in
    let all : rs ≡ J.rules = ap (λ (xs : List JRule). map judgement_rule_of xs) c.as_slice-rules.ensures.value in
    let h = some_holds _ _ _ c.in-Some-3.is c.in_ok-last.ensures.some in
    let n : ℕ = c.in-Some-3.last.place in
    let C : Binding = binding_of c.in-Some-3.last.binding in
    let x = c.index-rules-last.result in
    let r : model.JudgementRule = judgement_rule_of x in
    let xs = c.as_slice-rules.result.now in
    let there : slice_get rs n ≡ Some r =
    slice_get-map judgement_rule_of xs n ∙ ap (option_map judgement_rule_of) (slice_get_read xs (length xs) n x refl h.0 c.index-rules-last.is) in
    let at : slice_get J.rules n ≡ Some r = subst (λ (ys : List model.JudgementRule). slice_get ys n ≡ Some r) all there in
    let makes : RuleMakes (program_of p) L r a o C = rule_here (program_of p) L rs a o n C h.1 r there in
    makes.way

pub returns-clause-some : goal.returns-clause-some
returns-clause-some g c =
    let P = program_of c.args.engine.now.program.now in
    let j : List ℕ = c.args.j.now in
    let a : Tree = tree_of c.args.a.now in
    let o : Tree = tree_of c.args.o.now in
    let J : model.Judgement = judgement_of c.in-Some.judgement.now in
    let named : judgement_named P j ≡ Some J =
    sym c.in_ok-judgement.ensures.found ∙ ap (option_map (λ (x : Bor Judgement). judgement_of x.now)) c.in-Some.is in
    let L : Language = language_in c.in-Some-2.language.now in
    let spoken : language_named P J.language ≡ Some L =
    ap (λ (p : Program). language_named (program_of p) J.language) (sym (ap (λ (p : Bor Program). p.now) c.in_ok-judgement.ensures.same))
    ∙ sym c.in_ok-language.ensures.found ∙ ap language_found c.in-Some-2.is in
    let p : Program = c.program-program.result.now in
    let e : p ≡ c.args.engine.now.program.now = c.program-program.ensures in
    let rs = map judgement_rule_of c.as_slice-rules.result.now in
    let all : rs ≡ J.rules = ap (λ (xs : List JRule). map judgement_rule_of xs) c.as_slice-rules.ensures.value in
    let h = some_holds _ _ _ c.in-Some-3.is c.in_ok-last.ensures.some in
    let n : ℕ = c.in-Some-3.last.place in
    let C : Binding = binding_of c.in-Some-3.last.binding in
    let x = c.index-rules-last.result in
    let r : model.JudgementRule = judgement_rule_of x in
    let xs = c.as_slice-rules.result.now in
    let there : slice_get rs n ≡ Some r =
    slice_get-map judgement_rule_of xs n ∙ ap (option_map judgement_rule_of) (slice_get_read xs (length xs) n x refl h.0 c.index-rules-last.is) in
    let at : slice_get J.rules n ≡ Some r = subst (λ (ys : List model.JudgementRule). slice_get ys n ≡ Some r) all there in
    let makes : RuleMakes (program_of p) L r a o C = rule_here (program_of p) L rs a o n C h.1 r there in
    step_from P j a o J L named spoken (c.in_ok-allows.ensures.allows.0 c.if-not-branch.false) n C r at
    (subst (λ (q : Program). RuleMakes (program_of q) L r a o C) e makes) _
    (c.in_ok-push.ensures.items ∙ ap (λ (ks : List ℕ). ks ++ n ∷ []) c.new-choice.ensures.items)
    (subst (λ (q : Program). AreRuleGoals (program_of q) J.language r a C (map goal_of c.in_ok-under.under.items)) e c.in_ok-under.ensures.goals)
