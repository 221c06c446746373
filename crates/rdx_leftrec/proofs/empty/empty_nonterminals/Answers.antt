use Rattle.std.proofs.Common.{◌≡◌, ℕ, List, Bool, true, false, length, replicate, sym, ◌∙◌, ap, subst, arith}
use Rattle.std.proofs.lemmas.Grind.{common_steps}
use Rattle.std.specs.Prelude.{Result, Ok, Err, IfOk, Vec, not}
use Rattle.std.specs.declared.alloc.Global.{Global}
use Rattle.rdx_lang.specs.Empty.{TellsEmpty}
use Rattle.rdx_lang.specs.PatternView.{language_of}
use Rattle.rdx_lang.specs.Patterns.{Language}
use Rattle.rdx_lang.specs.WellFormed.{IsWellFormed, all_alternatives}
use Rattle.rdx_leftrec.specs.Inside.EmptyRules.{Rule, AreWithin, IsLeast, is_empty_alone, rules_of, language_rules, empty_by}
use Rattle.rdx_leftrec.proofs.EmptyRules.{rules-within, least-tells, none-tells}
use Rattle.rdx_leftrec.proofs.empty.empty_nonterminals.Goals as goal

-- least marks of the rules of a language tell which nonterminals are Empty
of_result : {F : Type 0} (L : Language) → IsWellFormed L → (rs : List Rule) (n : ℕ) (r : Result (Vec Bool Global) F) → rs ≡ language_rules L → n ≡ length L.nonterminals
    → IfOk r (λ v. IsLeast rs n v.items) → IfOk r (λ v. TellsEmpty L (empty_by L v.items))
of_result L w rs n (Ok v) e f h = least-tells L w v.items (subst (λ (m : ℕ). IsLeast (language_rules L) m v.items) f (subst (λ (qs : List Rule). IsLeast qs n v.items) e h))
of_result L w rs n (Err x) e f h = tt

pub least_marks-requires : goal.least_marks-requires
least_marks-requires c =
    let L : Language = language_of c.args.nonterminals.now.language.now in
    let e : rules_of c.deref.result.now ≡ language_rules L = ap rules_of c.deref.ensures.value ∙ c.in_ok-rules.ensures in
    let n : c.len-size.result ≡ length L.nonterminals = grind (arith, common_steps) in
    subst (λ (rs : List Rule). AreWithin rs c.len-size.result) (sym e) (subst (λ (m : ℕ). AreWithin (language_rules L) m) (sym n) (rules-within L c.requires))

pub returns : goal.returns
returns c =
    let L : Language = language_of c.args.nonterminals.now.language.now in
    let e : rules_of c.deref.result.now ≡ language_rules L = ap rules_of c.deref.ensures.value ∙ c.in_ok-rules.ensures in
    let n : c.len-size.result ≡ length L.nonterminals = grind (arith, common_steps) in
    of_result L c.requires (rules_of c.deref.result.now) c.len-size.result c.least_marks.result e n c.least_marks.ensures

-- where no alternative is Empty by itself, no marks do
of_none : {F : Type 0} (L : Language) (h : all_alternatives (λ p. not (is_empty_alone p)) L.nonterminals ≡ true) (n : ℕ) (r : Result (Vec Bool Global) F)
    → IfOk r (λ v. v.items ≡ replicate n false) → IfOk r (λ v. TellsEmpty L (empty_by L v.items))
of_none L h n (Ok v) e = subst (λ (marks : List Bool). TellsEmpty L (empty_by L marks)) (sym e) (none-tells L h n)
of_none L h n (Err x) e = tt

pub returns-then-has_no_empty_alternative : goal.returns-then-has_no_empty_alternative
returns-then-has_no_empty_alternative c =
    let L : Language = language_of c.args.nonterminals.now.language.now in
    of_none L (sym c.has_no_empty_alternative.ensures ∙ c.if-has_no_empty_alternative.true) c.len-size.result c.no_marks.result c.no_marks.ensures
