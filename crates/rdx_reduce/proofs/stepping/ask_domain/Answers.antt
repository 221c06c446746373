use Rattle.std.proofs.Common.{arith, ◌≡◌, ◌≤◌, List, Option, length, option_map, refl, sym, ap, subst}
use Rattle.std.proofs.lemmas.Grind.{common_steps}
use Rattle.rdx_term.specs.Tree.{Tree}
use Rattle.rdx_term.specs.View.{tree_of}
use Rattle.rdx_lang.specs.Bindings.{Binding}
use Rattle.rdx_lang.specs.Checked.{language_in, pattern_in}
use Rattle.rdx_lang.specs.Patterns.{Pattern, Language}
use Rattle.rdx_eval.specs.Answers.{Answer, value, fault, Fault, not_contract}
use Rattle.rdx_eval.specs.Asking.{AskedIf}
use Rattle.rdx_eval.specs.Views.{bindings_in}
use Rattle.rdx_eval.proofs.ContractLaws.{asked-nothing, asked-refused, asked-allowed}
use Rattle.rdx_reduce.proofs.stepping.ask_domain.Goals as goal

-- a value, and nothing else
abbrev Allowed : Answer (Unit {0}) → Type 0
Allowed r = r ≡ value tt

pub returns-in_default-clause-answer : goal.returns-in_default-clause-answer
returns-in_default-clause-answer g c =
    let t : Tree = tree_of c.args.t.now in
    asked-nothing (language_in c.args.language.now) (option_map pattern_in c.args.relation.now.domain) t
    (not_contract c.args.relation.now.name c.args.side t) Allowed (value tt) (ap (option_map pattern_in) c.in_default.is) refl

pub returns-then-is_empty-clause-answer : goal.returns-then-is_empty-clause-answer
returns-then-is_empty-clause-answer g c =
    let L : Language = language_in c.args.language.now in
    let t : Tree = tree_of c.args.t.now in
    let x = c.args.relation.now.name in
    let o : Option Pattern = option_map pattern_in c.args.relation.now.domain in
    let bad : Fault = not_contract x c.args.side t in
    let bs : List Binding = bindings_in c.in_ok-matches.field-0 in
    let n : length bs ≡ 0 = grind (arith, common_steps) in
    let e : not_contract c.in_ok-share.field-0 c.args.side (tree_of c.in_ok-share-2.field-0) ≡ bad =
    (λ i. not_contract (c.in_ok-share.ensures i) c.args.side (c.in_ok-share-2.ensures i)) in
    subst (λ (f : Fault). AskedIf L o t bad Allowed (fault f)) (sym e)
    (asked-refused L o (pattern_in c.in-Some.domain) t bad Allowed bs (ap (option_map pattern_in) c.in-Some.is) c.in_ok-matches.ensures.listing n)

pub returns-clause-answer : goal.returns-clause-answer
returns-clause-answer g c =
    let L : Language = language_in c.args.language.now in
    let t : Tree = tree_of c.args.t.now in
    let o : Option Pattern = option_map pattern_in c.args.relation.now.domain in
    let bad : Fault = not_contract c.args.relation.now.name c.args.side t in
    let bs : List Binding = bindings_in c.in_ok-matches.field-0 in
    let n : 1 ≤ length bs = grind (arith, common_steps) in
    asked-allowed L o (pattern_in c.in-Some.domain) t bad Allowed bs (value tt) (ap (option_map pattern_in) c.in-Some.is)
    c.in_ok-matches.ensures.listing n refl
