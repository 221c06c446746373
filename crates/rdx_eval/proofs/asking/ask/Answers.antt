use Rattle.std.proofs.Common.{arith, ◌≡◌, ◌≤◌, true, List, Option, length, refl, ap}
use Rattle.std.proofs.lemmas.Grind.{common_steps}
use Rattle.rdx_term.specs.Tree.{Tree}
use Rattle.rdx_term.specs.View.{tree_of}
use Rattle.rdx_lang.specs.Bindings.{Binding}
use Rattle.rdx_lang.specs.Checked.{language_in, pattern_in, ranks_in}
use Rattle.rdx_lang.specs.Patterns.{Pattern, Language}
use Rattle.rdx_lang.proofs.RankLaws.{ranked_is_free}
use Rattle.rdx_eval.specs.Answers.{value, Fault, not_contract}
use Rattle.rdx_eval.specs.Asking.{AskedIf}
use Rattle.rdx_eval.specs.Inside.Asked.{Passes, passed, pattern_found, takes_all}
use Rattle.rdx_eval.specs.Views.{bindings_in}
use Rattle.rdx_eval.proofs.ContractLaws.{asked-nothing, asked-refused, asked-allowed}
use Rattle.rdx_eval.proofs.TakingAll.{all_taken, asked-known}
use Rattle.rdx_eval.proofs.HandedOn.{stops_for}
use Rattle.rdx_eval.proofs.asking.ask.Goals as goal

pub returns-in_default : goal.returns-in_default
returns-in_default g c =
    let t : Tree = tree_of c.args.t.now in
    asked-nothing (language_in c.args.language.now) (pattern_found c.args.pattern) t (not_contract c.args.name.now c.args.side t) Passes (value tt)
    (ap pattern_found c.in_default.is) refl

pub returns-then-takes_all : goal.returns-then-takes_all
returns-then-takes_all g c =
    let l = c.args.language.now in
    let L : Language = language_in l in
    let t : Tree = tree_of c.args.t.now in
    let p : Pattern = pattern_in c.in-Some.asked.now in
    let e : takes_all p t ≡ true = cc in
    asked-known L (ranked_is_free L (ranks_in l) l.well_formed l.ranked) (pattern_found c.args.pattern) p t (not_contract c.args.name.now c.args.side t)
    (ap pattern_found c.in-Some.is) (all_taken L p t e)

pub returns-then-is_empty : goal.returns-then-is_empty
returns-then-is_empty g c =
    let L : Language = language_in c.args.language.now in
    let t : Tree = tree_of c.args.t.now in
    let o : Option Pattern = pattern_found c.args.pattern in
    let bad : Fault = not_contract c.args.name.now c.args.side t in
    let bs : List Binding = bindings_in c.in_ok-found.found in
    let n : length bs ≡ 0 = grind (arith, common_steps) in
    stops_for passed (AskedIf L o t bad Passes) _ bad c.in_ok-not_contract.ensures
    (asked-refused L o (pattern_in c.in-Some.asked.now) t bad Passes bs (ap pattern_found c.in-Some.is) c.in_ok-found.ensures n)

pub returns : goal.returns
returns g c =
    let L : Language = language_in c.args.language.now in
    let t : Tree = tree_of c.args.t.now in
    let o : Option Pattern = pattern_found c.args.pattern in
    let bad : Fault = not_contract c.args.name.now c.args.side t in
    let bs : List Binding = bindings_in c.in_ok-found.found in
    let n : 1 ≤ length bs = grind (arith, common_steps) in
    asked-allowed L o (pattern_in c.in-Some.asked.now) t bad Passes bs (value tt) (ap pattern_found c.in-Some.is) c.in_ok-found.ensures n refl
