use Rattle.std.proofs.Common.{ℕ, List, length, sym, subst}
use Rattle.std.proofs.lemmas.Result.{IfOk-weaker}
use Rattle.rdx_lang.specs.Patterns.{Pattern, Language}
use Rattle.rdx_lang.specs.PatternView.{patterns_of}
use Rattle.rdx_nodes.specs.Nodes.{made, patterns_at, AreBelow, AreOpened, DoAsWell}
use Rattle.rdx_table.specs.Inside.Looks.{language_of_look, patterns_of_look}
use Rattle.rdx_table.proofs.AskedForms.{asked_nt, meets_by}
use Rattle.rdx_table.proofs.look.Look.nonterminal.Goals as goal

pub returns-clause-found : goal.returns-clause-found
returns-clause-found c =
    let L : Language = language_of_look c.args.self.now in
    let ps : List Pattern = patterns_of_look c.args.self.now in
    let qs : List Pattern = patterns_of c.args.it.now.alternatives.now in
    let opened : AreBelow c.in-Some.numbers.items (length ps) × DoAsWell L (patterns_at ps c.in-Some.numbers.items) qs =
    subst (λ o. AreOpened L ps (length ps) qs (made o)) c.in-Some.is c.requires.opened in
    let well : DoAsWell L (patterns_at ps c.deref.result.now) qs =
    subst (λ (ns : List ℕ). DoAsWell L (patterns_at ps ns) qs) (sym c.deref.ensures.value) opened.1 in
    IfOk-weaker c.any_of.result _ _
    (λ v h. meets_by c.args.self.now c.args.goal v c.requires.pattern (asked_nt c.args.goal.splits qs c.requires.alternatives well h))
    c.any_of.ensures.found
