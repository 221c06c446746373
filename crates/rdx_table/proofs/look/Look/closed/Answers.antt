use Rattle.std.proofs.Common.{◌≡◌, List, [], ◌∷◌, ap}
use Rattle.std.proofs.lemmas.Result.{IfOk-weaker}
use Rattle.rdx_lang.specs.Patterns.{Pattern}
use Rattle.rdx_nodes.specs.Nodes.{pattern_at, patterns_at}
use Rattle.rdx_table.specs.Inside.Looks.{patterns_of_look}
use Rattle.rdx_table.proofs.AskedForms.{asked_closed, meets_by}
use Rattle.rdx_table.proofs.look.Look.closed.Goals as goal

pub returns-clause-found : goal.returns-clause-found
returns-clause-found c =
    let ps : List Pattern = patterns_of_look c.args.self.now in
    let alone : List Pattern = patterns_at ps c.from_ref.result.now in
    let one : alone ≡ pattern_at ps c.args.part ∷ [] = ap (patterns_at ps) c.from_ref.ensures.value in
    IfOk-weaker c.any_of.result _ _
    (λ v h. meets_by c.args.self.now c.args.goal v c.requires.pattern (asked_closed c.args.goal.splits alone one h)) c.any_of.ensures.found
