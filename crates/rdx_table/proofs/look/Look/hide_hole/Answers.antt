use Rattle.std.proofs.lemmas.Result.{IfOk-weaker}
use Rattle.rdx_table.proofs.AskedForms.{asked_hide_hole, meets_by}
use Rattle.rdx_table.proofs.look.Look.hide_hole.Goals as goal

pub returns-clause-found : goal.returns-clause-found
returns-clause-found c =
    IfOk-weaker c.part.result _ _
    (λ v h. meets_by c.args.self.now c.args.goal v c.requires.pattern (asked_hide_hole c.args.goal.splits h)) c.part.ensures.found
