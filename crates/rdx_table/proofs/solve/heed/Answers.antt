use Rattle.std.proofs.Common.{OnOk, sym, subst}
use Rattle.rdx_nodes.specs.declared.setting.Setting.{Setting}
use Rattle.rdx_table.specs.Inside.Looks.{Heeds, is_asked}
use Rattle.rdx_table.specs.declared.frame.Frame.{Frame}
use Rattle.rdx_table.proofs.FactsStay.{opened-heeds}
use Rattle.rdx_table.proofs.solve.heed.Goals as goal

pub returns-in-Asks : goal.returns-in-Asks
returns-in-Asks c =
    let s : Setting = c.args.setting.now in
    let f : Frame = c.args.top.now in
    subst (λ x. Heeds s f x s (record { task = f.task; answers = f.answers; wanted = c.in-Asks.tasks })) (sym c.in-Asks.is) is_asked

pub returns-in-Opens : goal.returns-in-Opens
returns-in-Opens c =
    let s : Setting = c.args.setting.now in
    let t : Setting = c.open.new.self in
    let f : Frame = c.args.top.now in
    subst (λ x. OnOk c.open.result (Heeds s f x t f)) (sym c.in-Opens.is)
    (opened-heeds c.open.result s t f c.in-Opens.number c.open.ensures.ready c.open.ensures.grows c.open.ensures.fewer)
