use Rattle.std.proofs.Common.{◌≡◌, ◌∙◌, ap, length, arith}
use Rattle.std.proofs.lemmas.Grind.{common_steps}
use Rattle.rdx_nodes.specs.Nodes.{pattern_at, patterns_in}
use Rattle.rdx_nodes.proofs.Adding.{adds-push}
use Rattle.rdx_nodes.proofs.NodePatterns.{pattern_in-last}
use Rattle.rdx_nodes.proofs.setting.Setting.push.Goals as goal

pub returns-clause-adds : goal.returns-clause-adds
returns-clause-adds c =
    adds-push c.args.self.now c.push.new.self (record { form = c.args.form; kept = c.args.kept }) c.requires.ready c.requires.form
    c.in_ok-push.ensures.items

pub returns-clause-pattern : goal.returns-clause-pattern
returns-clause-pattern c =
    let e : c.len-number.result ≡ length c.args.self.now.nodes.items = grind (arith, common_steps) in
    ap (λ k. pattern_at (patterns_in c.push.new.self.items) k) e
    ∙ ap (λ ns. pattern_at (patterns_in ns) (length c.args.self.now.nodes.items)) c.in_ok-push.ensures.items
    ∙ pattern_in-last c.args.self.now.nodes.items (record { form = c.args.form; kept = c.args.kept })
