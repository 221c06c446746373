use Rattle.std.proofs.Common.{◌<◌, ℕ, length, sym, arith}
use Rattle.rdx_nodes.specs.Settings.{patterns_at_hand}
use Rattle.rdx_nodes.proofs.NodePatterns.{patterns_in-length}
use Rattle.rdx_nodes.proofs.NonterminalNodes.{adds-index, index-insert}
use Rattle.rdx_nodes.proofs.setting.Setting.nonterminal.Goals as goal

pub returns-in-Some-clause-number : goal.returns-in-Some-clause-number
returns-in-Some-clause-number c =
    let n : ℕ = c.in-Some.number in
    let h : n < length (patterns_at_hand c.args.self.now) = c.requires.index.below c.args.name.now n (sym c.in-Some.ensures) in
    let l = patterns_in-length c.args.self.now.nodes.items in omega (arith, h, l)

pub returns-in-Some-clause-pattern : goal.returns-in-Some-clause-pattern
returns-in-Some-clause-pattern c = c.requires.index.pattern c.args.name.now c.in-Some.number (sym c.in-Some.ensures)

pub returns-clause-adds : goal.returns-clause-adds
returns-clause-adds c =
    let t = c.push.new.self in
    let n : ℕ = c.in_ok-number.number in
    let a = c.in_ok-number.ensures.adds in
    let l = patterns_in-length t.nodes.items in
    let h = c.in_ok-number.ensures.number in
    let m : n < length (patterns_at_hand t) = omega (arith, h, l) in
    adds-index c.args.self.now t a c.insert.new.self
    (index-insert (patterns_at_hand t) t.index c.insert.new.self c.args.name.now n c.in_ok-insert.ensures a.ready.index m c.in_ok-number.ensures.pattern)
