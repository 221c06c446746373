use Rattle.std.proofs.lemmas.Result.{on_ok_weaker}
use Rattle.rdx_lang.specs.PatternView.{pattern_of}
use Rattle.rdx_nodes.specs.Settings.{language_at, patterns_at_hand}
use Rattle.rdx_nodes.proofs.Adding.{adds-grows}
use Rattle.rdx_nodes.proofs.Numbered.{left-whole, number-pattern}
use Rattle.rdx_nodes.proofs.setting.Setting.add.Goals as goal

pub returns-clause-ready : goal.returns-clause-ready
returns-clause-ready c = on_ok_weaker c.number.result (λ a. a.ready) c.number.ensures.adds

pub returns-clause-grows : goal.returns-clause-grows
returns-clause-grows c = on_ok_weaker c.number.result (adds-grows c.args.self.now c.number.new.self) c.number.ensures.adds

pub returns-clause-number : goal.returns-clause-number
returns-clause-number c = number-pattern c.number.result c.number.new.self.nodes.items c.number.ensures.number

pub returns-clause-pattern : goal.returns-clause-pattern
returns-clause-pattern c =
    left-whole (language_at c.number.new.self) c.none-once.result.told c.number.result (patterns_at_hand c.number.new.self)
    (pattern_of c.args.pat.now)
    c.none-once.ensures.told c.number.ensures.pattern
