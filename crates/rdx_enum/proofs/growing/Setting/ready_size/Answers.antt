use Rattle.rdx_lang.specs.Checked.{language_in}
use Rattle.rdx_lang.specs.PatternView.{pattern_of}
use Rattle.rdx_enum.proofs.Readiness.{inner_ready}
use Rattle.rdx_enum.proofs.growing.Setting.ready_size.Goals as goal

pub returns-clause-ready : goal.returns-clause-ready
returns-clause-ready c =
    inner_ready (language_in c.args.self.now.language.now) c.args.self.now.tables.now (pattern_of c.args.left.now) (pattern_of c.args.right.now) c.args.n c.inner_size.result
    c.args.outer.now.contexts.items c.inner_size.ensures.value c.requires.some c.requires.ready c.requires.outer.empty
