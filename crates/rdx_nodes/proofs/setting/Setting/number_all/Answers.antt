use Rattle.std.proofs.Common.{ℕ, ◌+◌, take, take_all, subst}
use Rattle.rdx_bind.proofs.Prefixes.{taken_next}
use Rattle.rdx_lang.specs.Patterns.{Pattern}
use Rattle.rdx_lang.specs.PatternView.{pattern_of, patterns_of}
use Rattle.rdx_nodes.specs.Nodes.{patterns_at, DoAsWell}
use Rattle.rdx_nodes.specs.Settings.{language_at, patterns_at_hand}
use Rattle.rdx_nodes.proofs.Adding.{adds-then}
use Rattle.rdx_nodes.proofs.Numbered.{numbers-next}
use Rattle.rdx_nodes.proofs.setting.Setting.number_all.Goals as goal

pub loop-pat-preserved : goal.loop-pat-preserved
loop-pat-preserved c =
    let s = c.loop-pat.self in
    let u = c.number_alone.new.self in
    let inv = c.loop-pat.invariant in
    let a = c.in_ok-number.ensures.adds in
    let x = c.in_ok-number.ensures.pattern in
    let p : Pattern = pattern_of c.pat-item.result in
    let i : ℕ = c.loop-pat.pat-index in
    let pats = c.args.pats.now in
    let k = numbers-next s u a c.loop-pat.numbers.items c.in_ok-number.number c.push.new.self.items (patterns_of (take i pats))
    (patterns_of (take (i + 1) pats)) p
    x.names inv.numbers inv.patterns c.in_ok-push.ensures.items
    (taken_next pattern_of pats i c.pat-item.result c.loop-pat-test.true c.pat-item.is) c.in_ok-number.ensures.number
    x.left x.once in
    record { adds = adds-then c.args.self.now s u inv.adds a; numbers = k.0; patterns = k.1 }

pub returns-clause-patterns : goal.returns-clause-patterns
returns-clause-patterns c =
    subst (λ ps. DoAsWell (language_at c.loop-pat.self) (patterns_at (patterns_at_hand c.loop-pat.self) c.loop-pat.numbers.items) (patterns_of ps))
    (take_all c.loop-pat.pat-index c.args.pats.now c.loop-pat-test.false) c.loop-pat.invariant.patterns
