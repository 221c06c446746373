use Rattle.std.proofs.Common.{subst}
use Rattle.rdx_lang.specs.Bindings.{Binding}
use Rattle.rdx_lang.specs.Shown.{binding_of}
use Rattle.rdx_opened.specs.Opening.{Stands}
use Rattle.rdx_opened.specs.Seeking.{marks_of}
use Rattle.rdx_opened.proofs.Sought.{ahead_more, member_at, none_ahead}
use Rattle.rdx_opened.proofs.seeking.first_match.Goals as goal

pub is_wanted-requires-clause-plain : goal.is_wanted-requires-clause-plain
is_wanted-requires-clause-plain c =
    c.requires.plain (binding_of c.binding-item.result)
    (member_at binding_of c.args.found.now c.loop-binding.binding-index c.binding-item.result c.loop-binding-test.true c.binding-item.is)

pub returns-then-branch-clause-found : goal.returns-then-branch-clause-found
returns-then-branch-clause-found c =
    member_at binding_of c.args.found.now c.loop-binding.binding-index c.binding-item.result c.loop-binding-test.true c.binding-item.is

pub loop-binding-preserved : goal.loop-binding-preserved
loop-binding-preserved c = λ d b i s w.
    ahead_more binding_of c.args.found.now c.loop-binding.binding-index c.binding-item.result c.loop-binding-test.true c.binding-item.is d
    (λ e. c.in_ok-is_wanted.ensures.no c.if-branch.false b (subst (λ (x : Binding). Stands (marks_of c.args.marks.now) x b) e s) w)
    (c.loop-binding.invariant d b i s w)

pub returns-clause-none : goal.returns-clause-none
returns-clause-none c = λ d b i s w.
    none_ahead binding_of c.args.found.now c.loop-binding.binding-index c.loop-binding-test.false d (c.loop-binding.invariant d b i s w)
