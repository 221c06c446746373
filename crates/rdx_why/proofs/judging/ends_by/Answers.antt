use Rattle.std.proofs.Common.{ℕ, ◌+◌, drop, map, refl, ◌∙◌}
use Rattle.rdx_lang.specs.Shown.{binding_of, bindings_of}
use Rattle.rdx_lang.proofs.Rest.{rest_at, rest_none}
use Rattle.rdx_lang.specs.ProgramView.{program_of}
use Rattle.rdx_lang.specs.TemplateView.{template_of}
use Rattle.rdx_why.specs.Model.Ends.{HasOnly}
use Rattle.rdx_why.proofs.EndLaws.{bound-all, bound-more, bound-none, only-more, only-none}
use Rattle.rdx_why.proofs.judging.ends_by.Goals as goal

pub loop-c-init : goal.loop-c-init
loop-c-init g c = record {
  bound = bound-none c.in_ok-ends.ends.items (bindings_of c.args.found.now) c.in_ok-ends.ensures.items;
  only = only-none (HasOnly (program_of c.args.program.now) (map template_of c.args.outs.now)) c.in_ok-ends.ends.items c.in_ok-ends.ensures.items;
  same = refl;
}

pub loop-c-preserved : goal.loop-c-preserved
loop-c-preserved g c =
    let xs = c.args.found.now in
    let n : ℕ = c.loop-c.c-index in
    let e = c.in_ok-end.end in
    record {
      bound = bound-more c.loop-c.ends.items c.push.new.self.items e (binding_of c.c-item.result) (bindings_of (drop n xs)) (bindings_of (drop (n + 1) xs))
          (bindings_of xs) c.in_ok-push.ensures.items c.in_ok-end.ensures.bound (rest_at binding_of xs n c.c-item.result c.loop-c-test.true c.c-item.is)
          c.loop-c.invariant.bound;
      only = only-more (HasOnly (program_of c.args.program.now) (map template_of c.args.outs.now)) c.loop-c.ends.items c.push.new.self.items e
          c.in_ok-push.ensures.items c.in_ok-end.ensures.only c.loop-c.invariant.only;
      same = c.in_ok-end.ensures.same ∙ c.loop-c.invariant.same;
    }

pub returns-clause-bound : goal.returns-clause-bound
returns-clause-bound g c =
    bound-all c.loop-c.ends.items (bindings_of (drop c.loop-c.c-index c.args.found.now)) (bindings_of c.args.found.now)
    (rest_none binding_of c.args.found.now c.loop-c.c-index c.loop-c-test.false) c.loop-c.invariant.bound
