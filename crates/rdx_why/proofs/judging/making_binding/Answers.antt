use Rattle.std.proofs.Common.{ℕ, ◌+◌, drop, map, sym, subst, ◌∙◌}
use Rattle.rdx_term.specs.View.{tree_of}
use Rattle.rdx_lang.specs.Bindings.{Binding}
use Rattle.rdx_lang.specs.Members.{In}
use Rattle.rdx_lang.specs.ProgramView.{program_of}
use Rattle.rdx_lang.specs.TemplateView.{template_of}
use Rattle.rdx_lang.proofs.Rest.{rest_at, rest_none}
use Rattle.rdx_bind.proofs.TurnRows.{item_in}
use Rattle.rdx_eval.specs.Answers.{value}
use Rattle.rdx_eval.specs.Instantiation.{MakeList}
use Rattle.rdx_eval.proofs.MemoLaws.{in-place}
use Rattle.rdx_deriv.specs.Judged.{calls}
use Rattle.rdx_why.specs.Model.Ends.{bound}
use Rattle.rdx_why.proofs.WaysLaws.{ahead_next, ahead_none, not_made}
use Rattle.rdx_why.proofs.judging.making_binding.Goals as goal

pub is_made_of-requires-clause-only : goal.is_made_of-requires-clause-only
is_made_of-requires-clause-only g c =
    c.requires.only c.end-item.result (in-place c.args.ends.now c.loop-end.end-index c.end-item.result c.loop-end-test.true c.end-item.is)

pub loop-end-preserved : goal.loop-end-preserved
loop-end-preserved g c = record {
  none = λ d i m. (let xs = c.args.ends.now in
      let n : ℕ = c.loop-end.end-index in
      let x = c.end-item.result in
      ahead_next d (bound x) (map bound (drop n xs)) (map bound (drop (n + 1) xs))
      (rest_at bound xs n x c.loop-end-test.true c.end-item.is)
      (λ e. not_made c.in_ok-is_made_of.ensures.made c.if-branch.false
      (subst (λ (z : Binding). MakeList (calls (program_of c.args.program.now)) z (map template_of c.args.outs.now) (value (tree_of c.args.o.now)))
      e m)) (c.loop-end.invariant.none d i m));
  same = c.is_made_of.ensures.same ∙ c.loop-end.invariant.same;
}

pub returns-clause-none : goal.returns-clause-none
returns-clause-none g c = λ d i m.
    ahead_none d (map bound (drop c.loop-end.end-index c.args.ends.now))
    (rest_none bound c.args.ends.now c.loop-end.end-index c.loop-end-test.false) (c.loop-end.invariant.none d i m)

pub returns-then-branch-clause-some : goal.returns-then-branch-clause-some
returns-then-branch-clause-some g c = (
  subst (λ (z : Binding). In z (map bound c.args.ends.now)) (sym c.in_ok-share.ensures)
      (item_in bound c.args.ends.now c.loop-end.end-index c.end-item.result c.loop-end-test.true c.end-item.is),
  subst (λ (z : Binding). MakeList (calls (program_of c.args.program.now)) z (map template_of c.args.outs.now) (value (tree_of c.args.o.now)))
      (sym c.in_ok-share.ensures) (c.in_ok-is_made_of.ensures.made.0 c.if-branch.true),
)
