use Rattle.std.proofs.Common.{◌∙◌, sym, subst}
use Rattle.std.specs.Borrow.{Bor}
use Rattle.rdx_term.specs.Tree.{Tree}
use Rattle.rdx_term.specs.View.{tree_of}
use Rattle.rdx_lang.specs.ProgramView.{program_of}
use Rattle.rdx_lang.specs.Programs as programs
use Rattle.rdx_lang.specs.Shown.{binding_of}
use Rattle.rdx_lang.specs.TemplateView.{template_of}
use Rattle.rdx_lang.specs.Templates.{Template}
use Rattle.rdx_lang.specs.declared.program.Program.{Program}
use Rattle.rdx_eval.specs.Answers.{value}
use Rattle.rdx_eval.specs.Heights.{calls_at, height}
use Rattle.rdx_eval.specs.Instantiation.{Makes}
use Rattle.rdx_eval.specs.Views.{program_in}
use Rattle.rdx_answer.proofs.Contexts.{member_at}
use Rattle.rdx_answer.proofs.Searching.{source_next, source_none}
use Rattle.rdx_answer.proofs.explained_premises.first_source.Goals as goal

pub returns-then-branch-clause-found : goal.returns-then-branch-clause-found
returns-then-branch-clause-found g c =
    let m : Template = template_of c.args.t.now in
    let v : Tree = tree_of c.args.wanted.now in
    let xs = c.args.found.now in
    let x = c.b-item.result in
    record {
      among = member_at binding_of xs c.loop-b.b-index x c.loop-b-test.true c.b-item.is;
      makes = subst (λ (p : Bor Program). Makes (calls_at (program_of p.now) height) (binding_of x) m (value v)) c.loop-b.invariant.same
          (c.in_ok-makes.ensures.made.0 c.if-branch.true);
    }

pub loop-b-preserved : goal.loop-b-preserved
loop-b-preserved g c =
    let P : programs.Program = program_of (program_in c.args.engine.now).now in
    let m : Template = template_of c.args.t.now in
    let v : Tree = tree_of c.args.wanted.now in
    let x = c.b-item.result in
    record {
      same = c.makes.ensures.same ∙ c.loop-b.invariant.same;
      left = source_next c.args.found.now c.loop-b.b-index P m v binding_of x c.loop-b-test.true c.b-item.is
          (λ k. let r = c.in_ok-makes.ensures.made.1 (subst (λ (p : Bor Program). Makes (calls_at (program_of p.now) height) (binding_of x) m (value v))
          (sym c.loop-b.invariant.same) k) in let n = c.if-branch.false in absurd cc)
          c.loop-b.invariant.left;
    }

pub unreachable-requires : goal.unreachable-requires
unreachable-requires g c =
    source_none c.args.found.now c.loop-b.b-index (program_of (program_in c.args.engine.now).now) (template_of c.args.t.now) (tree_of c.args.wanted.now)
    binding_of c.loop-b-test.false c.loop-b.invariant.left
