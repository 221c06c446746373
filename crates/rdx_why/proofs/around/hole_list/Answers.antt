use Rattle.std.proofs.Common.{sym, ap, ◌∙◌, subst}
use Rattle.std.proofs.lemmas.Result.{IfOk-weaker}
use Rattle.rdx_term.specs.Tree.{Tree}
use Rattle.rdx_term.specs.View.{built_list, trees_of}
use Rattle.rdx_why.specs.Inside.Around.{IsHoleList}
use Rattle.rdx_why.proofs.HoleQuestions.{hole_listed}
use Rattle.rdx_why.proofs.around.hole_list.Goals as goal

pub returns : goal.returns
returns c =
    IfOk-weaker c.built.result _ _
    (λ t h. subst (λ (u : Tree). IsHoleList (trees_of c.args.terms.now) c.args.place u) (sym (h ∙ ap built_list c.replace.ensures))
    (hole_listed c.args.terms.now c.in_ok-copies.copies.items c.args.place c.in_ok-copies.ensures))
    c.built.ensures
