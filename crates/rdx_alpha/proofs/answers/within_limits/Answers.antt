use Rattle.std.proofs.Common.{◌≡◌, ◌<◌, subst, arith}
use Rattle.rdx_term.specs.Tree.{tree_depth, tree_nodes}
use Rattle.rdx_term.specs.View.{tree_of}
use Rattle.rdx_alpha.specs.Substitution.{substituted}
use Rattle.rdx_alpha.specs.Marks.{marked_anew}
use Rattle.rdx_alpha.specs.View.{forms_of}
use Rattle.rdx_alpha.specs.Inside.Stops.{IsStopOf}
use Rattle.rdx_alpha.proofs.Marking.{marked-depth, marked-nodes}
use Rattle.rdx_alpha.proofs.answers.within_limits.Goals as goal

pub returns-in-Err-TooDeep-clause-err : goal.returns-in-Err-TooDeep-clause-err
returns-in-Err-TooDeep-clause-err c =
    let u = substituted (forms_of c.args.forms.now) c.args.name.now (tree_of c.args.value.now) (tree_of c.args.term.now) in
    let h : 500 < tree_depth u = subst (λ s. IsStopOf s u) c.in-Err-TooDeep.field-0-is c.in-Err-TooDeep.ensures in
    let d : tree_depth (marked_anew u) ≡ tree_depth u = marked-depth u in
    (c.requires, omega arith)

pub returns-in-Err-TooLarge-clause-err : goal.returns-in-Err-TooLarge-clause-err
returns-in-Err-TooLarge-clause-err c =
    let u = substituted (forms_of c.args.forms.now) c.args.name.now (tree_of c.args.value.now) (tree_of c.args.term.now) in
    let h = subst (λ s. IsStopOf s u) c.in-Err-TooLarge.field-0-is c.in-Err-TooLarge.ensures in
    let d : tree_depth (marked_anew u) ≡ tree_depth u = marked-depth u in
    let n : tree_nodes (marked_anew u) ≡ tree_nodes u = marked-nodes u in
    let a = h.0 in
    let b = h.1 in
    let l = h.2 in
    (c.requires, (omega arith, omega arith))
