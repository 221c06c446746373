use Rattle.std.proofs.Common.{◌≡◌, ◌-◌, sym, subst}
use Rattle.rdx_term.specs.View.{tree_of}
use Rattle.rdx_why.specs.Inside.Laying.{focus_after}
use Rattle.rdx_deriv.specs.Inside.Layouts.{focus_of}
use Rattle.rdx_deriv.specs.Uses.{nowhere, at}
use Rattle.rdx_why.proofs.LaidBehind.{nowhere_after, at_before, at_behind}
use Rattle.rdx_why.proofs.lists.behind.Goals as goal

pub returns-in-Nowhere : goal.returns-in-Nowhere
returns-in-Nowhere c = subst (λ f. nowhere ≡ focus_after c.args.count (focus_of f)) (sym c.in-Nowhere.is) (nowhere_after c.args.count)

pub returns-then-place-count : goal.returns-then-place-count
returns-then-place-count c =
    subst (λ f. nowhere ≡ focus_after c.args.count (focus_of f)) (sym c.in-At.is)
    (at_before c.args.count c.in-At.place (tree_of c.in-At.context.now) (tree_of c.in-At.part.now) c.if-place-count.true)

pub returns-else-place-count : goal.returns-else-place-count
returns-else-place-count c =
    subst (λ f. at (c.in-At.place - c.args.count) (tree_of c.in-At.context.now) (tree_of c.in-At.part.now) ≡ focus_after c.args.count (focus_of f))
    (sym c.in-At.is)
    (at_behind c.args.count c.in-At.place (tree_of c.in-At.context.now) (tree_of c.in-At.part.now) c.if-place-count.false)
