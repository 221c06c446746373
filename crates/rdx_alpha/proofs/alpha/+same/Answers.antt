use Rattle.std.proofs.Common.{◌∙◌, ap, sym}
use Rattle.rdx_term.specs.View.{tree_of, trees_of}
use Rattle.rdx_alpha.specs.Instances.{roles}
use Rattle.rdx_alpha.specs.Nameless.{head_text, nameless_in, nameless_among}
use Rattle.rdx_alpha.specs.View.{forms_of}
use Rattle.rdx_alpha.specs.Inside.Around.{around_of}
use Rattle.rdx_alpha.specs.Inside.PartView.{role_of, roles_of, part_tree}
use Rattle.rdx_alpha.specs.Inside.Same as model
use Rattle.rdx_alpha.specs.declared.part.Part.{Part}
use Rattle.rdx_alpha.proofs.Sameness.{other-head, other-binder, other_lengths, list-symbol}
use Rattle.rdx_term.specs.Tree.{trees}
use Rattle.rdx_alpha.proofs.alpha.+same.Goals as goal

pub same_as_other-returns-in-Head-clause-value : goal.same_as_other-returns-in-Head-clause-value
same_as_other-returns-in-Head-clause-value t c =
    let fs = forms_of c.args.forms.now in
    let one = around_of c.args.one.now.items in
    let u = tree_of c.args.first.now in
    sym (ap (λ (p : Part). model.same (nameless_in fs one u) (model.nameless_item fs (around_of c.args.two.now.items) (role_of p) (part_tree p))) c.in-Head.is
    ∙ other-head fs one (head_text (tree_of c.in-Head._item)) u)

pub same_as_other-returns-in-Binder-clause-value : goal.same_as_other-returns-in-Binder-clause-value
same_as_other-returns-in-Binder-clause-value t c =
    let fs = forms_of c.args.forms.now in
    let one = around_of c.args.one.now.items in
    let u = tree_of c.args.first.now in
    c.are_empty.ensures ∙ other-binder fs one u (tree_of c.in-Binder.item)
    ∙ sym (ap (λ (p : Part). model.same (nameless_in fs one u) (model.nameless_item fs (around_of c.args.two.now.items) (role_of p) (part_tree p))) c.in-Binder.is)

pub same_lists-returns-then-first-second-clause-value : goal.same_lists-returns-then-first-second-clause-value
same_lists-returns-then-first-second-clause-value t c =
    other_lengths tree_of tree_of (forms_of c.args.forms.now) (around_of c.args.one.now.items) (around_of c.args.two.now.items)
    (roles (forms_of c.args.forms.now) (trees_of c.args.first.now)) (roles (forms_of c.args.forms.now) (trees_of c.args.second.now))
    c.args.first.now c.args.second.now c.if-first-second.true

pub same_parts-returns-then-parts-others-clause-value : goal.same_parts-returns-then-parts-others-clause-value
same_parts-returns-then-parts-others-clause-value t c =
    other_lengths part_tree part_tree (forms_of c.args.forms.now) (around_of c.args.one.now.items) (around_of c.args.two.now.items)
    (roles_of c.args.parts.now) (roles_of c.args.others.now) c.args.parts.now c.args.others.now c.if-parts-others.true

pub same_terms-returns-in-Sym-second-clause-value : goal.same_terms-returns-in-Sym-second-clause-value
same_terms-returns-in-Sym-second-clause-value t c =
    let fs = forms_of c.args.forms.now in
    let one = around_of c.args.one.now.items in
    let two = around_of c.args.two.now.items in
    let ts = trees c.in-List.node.value.items in
    list-symbol two c.in-Sym-second._symbol (nameless_among fs one (roles fs ts) ts)
    ∙ sym (λ i. model.same (nameless_in fs one (tree_of (c.in-List.is i))) (nameless_in fs two (tree_of (c.in-Sym-second.is i))))
