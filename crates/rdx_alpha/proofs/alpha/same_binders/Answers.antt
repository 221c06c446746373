use Rattle.std.proofs.Common.{◌∙◌, ap, sym}
use Rattle.rdx_term.specs.Tree.{Contents}
use Rattle.rdx_term.specs.View.{tree_of}
use Rattle.rdx_alpha.specs.Nameless.{blanked}
use Rattle.rdx_alpha.specs.Inside.Same as model
use Rattle.rdx_alpha.proofs.Sameness.{same-binder_lists}
use Rattle.rdx_alpha.proofs.alpha.same_binders.Goals as goal

pub returns-in-List-two : goal.returns-in-List-two
returns-in-List-two c =
    same-binder_lists c.in-List.first.value c.in-List-two.second.value c.items.result.now c.items-in-List-two.result.now
    (c.items.ensures.value ∙ ap (λ (l : Contents). l.items) c.deref.ensures)
    (c.items-in-List-two.ensures.value ∙ ap (λ (l : Contents). l.items) c.deref-in-List-two.ensures)
    ∙ sym (λ i. model.same (blanked (tree_of (c.in-List.is i))) (blanked (tree_of (c.in-List-two.is i))))
