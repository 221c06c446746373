use Rattle.std.proofs.Common.{◌∙◌, ap, sym}
use Rattle.rdx_term.specs.Tree.{Contents}
use Rattle.rdx_term.specs.View.{tree_of}
use Rattle.rdx_alpha.specs.Inside.Same as model
use Rattle.rdx_alpha.proofs.Sameness.{empty-list}
use Rattle.rdx_alpha.proofs.alpha.is_empty.Goals as goal

pub returns-in-List : goal.returns-in-List
returns-in-List c =
    empty-list c.in-List.node.value c.items.result.now (c.items.ensures.value ∙ ap (λ (l : Contents). l.items) c.deref.ensures)
    ∙ sym (ap (λ t. model.is_empty (tree_of t)) c.in-List.is)
