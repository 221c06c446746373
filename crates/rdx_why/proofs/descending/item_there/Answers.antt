use Rattle.std.proofs.Common.{◌∙◌, ap, sym}
use Rattle.rdx_term.specs.View.{tree_of}
use Rattle.rdx_term.proofs.PutItems.{item_at-trees_of}
use Rattle.rdx_why.proofs.descending.item_there.Goals as goal

pub returns : goal.returns
returns c =
    let r = c.index-terms-place.result in
    sym (item_at-trees_of c.args.terms.now c.args.place r ∙ ap tree_of (sym c.index-terms-place.is))
