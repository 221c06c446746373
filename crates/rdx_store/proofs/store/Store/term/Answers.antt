use Rattle.std.proofs.Common.{◌∙◌, ap}
use Rattle.rdx_store.specs.Stored.{tree_by_id}
use Rattle.rdx_store.proofs.ShapesOfTrees.{term_there}
use Rattle.rdx_store.proofs.store.Store.term.Goals as goal

pub returns : goal.returns
returns c = term_there c.self.inside.entries.entries c.args.id c.index.result.now c.index.ensures ∙ ap (λ ts. tree_by_id ts c.args.id) c.self.view_is
