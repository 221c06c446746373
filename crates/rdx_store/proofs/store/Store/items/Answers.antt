use Rattle.std.proofs.Common.{◌≡◌, ◌<◌, get_or, length, map, sym, ◌∙◌, ap, subst}
use Rattle.rdx_term.specs.Items.{tree_items}
use Rattle.rdx_term.specs.Tree.{trees}
use Rattle.rdx_store.specs.Model.Entries.{entry_trees}
use Rattle.rdx_store.specs.Model.KeyView.{shape_of}
use Rattle.rdx_store.specs.Model.Shapes.{ids_in}
use Rattle.rdx_store.specs.Stored.{tree_by_id, trees_by_ids, AreIds}
use Rattle.rdx_store.proofs.ShapesOfTrees.{ids_there, items_there}
use Rattle.rdx_store.proofs.store.Store.items.Goals as goal

-- the id is one
has_term : (c : goal.After-ids) → c.args.id < length (entry_trees c.self.inside.entries.entries)
has_term c = subst (λ ts. c.args.id < length ts) (sym c.self.view_is) c.requires

-- its key stands in its place
key_is : (c : goal.After-ids)
    → c.index-as_slice-id.result ≡ get_or (map (λ e. e.0) c.self.inside.entries.entries) c.args.id c.index-as_slice-id.result
key_is c = c.index-as_slice-id.is ∙ ap (λ ks. get_or ks c.args.id c.index-as_slice-id.result) (c.as_slice.ensures ∙ c.keys.ensures.rest)

pub returns-clause-ids : goal.returns-clause-ids
returns-clause-ids c =
    subst (λ is. AreIds is (length c.args.self.now)) (sym c.ids.ensures)
    (subst (λ ts. AreIds (ids_in (shape_of c.index-as_slice-id.result)) (length ts)) c.self.view_is
    (ids_there c.self.inside.entries.entries c.args.id c.index-as_slice-id.result c.self.invariant (has_term c) (key_is c)))

pub returns-clause-items : goal.returns-clause-items
returns-clause-items c =
    ap (λ is. trees (trees_by_ids c.args.self.now is)) c.ids.ensures
    ∙ subst (λ ts. trees (trees_by_ids ts (ids_in (shape_of c.index-as_slice-id.result))) ≡ tree_items (tree_by_id ts c.args.id)) c.self.view_is
    (items_there c.self.inside.entries.entries c.args.id c.index-as_slice-id.result c.self.invariant (has_term c) (key_is c))
