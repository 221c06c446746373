use Rattle.std.proofs.Common.{sym, ◌∙◌, ap, subst}
use Rattle.rdx_term.specs.View.{tree_of}
use Rattle.rdx_store.specs.Model.Entries.{IsShapeOf, AreEntries, entry_trees}
use Rattle.rdx_store.specs.Model.KeyView.{shape_of}
use Rattle.rdx_store.specs.Stored.{tree_by_id, AreDistinct, Extends}
use Rattle.rdx_store.proofs.Inserting.{Inserts, inserts, inserted}
use Rattle.rdx_store.proofs.store.Store.intern.Goals as goal

-- what inserting gives
facts : (c : goal.Joined-branch-3) → Inserts c.self.inside.entries.entries c.args.key c.in_ok-share.field-0
facts c =
    inserts c.self.inside.entries.entries c.args.key c.in_ok-share.field-0 c.self.invariant
    (subst (λ ts. IsShapeOf ts (shape_of c.args.key) (tree_of c.in_ok-share.field-0)) (sym c.self.view_is)
    (subst (λ t. IsShapeOf c.args.self.now (shape_of c.args.key) t) (sym c.in_ok-share.ensures) c.requires))

pub invariant_of-self-2 : goal.invariant_of-self-2
invariant_of-self-2 c = subst AreEntries (sym c.in_ok-id.ensures.entries) (facts c).entries

pub returns-clause-kept : goal.returns-clause-kept
returns-clause-kept c =
    subst (λ ts. Extends ts (entry_trees c.insert_full.new.self.entries)) c.self.view_is
    (subst (λ es. Extends (entry_trees c.self.inside.entries.entries) (entry_trees es)) (sym c.in_ok-id.ensures.entries) (facts c).kept)

pub returns-clause-tree : goal.returns-clause-tree
returns-clause-tree c =
    ap (λ es. tree_by_id (entry_trees es) c.in_ok-id.id) c.in_ok-id.ensures.entries
    ∙ ap (λ i. tree_by_id (entry_trees (inserted c.self.inside.entries.entries c.args.key c.in_ok-share.field-0)) i) c.in_ok-id.ensures.index
    ∙ (facts c).tree ∙ c.in_ok-share.ensures

pub returns-clause-distinct : goal.returns-clause-distinct
returns-clause-distinct c = subst (λ es. AreDistinct (entry_trees es)) (sym c.in_ok-id.ensures.entries) (facts c).entries.distinct
