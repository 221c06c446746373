use Rattle.std.proofs.Common.{◌≡◌, map, sym, subst}
use Rattle.rdx_lang.specs.Checked.{language_in}
use Rattle.rdx_lang.specs.Patterns.{seq, Language}
use Rattle.rdx_lang.specs.PatternView.{slot_of, items_of}
use Rattle.rdx_lang.specs.Rules.{Split}
use Rattle.rdx_lang.specs.Shown.{binding_of}
use Rattle.rdx_term.specs.Tree.{list}
use Rattle.rdx_term.specs.View.{tree_of, trees_of}
use Rattle.rdx_deriv.specs.Around.{IsAround}
use Rattle.rdx_lang.specs.Names.{item_names}
use Rattle.rdx_deriv.specs.DerivationView.{goal_of}
use Rattle.rdx_deriv.specs.Uses.{at, ItemUses}
use Rattle.rdx_opened.specs.Opening.{OpensItems, AreNew, Stands}
use Rattle.rdx_opened.specs.Seeking.{marks_of}
use Rattle.rdx_why.specs.Inside.Steps.{IsKnown, IsLaid}
use Rattle.rdx_why.proofs.LaidLists.{opens-items, items-known, list-split}
use Rattle.rdx_why.proofs.ListSteps.{found_items, list_found, split_listed, context_listed, context_marked, marked_there, marked_around, list_split}
use Rattle.rdx_why.proofs.descending.step_list_split.Goals as goal

pub unreachable-requires : goal.unreachable-requires
unreachable-requires g c =
    let p = split_listed c.requires.list c.requires.follows in
    c.in_default.ensures.none p.0 p.1 p.2

pub unreachable-requires-in_default-list_parts : goal.unreachable-requires-in_default-list_parts
unreachable-requires-in_default-list_parts g c =
    let p = context_listed c.requires.list c.requires.follows in
    c.in_default-list_parts.ensures.none p.0 p.1 p.2

pub unreachable-requires-in_default-mark : goal.unreachable-requires-in_default-mark
unreachable-requires-in_default-mark g c =
    context_marked c.requires.list c.requires.follows
    (subst (λ m. tree_of c.args.context.now ≡ list m (trees_of c.in-Some-list_parts.around.items.now)) c.in_default-mark.is
    c.in-Some-list_parts.ensures.some)

pub unreachable-requires-in_default-items_of : goal.unreachable-requires-in_default-items_of
unreachable-requires-in_default-items_of g c =
    let i = found_items c.requires.list c.in_ok-found.ensures in
    c.in_default-items_of.ensures.none i.0 i.1

pub item_there-inner-requires : goal.item_there-inner-requires
item_there-inner-requires g c =
    marked_there c.requires.list c.requires.follows c.in-Some-list_parts.around.items.now c.in-Some.ensures.some
    (subst (λ m. tree_of c.args.context.now ≡ list m (trees_of c.in-Some-list_parts.around.items.now)) c.in-Some-mark.is
    c.in-Some-list_parts.ensures.some)

pub list_lengths-requires-clause-known : goal.list_lengths-requires-clause-known
list_lengths-requires-clause-known g c =
    let L : Language = language_in c.args.language.now in
    let f =
    list_found c.requires.list c.in_ok-found.ensures (binding_of c.args.b.now) (λ d h. h) c.in-Some-items_of.ensures.some in
    items-known L f.opens (subst (IsKnown L) c.requires.list c.requires.known)

pub list_lengths-requires-clause-opens : goal.list_lengths-requires-clause-opens
list_lengths-requires-clause-opens g c =
    let f =
    list_found c.requires.list c.in_ok-found.ensures (binding_of c.args.b.now) (λ d h. h) c.in-Some-items_of.ensures.some in
    (items_of (map slot_of c.args.items.now), marks_of c.in_ok-found.found.opened.marks.items, opens-items f.opens)

pub list_lengths-requires-clause-laid : goal.list_lengths-requires-clause-laid
list_lengths-requires-clause-laid g c =
    let L : Language = language_in c.args.language.now in
    let C = tree_of c.args.context.now in
    let s = tree_of c.args.part.now in
    let f =
    list_found c.requires.list c.in_ok-found.ensures (binding_of c.args.b.now) (λ d h. h) c.in-Some-items_of.ensures.some in
    let a =
    marked_around c.requires.list c.requires.follows (tree_of c.item_there-inner.result.now) c.in-Some.ensures.some
    (subst (λ m. C ≡ list m (trees_of c.in-Some-list_parts.around.items.now)) c.in-Some-mark.is c.in-Some-list_parts.ensures.some)
    c.item_there-inner.ensures in
    list-split c.args.l.now f.opens (subst (IsKnown L) c.requires.list c.requires.known)
    (subst (λ t. Split L (seq (items_of (map slot_of c.in-Some-items_of.opened.now))) t C s (binding_of c.in_ok-found.found.binding))
    c.in-Some.ensures.some f.holds)
    (subst (λ t. IsAround t C c.in-Some-mark.place (trees_of c.in-Some.list.items.now) (tree_of c.item_there-inner.result.now)) c.in-Some.ensures.some a)

pub list_goals-requires-clause-opens : goal.list_goals-requires-clause-opens
list_goals-requires-clause-opens g c =
    let f =
    list_found c.requires.list c.in_ok-found.ensures (binding_of c.args.b.now) (λ d h. h) c.in-Some-items_of.ensures.some in
    subst (λ ms. OpensItems (items_of (map slot_of c.args.items.now)) (items_of (map slot_of c.in-Some-items_of.opened.now)) (marks_of ms)) (sym c.deref.ensures.value) (opens-items f.opens)

pub list_goals-requires-clause-new : goal.list_goals-requires-clause-new
list_goals-requires-clause-new g c =
    let f =
    list_found c.requires.list c.in_ok-found.ensures (binding_of c.args.b.now) (λ d h. h) c.in-Some-items_of.ensures.some in
    subst (λ ms. AreNew (item_names (items_of (map slot_of c.args.items.now))) (marks_of ms)) (sym c.deref.ensures.value) f.new

pub list_goals-requires-clause-stands : goal.list_goals-requires-clause-stands
list_goals-requires-clause-stands g c =
    let f =
    list_found c.requires.list c.in_ok-found.ensures (binding_of c.args.b.now) (λ d h. h) c.in-Some-items_of.ensures.some in
    subst (λ ms. Stands (marks_of ms) (binding_of c.in_ok-found.found.binding) (binding_of c.args.b.now)) (sym c.deref.ensures.value) f.stands

pub list_goals-requires-clause-laid : goal.list_goals-requires-clause-laid
list_goals-requires-clause-laid g c =
    subst (λ ks. IsLaid (language_in c.args.language.now) c.args.l.now (at c.in-Some-mark.place (tree_of c.item_there-inner.result.now) (tree_of c.args.part.now)) (items_of (map slot_of c.in-Some-items_of.opened.now)) (trees_of c.in-Some.list.items.now) ks
    (binding_of c.in_ok-found.found.binding)) (sym c.deref-2.ensures.value) c.in_ok-lengths.ensures

pub returns : goal.returns
returns g c =
    let C = tree_of c.args.context.now in
    let a =
    marked_around c.requires.list c.requires.follows (tree_of c.item_there-inner.result.now) c.in-Some.ensures.some
    (subst (λ m. C ≡ list m (trees_of c.in-Some-list_parts.around.items.now)) c.in-Some-mark.is c.in-Some-list_parts.ensures.some)
    c.item_there-inner.ensures in
    list_split _ c.requires.list c.in_ok-under.ensures.follow a c.in_ok-push.ensures.items
    (subst (λ ks. ItemUses c.args.l.now (at c.in-Some-mark.place (tree_of c.item_there-inner.result.now) (tree_of c.args.part.now)) (items_of (map slot_of c.args.items.now)) (trees_of c.in-Some.list.items.now) ks (map goal_of c.in_ok-under.under.items) (binding_of c.args.b.now)) c.deref-2.ensures.value c.in_ok-under.ensures.uses)
