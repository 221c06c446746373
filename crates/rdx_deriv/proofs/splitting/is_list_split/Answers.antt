use Rattle.std.proofs.Common.{map}
use Rattle.std.specs.Prelude.{IsTrue}
use Rattle.rdx_lang.specs.PatternView.{slot_of, items_of}
use Rattle.rdx_lang.specs.Shown.{binding_of}
use Rattle.rdx_term.specs.View.{tree_of, trees_of}
use Rattle.rdx_deriv.specs.DerivationView.{goals_of}
use Rattle.rdx_deriv.specs.Uses.{ItemUses, at}
use Rattle.rdx_deriv.specs.Inside.Layouts.{BindTheirNames}
use Rattle.rdx_deriv.proofs.Deciding.{both_ok}
use Rattle.rdx_deriv.proofs.SplitParts.{not_around, is_around}
use Rattle.rdx_deriv.proofs.splitting.is_list_split.Goals as goal

pub returns-in_default-parts_around : goal.returns-in_default-parts_around
returns-in_default-parts_around c =
    not_around c.args.l.now (items_of (map slot_of c.args.items.now)) (tree_of c.args.t.now) (tree_of c.args.context.now) (tree_of c.args.part.now) (binding_of c.args.b.now) c.args.choice.now (goals_of c.args.under.now)
    c.in-Some.lengths.now c.in-Some.place.now c.in-Some.ensures.cases.0 c.in_default-parts_around.ensures.none

pub returns : goal.returns
returns c =
    let U = ItemUses c.args.l.now (at c.in-Some.place.now (tree_of c.in-Some-parts_around.parts.inner.now) (tree_of c.args.part.now)) (items_of (map slot_of c.args.items.now)) (trees_of c.in-Some-parts_around.parts.terms.now) c.in-Some.lengths.now (goals_of c.args.under.now) (binding_of c.args.b.now) in
    both_ok c.is_list_use.result (λ r. IsTrue r → U) (λ r. BindTheirNames (goals_of c.args.under.now) → U → IsTrue r) _
    (λ r h k. is_around c.args.l.now (items_of (map slot_of c.args.items.now)) (tree_of c.args.t.now) (tree_of c.args.context.now) (tree_of c.args.part.now) (binding_of c.args.b.now) c.args.choice.now (goals_of c.args.under.now)
    c.in-Some.lengths.now c.in-Some.place.now c.in-Some.ensures.cases.0 (trees_of c.in-Some-parts_around.parts.terms.now) (tree_of c.in-Some-parts_around.parts.inner.now) r c.in-Some-parts_around.ensures.some h k)
    c.is_list_use.ensures.sound c.is_list_use.ensures.complete
