use Rattle.std.proofs.Common.{map}
use Rattle.std.specs.Prelude.{IsTrue}
use Rattle.rdx_lang.specs.PatternView.{slot_of, items_of}
use Rattle.rdx_lang.specs.Shown.{binding_of}
use Rattle.rdx_term.specs.View.{tree_of, trees_of}
use Rattle.rdx_deriv.specs.DerivationView.{goals_of}
use Rattle.rdx_deriv.specs.Uses.{ItemUses, nowhere}
use Rattle.rdx_deriv.specs.Inside.Layouts.{BindTheirNames}
use Rattle.rdx_deriv.proofs.Deciding.{both_ok, list_matched, no_list}
use Rattle.rdx_deriv.proofs.rules.is_list_match.Goals as goal

pub returns-in_default : goal.returns-in_default
returns-in_default c =
    no_list c.args.l.now (items_of (map slot_of c.args.items.now)) (tree_of c.args.t.now) (binding_of c.args.b.now) c.args.choice.now (goals_of c.args.under.now)
    c.in_default.ensures.none

pub returns : goal.returns
returns c =
    let U = ItemUses c.args.l.now nowhere (items_of (map slot_of c.args.items.now)) (trees_of c.in-Some.list.items.now) c.args.choice.now (goals_of c.args.under.now) (binding_of c.args.b.now) in
    both_ok c.is_list_use.result (λ r. IsTrue r → U) (λ r. BindTheirNames (goals_of c.args.under.now) → U → IsTrue r) _
    (λ r h k. list_matched c.args.l.now (items_of (map slot_of c.args.items.now)) (tree_of c.args.t.now) (binding_of c.args.b.now) c.args.choice.now (goals_of c.args.under.now)
    c.in-Some.list.mark (trees_of c.in-Some.list.items.now) r c.in-Some.ensures.some h k)
    c.is_list_use.ensures.sound c.is_list_use.ensures.complete
