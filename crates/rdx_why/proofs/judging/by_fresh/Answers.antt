use Rattle.std.proofs.Common.{List, map, ap, sym, subst}
use Rattle.rdx_lang.specs.Bindings.{Binding}
use Rattle.rdx_lang.specs.Join.{IsJoin}
use Rattle.rdx_lang.specs.Shown.{binding_of}
use Rattle.rdx_deriv.specs.DerivationView.{goal_of}
use Rattle.rdx_deriv.specs.declared.goal.Goal.{Goal}
use Rattle.rdx_why.proofs.WaysLaws.{none_holds, some_holds}
use Rattle.rdx_why.proofs.judging.by_fresh.Goals as goal

pub unreachable-requires : goal.unreachable-requires
unreachable-requires c =
    c.requires (λ d j. none_holds c.in_ok-binding.field-0 c.in_default.is c.in_ok-binding.ensures.none d
    (subst (λ (z : Binding). IsJoin (binding_of c.args.b.now) z d) (sym c.in_ok-fresh.ensures) j))

pub returns : goal.returns
returns c = (
  ap (λ (xs : List Goal). map goal_of xs) c.new-goals.ensures.items,
  subst (λ (z : Binding). IsJoin (binding_of c.args.b.now) z (binding_of c.in-Some.binding)) c.in_ok-fresh.ensures
      (some_holds _ _ _ c.in-Some.is c.in_ok-binding.ensures.some),
)
