use Rattle.rdx_lang.specs.Bindings.{Binding}
use Rattle.rdx_lang.specs.Join.{IsJoin}
use Rattle.rdx_lang.specs.Shown.{binding_of}
use Rattle.rdx_eval.specs.Fresh.{Avoided}
use Rattle.rdx_deriv.specs.DerivationView.{goals_of}
use Rattle.rdx_deriv.specs.Avoiding.{avoided_of}
use Rattle.rdx_deriv.proofs.ExtraUseLaws.{fresh_no_join, fresh_some}
use Rattle.rdx_deriv.proofs.FoundOnce.{found_none, found_some}
use Rattle.rdx_deriv.proofs.extras.by_fresh.Goals as goal

pub returns-in_default : goal.returns-in_default
returns-in_default c =
    let w : Avoided = avoided_of c.args.avoids.now in
    let b : Binding = binding_of c.args.at.binding in
    let d : Binding = binding_of c.in_ok-fresh.fresh in
    record {
      leads = fresh_no_join w c.args.name.now b d (goals_of c.args.at.under.now) c.in_ok-fresh.ensures
          (found_none binding_of (λ e. IsJoin b d e) c.in_ok-binding.field-0 c.in_ok-binding.ensures c.in_default.is);
    }

pub returns : goal.returns
returns c =
    let w : Avoided = avoided_of c.args.avoids.now in
    let b : Binding = binding_of c.args.at.binding in
    let d : Binding = binding_of c.in_ok-fresh.fresh in
    record {
      leads = fresh_some w c.args.name.now b d (goals_of c.args.at.under.now) c.in_ok-fresh.ensures (binding_of c.in-Some.binding)
          (found_some binding_of (λ e. IsJoin b d e) c.in_ok-binding.field-0 c.in_ok-binding.ensures c.in-Some.binding c.in-Some.is);
    }
