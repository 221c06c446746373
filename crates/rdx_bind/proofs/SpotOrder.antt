-- The order of the code's spots, by which a set of them is kept.
use Rattle.std.proofs.Common.{◌≡◌}
use Rattle.std.specs.declared.cmp.Ordering.TheVariants.{Equal}
use Rattle.rdx_lang.proofs.OrderLaws.{binding_cmp-tells}
use Rattle.rdx_lang.specs.Order.{binding_cmp}
use Rattle.rdx_lang.specs.Shown.{binding_of}
use Rattle.rdx_bind.proofs.TrailOrder.{both_tie, trail_cmp-tells}
use Rattle.rdx_bind.specs.Spots.{spot_of}
use Rattle.rdx_bind.specs.Trails.{trail_of}
use Rattle.rdx_bind.specs.declared.spots.Spot as code
use Rattle.rdx_bind.specs.contracts.spots.SpotOrd.TheImpl.{cmp-value}
use Rattle.rdx_bind.specs.contracts.trail.TrailOrd.TheImpl as trails

-- spots that are not told apart are equal
pub spot_cmp-tells : (x y : code.Spot) → cmp-value.it x y ≡ Equal → spot_of x ≡ spot_of y
spot_cmp-tells x y e =
    let both = both_tie (trails.cmp-value.it x.trail y.trail) (binding_cmp (binding_of x.binding) (binding_of y.binding)) e in
    let paths : trail_of x.trail ≡ trail_of y.trail = trail_cmp-tells x.trail y.trail both.0 in
    let bindings : binding_of x.binding ≡ binding_of y.binding = binding_cmp-tells (binding_of x.binding) (binding_of y.binding) both.1 in
    λ i. record { path = paths i; binding = bindings i }
