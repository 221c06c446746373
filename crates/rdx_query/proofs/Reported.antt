-- Where no refusal is reported.
use Rattle.std.proofs.Common.{◌≡◌, Option, Some, None, refl}
use Rattle.rdx_patterns.specs.Refusal.{Refusal}
use Rattle.rdx_forms.specs.Reported.{earlier}

-- neither of two is there, where none of them is reported
pub none-reported : (o p : Option Refusal) → earlier o p ≡ None → (o ≡ None) × (p ≡ None)
none-reported None p e = (refl, e)
none-reported (Some r) None e = absurd cc
none-reported (Some r) (Some q) e = absurd cc
