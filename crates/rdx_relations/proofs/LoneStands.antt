-- A domain stands by itself.
use Rattle.std.proofs.Common.{◌≡◌, map, refl}
use Rattle.std.specs.Prelude.{Option, Some, None}
use Rattle.rdx_sexp.specs.Sexp.{Sexp}
use Rattle.rdx_parts.specs.BareStands.{lone_pattern}
use Rattle.rdx_relations.specs.Inside.FormOutlines.{domain_patterns}
use Rattle.rdx_relations.specs.RelationStands.{domain_stands}

-- a domain
pub domain-lone : (o : Option Sexp) → domain_stands o ≡ map lone_pattern (domain_patterns o)
domain-lone None = refl
domain-lone (Some p) = refl
