use Rattle.std.proofs.Common.{inl, inr, true, refl}
use Rattle.rdx_direct.proofs.PathLaws.{leads_made, leads_nowhere}
use Rattle.rdx_direct.proofs.paths.Paths.root.Goals as goal

pub returns : goal.returns
returns c w = (
  λ h. elim ((leads_made true c.new.result w).0 h) [ inl e ↦ e.1 | inr l ↦ leads_nowhere c.new.result.items w c.new.ensures.items l ],
  λ e. (leads_made true c.new.result w).1 (inl (refl, e)),
)
