use Rattle.rdx_enum.proofs.SomeTerms.{some_terms}
use Rattle.rdx_enum.proofs.laws.some_terms.Goals as goal

pub returns : goal.returns
returns c L x k free = some_terms c.some_listing.ensures.matches L x k free
