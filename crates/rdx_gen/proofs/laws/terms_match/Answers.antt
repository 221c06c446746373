use Rattle.rdx_gen.proofs.Knot as knot
use Rattle.rdx_gen.proofs.laws.terms_match.Goals as goal

pub returns-clause-generated : goal.returns-clause-generated
returns-clause-generated c = knot.generated_matches

pub returns-clause-terms : goal.returns-clause-terms
returns-clause-terms c = knot.terms_match

pub returns-clause-contexts : goal.returns-clause-contexts
returns-clause-contexts c = knot.contexts_split
