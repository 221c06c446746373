use Rattle.rdx_term.proofs.Contexts.{is_context-fill_of, path-fill_of, fill_of-hole}
use Rattle.rdx_fill.proofs.laws.filled_contexts.Goals as goal

pub returns-clause-context : goal.returns-clause-context
returns-clause-context c = is_context-fill_of

pub returns-clause-path : goal.returns-clause-path
returns-clause-path c = path-fill_of

pub returns-clause-hole : goal.returns-clause-hole
returns-clause-hole c = fill_of-hole
