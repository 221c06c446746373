use Rattle.rdx_query.proofs.AcceptedLanguages.{accepted_languages-formed, accepted_languages-free}
use Rattle.rdx_query.proofs.ValidFiles.{accepted-valid, accepted_queries-valid, accepted-contexts}
use Rattle.rdx_query.proofs.laws.accepted_is_valid.Goals as goal

pub returns-clause-program : goal.returns-clause-program
returns-clause-program c = accepted-valid

pub returns-clause-languages : goal.returns-clause-languages
returns-clause-languages c = accepted_languages-formed

pub returns-clause-free : goal.returns-clause-free
returns-clause-free c = accepted_languages-free

pub returns-clause-queries : goal.returns-clause-queries
returns-clause-queries c = accepted_queries-valid

pub returns-clause-contexts : goal.returns-clause-contexts
returns-clause-contexts c = accepted-contexts
