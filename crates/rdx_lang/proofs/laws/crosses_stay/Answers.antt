use Rattle.rdx_lang.proofs.CrossesAgain.{plain_names_stay, crosses_once, crosses_there}
use Rattle.rdx_lang.proofs.FreeWithCrosses.{crosses_free}
use Rattle.rdx_lang.proofs.WellFormedCrosses.{crosses_well_formed, patterns_stay}
use Rattle.rdx_lang.proofs.laws.crosses_stay.Goals as goal

pub returns-clause-well_formed : goal.returns-clause-well_formed
returns-clause-well_formed c = crosses_well_formed

pub returns-clause-free : goal.returns-clause-free
returns-clause-free c = crosses_free

pub returns-clause-patterns : goal.returns-clause-patterns
returns-clause-patterns c = patterns_stay

pub returns-clause-names : goal.returns-clause-names
returns-clause-names c = plain_names_stay

pub returns-clause-once : goal.returns-clause-once
returns-clause-once c = crosses_once

pub returns-clause-there : goal.returns-clause-there
returns-clause-there c = crosses_there
