use Rattle.rdx_lang.proofs.NameLaws.{names-ascend, match-ascends, match-names, split-ascends, split-names}
use Rattle.rdx_lang.proofs.laws.names_of_matches.Goals as goal

pub returns-clause-ascending : goal.returns-clause-ascending
returns-clause-ascending c = names-ascend

pub returns-clause-map : goal.returns-clause-map
returns-clause-map c L p t b h = match-ascends h

pub returns-clause-names : goal.returns-clause-names
returns-clause-names c L p t b h = match-names h

pub returns-clause-split_map : goal.returns-clause-split_map
returns-clause-split_map c L p t C s b h = split-ascends h

pub returns-clause-split_names : goal.returns-clause-split_names
returns-clause-split_names c L p t C s b h = split-names h
