use Rattle.rdx_lang.proofs.CompletedLanguages.{patterns_get_theirs, completed_well_formed}
use Rattle.rdx_lang.proofs.PlainRecursion.{completed_has_its, completed_leaves_none_out, recursive_is_plain, first_is_plain, without_has_none}
use Rattle.rdx_lang.proofs.laws.crosses_complete.Goals as goal

pub returns-clause-patterns : goal.returns-clause-patterns
returns-clause-patterns c = patterns_get_theirs

pub returns-clause-well_formed : goal.returns-clause-well_formed
returns-clause-well_formed c = completed_well_formed

pub returns-clause-its : goal.returns-clause-its
returns-clause-its c = completed_has_its

pub returns-clause-all : goal.returns-clause-all
returns-clause-all c = completed_leaves_none_out

pub returns-clause-recursive : goal.returns-clause-recursive
returns-clause-recursive c = recursive_is_plain

pub returns-clause-first : goal.returns-clause-first
returns-clause-first c = first_is_plain

pub returns-clause-without : goal.returns-clause-without
returns-clause-without c = without_has_none
