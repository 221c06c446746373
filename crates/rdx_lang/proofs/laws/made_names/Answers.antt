use Rattle.rdx_lang.proofs.VariantLaws.{first_is_free, second_number, mark_between, not_taken}
use Rattle.rdx_lang.proofs.laws.made_names.Goals as goal

pub returns-clause-first : goal.returns-clause-first
returns-clause-first c = first_is_free

pub returns-clause-second_number : goal.returns-clause-second_number
returns-clause-second_number c = second_number

pub returns-clause-mark_between : goal.returns-clause-mark_between
returns-clause-mark_between c = mark_between

pub returns-clause-not_taken : goal.returns-clause-not_taken
returns-clause-not_taken c = not_taken
