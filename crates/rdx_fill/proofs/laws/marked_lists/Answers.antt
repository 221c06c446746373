use Rattle.std.proofs.Common.{◌∷◌, ap, ◌∙◌}
use Rattle.rdx_term.proofs.Places.{is_context_at-set, path_at-set, fill_at-set, bare-set}
use Rattle.rdx_term.specs.Fill.{marked_at}
use Rattle.rdx_fill.proofs.laws.marked_lists.Goals as goal

pub returns-clause-context : goal.returns-clause-context
returns-clause-context c = λ items k d h i. is_context_at-set items k d h ∙ i

pub returns-clause-path : goal.returns-clause-path
returns-clause-path c = λ items k d h. ap (λ ks. k ∷ ks) (path_at-set items k d h)

pub returns-clause-filled : goal.returns-clause-filled
returns-clause-filled c = λ items k d t h. ap (marked_at k) (fill_at-set items k d t h)

pub returns-clause-bare : goal.returns-clause-bare
returns-clause-bare c = λ items k d t u h e. bare-set items k d t u h e
