use Rattle.std.proofs.Common.{◌∙◌, ap, sym}
use Rattle.rdx_store.specs.Stored.{tree_by_id}
use Rattle.rdx_store.proofs.Extending.{extends-then, tree_by_id-extends, ids-equal}
use Rattle.rdx_store.proofs.laws.ids.Goals as goal

pub returns-clause-steps : goal.returns-clause-steps
returns-clause-steps c = λ ts us vs a b. extends-then a b

pub returns-clause-kept : goal.returns-clause-kept
returns-clause-kept c = λ ts us i a h. tree_by_id-extends i a h

pub returns-clause-equal : goal.returns-clause-equal
returns-clause-equal c = λ ts us i j a d h k. (λ e. sym (tree_by_id-extends i a h) ∙ ap (tree_by_id us) e, ids-equal i j a d h k)
