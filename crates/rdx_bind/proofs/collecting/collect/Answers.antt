use Rattle.std.proofs.Common.{◌∙◌, sym, ap, subst}
use Rattle.rdx_lang.specs.BindingView.{mismatches_of}
use Rattle.rdx_lang.specs.Bindings.{Binding, HaveAscendingNames}
use Rattle.rdx_lang.specs.Collections.{AreSetsOf}
use Rattle.rdx_lang.specs.Shown.{bindings_of}
use Rattle.rdx_lang.proofs.CollectionLaws.{sets_of-sets}
use Rattle.rdx_bind.proofs.ValueColumnLaws.{columns_ascend, columns_collect}
use Rattle.rdx_bind.proofs.collecting.collect.Goals as goal

pub with_differs-requires-clause-pairs : goal.with_differs-requires-clause-pairs
with_differs-requires-clause-pairs c =
    subst HaveAscendingNames (sym c.in_ok-pairs-in-Some.ensures) (columns_ascend c.args.names.now (bindings_of c.args.list.now) c.requires.ascending)

pub with_differs-requires-clause-differs : goal.with_differs-requires-clause-differs
with_differs-requires-clause-differs c =
    let s : AreSetsOf (bindings_of c.args.list.now) (mismatches_of c.in-Some.differs.items) = rw c.in-Some.is at c.in_ok-all_sets.ensures.some in
    sets_of-sets s

pub returns-in_ok-pairs-in-Some-clause-some : goal.returns-in_ok-pairs-in-Some-clause-some
returns-in_ok-pairs-in-Some-clause-some c =
    let s : AreSetsOf (bindings_of c.args.list.now) (mismatches_of c.in-Some.differs.items) = rw c.in-Some.is at c.in_ok-all_sets.ensures.some in
    columns_collect c.args.names.now (bindings_of c.args.list.now) _ (ap (λ (b : Binding). b.pairs) c.with_differs.ensures ∙ c.in_ok-pairs-in-Some.ensures)
    (subst (AreSetsOf (bindings_of c.args.list.now)) (sym (ap (λ (b : Binding). b.differs) c.with_differs.ensures)) s) c.requires.bound

pub returns-in-None-clause-none : goal.returns-in-None-clause-none
returns-in-None-clause-none c b k =
    let n : (ms : _) → ¬ AreSetsOf (bindings_of c.args.list.now) ms = rw c.in-None.is at c.in_ok-all_sets.ensures.none in
    n b.differs k.differs
