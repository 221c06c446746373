use Rattle.rdx_lang.specs.BindingView.{value_of, mismatches_of}
use Rattle.rdx_lang.proofs.NamePlaces.{named-member, no_join, put-join, tied-join}
use Rattle.rdx_lang.proofs.binding.Binding.joined_with.Goals as goal

pub returns-in-Equal-clause-some : goal.returns-in-Equal-clause-some
returns-in-Equal-clause-some c =
    let found = c.index.result.now in
    tied-join _ _ (value_of found.1) _ (c.args.self.ascending, c.args.self.sets) (named-member _ _ c.in-Ok.place found c.in-Ok.ensures.there c.index.ensures) c.in-Equal.ensures

pub returns-in-Less : goal.returns-in-Less
returns-in-Less c =
    let found = c.index.result.now in
    record {
      some = tt;
      none = no_join _ _ (value_of found.1) _ c.compare.result (named-member _ _ c.in-Ok.place found c.in-Ok.ensures.there c.index.ensures) c.compare.ensures c.in-Less.is;
    }

-- the pairs with the new one are the join, whose names ascend
pub invariant_of-result : goal.invariant_of-result
invariant_of-result c =
    let joined =
    put-join _ _ (mismatches_of c.args.self.differs.items) c.in-Err.place (c.in_ok-share-in-Err.field-0, c.in_ok-share-in-Err-2.field-0) c.args.name.now (value_of c.args.value.now) c.args.self.ascending c.args.self.sets c.in-Err.ensures.gap
    c.in_ok-share-in-Err.ensures c.in_ok-share-in-Err-2.ensures c.in_ok-insert-in-Err.ensures.items in
    record { ascending = joined.pairs.map; sets = c.args.self.sets }

pub returns-in_ok-insert-in-Err-clause-some : goal.returns-in_ok-insert-in-Err-clause-some
returns-in_ok-insert-in-Err-clause-some c =
    put-join _ _ (mismatches_of c.args.self.differs.items) c.in-Err.place (c.in_ok-share-in-Err.field-0, c.in_ok-share-in-Err-2.field-0) _ _ c.args.self.ascending c.args.self.sets c.in-Err.ensures.gap
    c.in_ok-share-in-Err.ensures c.in_ok-share-in-Err-2.ensures c.in_ok-insert-in-Err.ensures.items
