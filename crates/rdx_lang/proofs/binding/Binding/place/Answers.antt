use Rattle.std.proofs.lemmas.Fn.{always_returns_same}
use Rattle.rdx_lang.specs.Bindings.{name_cmp}
use Rattle.rdx_lang.proofs.NamePlaces.{found_gap, found_there}
use Rattle.rdx_lang.proofs.binding.Binding.place.Goals as goal

pub returns-clause-there : goal.returns-clause-there
returns-clause-there c =
    let facts = c.binary_search_by.ensures in
    let by_name = facts.position (λ p. name_cmp p.0 c.args.name.now) (always_returns_same _ _ _ (λ a r f k. (k.met.1, λ j. record { 0 = k.met.0 j }))) in
    rw (← c.deref.ensures.value) (found_there _ c.args.name.now _ facts.bound by_name)

pub returns-clause-gap : goal.returns-clause-gap
returns-clause-gap c =
    let facts = c.binary_search_by.ensures in
    let by_name = facts.position (λ p. name_cmp p.0 c.args.name.now) (always_returns_same _ _ _ (λ a r f k. (k.met.1, λ j. record { 0 = k.met.0 j }))) in
    rw (← c.deref.ensures.value) (found_gap _ c.args.name.now _ (rw c.deref.ensures.value c.args.self.now.ascending) facts.bound by_name)
