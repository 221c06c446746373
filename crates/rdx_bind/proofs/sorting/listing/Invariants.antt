use Rattle.std.proofs.Common.{vec_len, ◌⊎◌}
use Rattle.std.specs.Prelude.{◌↔◌}
use Rattle.rdx_lang.specs.Ascending.{IsAscending}
use Rattle.rdx_lang.specs.Bindings.{Binding}
use Rattle.rdx_lang.specs.Members.{In}
use Rattle.rdx_lang.specs.Order.{binding_cmp}
use Rattle.rdx_lang.specs.Shown.{bindings_of}
use Rattle.rdx_bind.proofs.sorting.listing.Given as goal

abbrev pub invariant-loop-binding : goal.invariant-loop-binding
invariant-loop-binding l = record {
  ascending : IsAscending binding_cmp (bindings_of l.set.keys);
  members : (b : Binding) → ((In b (bindings_of l.set.keys) ⊎ In b (bindings_of l.rest.items)) ↔ In b (bindings_of l.fn.found.items));
}

abbrev pub decreases-loop-binding : goal.decreases-loop-binding
decreases-loop-binding l = vec_len l.rest
