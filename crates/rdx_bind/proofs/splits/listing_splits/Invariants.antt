use Rattle.std.proofs.Common.{vec_len, ◌⊎◌}
use Rattle.std.specs.Prelude.{◌↔◌}
use Rattle.rdx_lang.specs.Ascending.{IsAscending}
use Rattle.rdx_lang.specs.Decompositions.{Decomposition}
use Rattle.rdx_lang.specs.Members.{In}
use Rattle.rdx_lang.specs.Order.{decomposition_cmp}
use Rattle.rdx_lang.specs.Shown.{decompositions_of}
use Rattle.rdx_bind.proofs.splits.listing_splits.Given as goal

abbrev pub invariant-loop-split : goal.invariant-loop-split
invariant-loop-split l = record {
  ascending : IsAscending decomposition_cmp (decompositions_of l.set.keys);
  members : (b : Decomposition) → ((In b (decompositions_of l.set.keys) ⊎ In b (decompositions_of l.rest.items)) ↔ In b (decompositions_of l.fn.found.items));
}

abbrev pub decreases-loop-split : goal.decreases-loop-split
decreases-loop-split l = vec_len l.rest
