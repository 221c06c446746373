use Rattle.std.proofs.Common.{◌≡◌, [], replicate}
use Rattle.rdx_gen.specs.Inside.Places.{lists_of}
use Rattle.rdx_gen.proofs.users.no_lists.Given as goal

abbrev pub invariant-loop : goal.invariant-loop
invariant-loop l = lists_of l.lists.items ≡ replicate l.counter []
