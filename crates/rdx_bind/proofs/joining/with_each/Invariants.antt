use Rattle.std.proofs.Common.{drop}
use Rattle.rdx_lang.specs.Bindings.{of_pairs}
use Rattle.rdx_lang.specs.BindingView.{pairs_of}
use Rattle.rdx_lang.specs.Shown.{binding_of}
use Rattle.rdx_bind.proofs.JoinedPairs.{StillJoins}
use Rattle.rdx_bind.proofs.joining.with_each.Given as goal

abbrev pub invariant-loop-name : goal.invariant-loop-name
invariant-loop-name l = StillJoins (binding_of l.fn.a) (of_pairs (pairs_of l.pairs)) (binding_of l.joined) (pairs_of (drop l.name-index l.pairs))
