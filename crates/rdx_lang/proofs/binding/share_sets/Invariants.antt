use Rattle.std.proofs.Common.{◌≡◌, ◌++◌, drop}
use Rattle.rdx_lang.specs.BindingView.{mismatches_of}
use Rattle.rdx_lang.proofs.binding.share_sets.Given as goal

abbrev pub invariant-loop-name : goal.invariant-loop-name
invariant-loop-name l = mismatches_of l.shared.items ++ mismatches_of (drop l.name-index l.name-items) ≡ mismatches_of l.differs.items
