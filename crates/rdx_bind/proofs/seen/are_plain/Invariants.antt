use Rattle.std.proofs.Common.{◌≡◌, ◌⊎◌, [], drop}
use Rattle.rdx_lang.specs.Bindings.{Binding}
use Rattle.rdx_lang.specs.Members.{In}
use Rattle.rdx_lang.specs.Shown.{bindings_of}
use Rattle.rdx_bind.proofs.seen.are_plain.Given as goal

abbrev pub invariant-loop-binding : goal.invariant-loop-binding
invariant-loop-binding l = (b : Binding) → In b (bindings_of l.bindings) → In b (bindings_of (drop l.binding-index l.bindings)) ⊎ (b.differs ≡ [])
