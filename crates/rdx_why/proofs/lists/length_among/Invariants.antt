use Rattle.std.proofs.Common.{ℕ, drop}
use Rattle.rdx_lang.specs.Bindings.{Binding}
use Rattle.rdx_lang.specs.Members.{In}
use Rattle.rdx_lang.specs.Shown.{binding_of, bindings_of}
use Rattle.rdx_why.specs.Inside.Laying.{HasLength}
use Rattle.rdx_why.proofs.lists.length_among.Given as goal

abbrev pub invariant-loop-e : goal.invariant-loop-e
invariant-loop-e l =
    (e : Binding) (k : ℕ) → In e (bindings_of l.found)
    → HasLength (binding_of l.fn.sought.wanted.now) l.fn.sought.names.now l.fn.sought.length.now e k
    → In e (bindings_of (drop l.e-index l.found))
