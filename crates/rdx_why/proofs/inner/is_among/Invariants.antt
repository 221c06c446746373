use Rattle.std.proofs.Common.{drop}
use Rattle.rdx_lang.specs.Members.{In}
use Rattle.rdx_lang.specs.Shown.{binding_of, bindings_of}
use Rattle.rdx_why.proofs.inner.is_among.Given as goal

-- where it is a member, it is ahead
abbrev pub invariant-loop-binding : goal.invariant-loop-binding
invariant-loop-binding l =
    In (binding_of l.c) (bindings_of l.found) → In (binding_of l.c) (bindings_of (drop l.binding-index l.found))
