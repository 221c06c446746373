use Rattle.std.proofs.Common.{drop}
use Rattle.rdx_lang.specs.Members.{In}
use Rattle.rdx_lang.specs.Shown.{binding_of, bindings_of}
use Rattle.rdx_answer.proofs.explained_premises.is_listed.Given as goal

abbrev pub invariant-loop-other : goal.invariant-loop-other
invariant-loop-other l = In (binding_of l.b) (bindings_of l.found) → In (binding_of l.b) (bindings_of (drop l.other-index l.found))
