use Rattle.std.proofs.Common.{◌≡◌, ◌++◌, drop}
use Rattle.rdx_lang.specs.Shown.{binding_of}
use Rattle.rdx_eval.specs.Fresh.{symbols_of}
use Rattle.rdx_deriv.specs.Avoiding.{texts_of}
use Rattle.rdx_deriv.proofs.fresh.add_bound_all.Given as goal

abbrev pub invariant-loop-name : goal.invariant-loop-name
invariant-loop-name l =
    l.fn.found.items ++ symbols_of (texts_of l.names) (binding_of l.b)
    ≡ l.found.items ++ symbols_of (texts_of (drop l.name-index l.names)) (binding_of l.b)
