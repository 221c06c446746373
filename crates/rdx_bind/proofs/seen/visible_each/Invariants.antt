use Rattle.std.proofs.Common.{◌≡◌, ◌++◌, map, drop}
use Rattle.rdx_lang.specs.Bindings.{visible}
use Rattle.rdx_lang.specs.Shown.{bindings_of}
use Rattle.rdx_bind.proofs.seen.visible_each.Given as goal

abbrev pub invariant-loop-binding : goal.invariant-loop-binding
invariant-loop-binding l = bindings_of l.seen.items ++ map visible (bindings_of (drop l.binding-index l.found)) ≡ map visible (bindings_of l.found)
