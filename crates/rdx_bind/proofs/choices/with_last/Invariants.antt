use Rattle.std.proofs.Common.{◌≡◌, ◌++◌, drop}
use Rattle.rdx_lang.specs.Shown.{bindings_of}
use Rattle.rdx_bind.proofs.choices.with_last.Given as goal

abbrev pub invariant-loop-binding : goal.invariant-loop-binding
invariant-loop-binding l = bindings_of l.longer.items ++ bindings_of (drop l.binding-index l.list) ≡ bindings_of l.list
