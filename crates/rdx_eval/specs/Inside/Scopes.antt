-- What templates and host expressions are evaluated in.
use Rattle.std.specs.Prelude.{ℕ}
use Rattle.rdx_lang.specs.Bindings.{Binding}
use Rattle.rdx_lang.specs.ProgramView.{program_of}
use Rattle.rdx_lang.specs.Shown.{binding_of}
use Rattle.rdx_eval.specs.Calls.{Calls}
use Rattle.rdx_eval.specs.Heights.{calls_at}
use Rattle.rdx_eval.specs.declared.scope.Scope.{Scope}
use Rattle.rdx_eval.specs.declared.scope.Setting.{Setting}

-- the calls of the program at this height
abbrev pub calls_in : {H : Type 0} → Setting H → ℕ → Calls
calls_in s n = calls_at (program_of s.program.now) n

-- the calls at the height of a scope
abbrev pub calls_here : {H : Type 0} → Scope H → Calls
calls_here s = calls_in s.setting.now s.height

-- its binding
abbrev pub bound_here : {H : Type 0} → Scope H → Binding
bound_here s = binding_of s.b.now
