use Rattle.std.proofs.Common.{drop}
use Rattle.rdx_lang.specs.Bindings.{Binding}
use Rattle.rdx_lang.specs.Members.{In}
use Rattle.rdx_lang.specs.Shown.{bindings_of}
use Rattle.rdx_opened.specs.Opening.{Stands}
use Rattle.rdx_opened.specs.Seeking.{IsWanted, marks_of}
use Rattle.rdx_opened.proofs.seeking.first_match.Given as goal

-- what is wanted is ahead
abbrev pub invariant-loop-binding : goal.invariant-loop-binding
invariant-loop-binding l =
    (c b : Binding) → In c (bindings_of l.found) → Stands (marks_of l.marks) c b → IsWanted l.wanted b
    → In c (bindings_of (drop l.binding-index l.found))
