use Rattle.std.proofs.Common.{drop, [], List}
use Rattle.rdx_lang.specs.Bindings.{Binding}
use Rattle.rdx_bind.specs.Namings.{naming_of, alone}
use Rattle.rdx_lang.specs.Join.{IsJoin}
use Rattle.rdx_lang.specs.Shown.{bindings_of}
use Rattle.rdx_term.specs.View.{tree_of}
use Rattle.rdx_lang.proofs.Collecting.{Collects}
use Rattle.rdx_bind.proofs.combining.with_name.Given as goal

abbrev pub invariant-loop-first : goal.invariant-loop-first
invariant-loop-first l =
    let nothing : List Binding = [] in
    Collects (λ c d. IsJoin c (alone (naming_of l.name) (tree_of l.t)) d) (bindings_of l.firsts) (bindings_of (drop l.first-index l.firsts)) nothing (bindings_of l.found.items)
