-- What callers see of a binding, and of what a term is split into.
use Rattle.std.specs.Prelude.{List, map}
use Rattle.rdx_lang.specs.Bindings as model
use Rattle.rdx_term.specs.View.{tree_of}
use Rattle.rdx_lang.specs.BindingView.{pairs_of, mismatches_of}
use Rattle.rdx_lang.specs.Decompositions.{Decomposition}
use Rattle.rdx_lang.specs.declared.split.Split.{Split}
use Rattle.rdx_lang.specs.declared.binding.Binding.{Binding}

-- the binding that a binding of the code stands for
abbrev pub binding_of : Binding → model.Binding
binding_of b = record { pairs = pairs_of b.pairs.items; differs = mismatches_of b.differs.items }

-- bindings in their order
abbrev pub bindings_of : List Binding → List model.Binding
bindings_of bs = map binding_of bs

-- what a split of the code stands for
abbrev pub decomposition_of : Split → Decomposition
decomposition_of s = record { context = tree_of s.context; part = tree_of s.part; binding = binding_of s.binding }

-- splits in their order
abbrev pub decompositions_of : List Split → List Decomposition
decompositions_of ss = map decomposition_of ss
