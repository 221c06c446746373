use Rattle.std.proofs.Common.{◌≡◌, map, drop}
use Rattle.rdx_term.specs.Tree.{Tree}
use Rattle.rdx_term.specs.View.{tree_of}
use Rattle.rdx_lang.specs.Bindings.{Binding, visible}
use Rattle.rdx_lang.specs.Checked.{language_in, pattern_in}
use Rattle.rdx_lang.specs.Members.{In}
use Rattle.rdx_lang.specs.Names.{names}
use Rattle.rdx_lang.specs.Rules.{Match}
use Rattle.rdx_lang.specs.Shown.{binding_of}
use Rattle.rdx_opened.specs.Picking.{picked}
use Rattle.rdx_why.proofs.judging.first_taken.Given as goal

abbrev pub invariant-loop-u : goal.invariant-loop-u
invariant-loop-u g l =
    (u : Tree) → In u (map tree_of l.outs) → (d : Binding) → Match (language_in l.language) (pattern_in l.pat) u d
    → visible d ≡ picked (binding_of l.c) (names (pattern_in l.pat)) → In u (map tree_of (drop l.u-index l.outs))
