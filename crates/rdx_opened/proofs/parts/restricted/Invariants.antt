use Rattle.std.proofs.Common.{◌≡◌, ◌++◌, drop}
use Rattle.rdx_lang.specs.BindingView.{pairs_of}
use Rattle.rdx_lang.specs.Shown.{binding_of}
use Rattle.rdx_opened.specs.Picking.{picked_pairs}
use Rattle.rdx_opened.proofs.parts.restricted.Given as goal

abbrev pub invariant-loop-name : goal.invariant-loop-name
invariant-loop-name l =
    pairs_of l.pairs.items ++ picked_pairs (binding_of l.b) (drop l.name-index l.names) ≡ picked_pairs (binding_of l.b) l.names
