use Rattle.std.proofs.Common.{◌≡◌, ◌++◌, drop}
use Rattle.rdx_lang.specs.BindingView.{pairs_of}
use Rattle.rdx_lang.specs.Shown.{binding_of}
use Rattle.rdx_opened.specs.Picking.{turn_pairs}
use Rattle.rdx_opened.proofs.parts.in_turn.Given as goal

abbrev pub invariant-loop-name : goal.invariant-loop-name
invariant-loop-name l =
    pairs_of l.pairs.items ++ turn_pairs (binding_of l.b) l.turn (drop l.name-index l.names) ≡ turn_pairs (binding_of l.b) l.turn l.names
