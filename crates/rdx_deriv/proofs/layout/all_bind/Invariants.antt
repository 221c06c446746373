use Rattle.std.proofs.Common.{drop}
use Rattle.std.specs.Prelude.{◌↔◌}
use Rattle.rdx_lang.specs.Shown.{bindings_of}
use Rattle.rdx_lang.proofs.CollectionLaws.{BindNames}
use Rattle.rdx_deriv.proofs.layout.all_bind.Given as goal

abbrev pub invariant-loop-turn : goal.invariant-loop-turn
invariant-loop-turn l = BindNames l.names (bindings_of (drop l.turn-index l.turns)) ↔ BindNames l.names (bindings_of l.turns)
