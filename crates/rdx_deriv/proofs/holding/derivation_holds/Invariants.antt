use Rattle.std.specs.Prelude.{◌≡◌, ◌↔◌}
use Rattle.rdx_lang.specs.ProgramView.{program_of}
use Rattle.rdx_eval.specs.Views.{program_in}
use Rattle.rdx_deriv.specs.DerivationView.{derivation_of}
use Rattle.rdx_deriv.specs.Holds.{Holds}
use Rattle.rdx_deriv.specs.Inside.Named.{EachHolds}
use Rattle.rdx_deriv.specs.Inside.Worklists.{listed, listed_nodes}
use Rattle.rdx_deriv.proofs.holding.derivation_holds.Given as goal

abbrev pub invariant-loop-next : goal.invariant-loop-next
invariant-loop-next g l = record {
  holding : EachHolds (program_of (program_in l.fn.engine).now) (listed l.left.items)
      ↔ Holds (program_of (program_in l.fn.engine).now) (derivation_of l.d);
  same : program_in l.engine ≡ program_in l.fn.engine;
}

abbrev pub decreases-loop-next : goal.decreases-loop-next
decreases-loop-next g l = listed_nodes (listed l.left.items)
