use Rattle.std.proofs.Common.{◌≡◌, []}
use Rattle.rdx_lang.specs.ProgramView.{program_of}
use Rattle.rdx_deriv.specs.Derivations.{Goal}
use Rattle.rdx_deriv.specs.DerivationView.{goal_of}
use Rattle.rdx_why.specs.Explaining.{seen}
use Rattle.rdx_why.specs.Finders.{known_in}
use Rattle.rdx_why.specs.Inside.Frames.{IsPartly, Wait}
use Rattle.rdx_why.proofs.explaining.derived.Given as goal

abbrev pub invariant-loop : goal.invariant-loop
invariant-loop g l = record {
  same : l.engine.program ≡ l.fn.engine.program;
  kept : known_in l.finder ≡ known_in l.fn.finder;
  begun : IsPartly (program_of l.fn.engine.program.now) l.top [];
  wait : (asked : Goal) × (seen asked ≡ seen (goal_of l.fn.goal))
      × Wait (program_of l.fn.engine.program.now) asked l.stack.items (goal_of l.top.goal);
}
