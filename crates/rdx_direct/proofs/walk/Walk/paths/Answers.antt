use Rattle.rdx_lang.proofs.PatternEquations.{pattern_wild}
use Rattle.rdx_direct.proofs.WantedLaws.{all_reached}
use Rattle.rdx_direct.proofs.walk.Walk.paths.Goals as goal

pub returns-clause-paths : goal.returns-clause-paths
returns-clause-paths c = all_reached pattern_wild c.in_ok-reached.ensures.paths c.in_ok-listed.ensures
