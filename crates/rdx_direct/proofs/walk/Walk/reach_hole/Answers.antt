use Rattle.std.proofs.Common.{IsTrue, sym, subst}
use Rattle.std.specs.Prelude.{◌↔◌}
use Rattle.rdx_term.specs.View.{tree_of}
use Rattle.rdx_lang.specs.Checked.{language_in}
use Rattle.rdx_lang.specs.Patterns.{hole}
use Rattle.rdx_direct.proofs.ReachLaws.{hole_matched, hole_reached}
use Rattle.rdx_direct.specs.Inside.Going.{Fits}
use Rattle.rdx_direct.proofs.walk.Walk.reach_hole.Goals as goal

pub returns-then-not-may_be_wanted-clause-fits : goal.returns-then-not-may_be_wanted-clause-fits
returns-then-not-may_be_wanted-clause-fits c =
    subst (λ so. IsTrue so ↔ Fits (language_in c.args.self.now.language.now) hole (tree_of c.args.t.now)) (sym c.unsplit.ensures.fits) (hole_matched c.is_hole-fits.result c.is_hole-fits.ensures)

pub returns-clause-paths : goal.returns-clause-paths
returns-clause-paths c = hole_reached c.root-paths.ensures

pub returns-clause-fits : goal.returns-clause-fits
returns-clause-fits c = hole_matched c.is_hole-fits.result c.is_hole-fits.ensures
