use Rattle.rdx_lang.specs.Checked.{language_in}
use Rattle.rdx_deriv.proofs.ChosenPlaces.{chosen_some, chosen_past}
use Rattle.rdx_deriv.proofs.rules.chosen.Goals as goal

pub returns-clause-some : goal.returns-clause-some
returns-clause-some c =
    chosen_some (language_in c.args.language.now) c.args.x.now c.args.choice.now c.alternatives-alternatives.result.now c.alternatives-alternatives.ensures.same c.if-choice-ne1.false
    c.index-alternatives-place.result c.if-place-alternatives.false c.index-alternatives-place.is

pub returns-then-place-alternatives-clause-none : goal.returns-then-place-alternatives-clause-none
returns-then-place-alternatives-clause-none c =
    chosen_past (language_in c.args.language.now) c.args.x.now c.args.choice.now c.alternatives-alternatives.result.now c.alternatives-alternatives.ensures.same c.if-choice-ne1.false
    c.alternatives-alternatives.ensures.well_formed.distinct c.if-place-alternatives.true
