use Rattle.rdx_lang.specs.Checked.{language_in}
use Rattle.rdx_why.proofs.FormSteps.{hole_split}
use Rattle.rdx_why.proofs.descending.step_hole_split.Goals as goal

pub returns : goal.returns
returns c =
    hole_split (language_in c.args.language.now) c.args.l.now c.alone.result c.alone.ensures.0 c.alone.ensures.1 c.requires
