use Rattle.rdx_lang.specs.Checked.{language_in}
use Rattle.rdx_lang.specs.PatternView.{pattern_of}
use Rattle.rdx_why.proofs.FormSteps.{atom_match}
use Rattle.rdx_why.proofs.descending.step_atom_match.Goals as goal

pub returns : goal.returns
returns c =
    atom_match (language_in c.args.language.now) c.args.l.now c.alone.result c.alone.ensures.0 c.alone.ensures.1 (pattern_of c.args.pat.now)
    c.requires.atom c.requires.follows
