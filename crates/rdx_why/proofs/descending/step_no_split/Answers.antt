use Rattle.rdx_lang.specs.PatternView.{pattern_of}
use Rattle.rdx_why.proofs.FormSteps.{whole_splits}
use Rattle.rdx_why.proofs.descending.step_no_split.Goals as goal

pub unreachable-requires : goal.unreachable-requires
unreachable-requires c = whole_splits (pattern_of c.args.pat.now) c.requires.whole c.requires.follows
