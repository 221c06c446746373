use Rattle.std.proofs.Common.{◌≡◌, ◌∙◌, None, sym}
use Rattle.rdx_templates.specs.Bound.{depth_of}
use Rattle.rdx_templates.proofs.Reaching.{unbound-reach}
use Rattle.rdx_templates.proofs.templates.driving.symbol_reach.Goals as goal

pub returns-in-None : goal.returns-in-None
returns-in-None c =
    let e : depth_of c.args.bound.now c.args.text.now ≡ None = sym c.depth_of.ensures.depth ∙ c.in-None.is in
    sym (unbound-reach c.args.bound.now c.args.text.now e)
