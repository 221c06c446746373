use Rattle.std.proofs.Common.{◌∷◌, ◌∙◌, ap}
use Rattle.rdx_alpha.specs.Inside.Around.{around_of}
use Rattle.rdx_alpha.proofs.Arounds.{around_of-more}
use Rattle.rdx_alpha.proofs.around.enter.Goals as goal

pub returns : goal.returns
returns c =
    ap around_of c.in_ok-push.ensures.items ∙ around_of-more c.args.around.now.items c.in_ok-copies.copies
    ∙ ap (λ names. names ∷ around_of c.args.around.now.items) c.in_ok-copies.ensures
