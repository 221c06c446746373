use Rattle.std.proofs.Common.{◌≡◌, ◌<◌, ◌-◌, length, ◌∙◌, ap, arith}
use Rattle.std.proofs.lemmas.Grind.{common_steps}
use Rattle.rdx_alpha.specs.Inside.Around.{around_of}
use Rattle.rdx_alpha.proofs.Arounds.{without_last, some_length}
use Rattle.std.specs.Vec.{vec_len}
use Rattle.rdx_alpha.proofs.around.leave.Goals as goal

pub returns : goal.returns
returns c = λ names outer h.
    let l : 0 < length c.args.around.now.items = some_length c.args.around.now.items names outer h in
    let e : vec_len c.args.around.now ≡ length c.args.around.now.items = grind (arith, common_steps) in
    ap around_of c.pop-names.ensures.rest ∙ without_last c.args.around.now.items (vec_len c.args.around.now - 1) names outer (omega arith) h
