use Rattle.rdx_lang.specs.Shown.{binding_of}
use Rattle.rdx_deriv.proofs.FoundOnce.{joined_finds}
use Rattle.rdx_deriv.proofs.extras.joined.Goals as goal

pub returns : goal.returns
returns c = joined_finds (binding_of c.args.b) (binding_of c.args.other.now) c.join_into.result c.join_into.ensures.some c.join_into.ensures.none
