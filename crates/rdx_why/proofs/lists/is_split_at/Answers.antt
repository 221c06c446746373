use Rattle.std.proofs.Common.{◌≡◌, false}
use Rattle.rdx_term.specs.View.{tree_of}
use Rattle.rdx_why.proofs.AskedLengths.{around_one}
use Rattle.rdx_why.proofs.lists.is_split_at.Goals as goal

pub returns-else-same : goal.returns-else-same
returns-else-same c =
    let no : c.same.result ≡ false = c.if-same.false in
    (λ h. absurd cc, λ w. c.same.ensures.1 (around_one c.in-Some.ensures.some w.1))

pub returns-in-None : goal.returns-in-None
returns-in-None c = (λ h. absurd cc, λ w. absurd (c.in-None.ensures.none w.0 (tree_of c.args.context.now) w.1))
