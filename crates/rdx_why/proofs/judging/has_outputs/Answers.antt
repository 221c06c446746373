use Rattle.std.proofs.Common.{subst}
use Rattle.rdx_term.specs.View.{tree_of}
use Rattle.rdx_why.specs.Model.Ends.{IsSame}
use Rattle.rdx_why.proofs.EndLaws.{same_found}
use Rattle.rdx_why.proofs.judging.has_outputs.Goals as goal

pub returns-in-Some : goal.returns-in-Some
returns-in-Some c h = c.same.ensures.1 (same_found _ _ (subst (λ x. IsSame x (tree_of c.args.o.now)) c.in-Some.is h))

pub returns-in-None : goal.returns-in-None
returns-in-None c h = absurd (subst (λ x. IsSame x (tree_of c.args.o.now)) c.in-None.is h)
