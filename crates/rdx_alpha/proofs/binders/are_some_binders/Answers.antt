use Rattle.std.proofs.Common.{map, ◌∙◌}
use Rattle.rdx_alpha.proofs.WrittenForms.{some_binders}
use Rattle.rdx_alpha.proofs.binders.are_some_binders.Goals as goal

pub returns : goal.returns
returns c = c.are_binders.ensures ∙ some_binders (map (λ n. n.now) c.args.names.now) c.args.items.now
