use Rattle.std.proofs.Common.{◌∙◌, ap}
use Rattle.rdx_lang.specs.Bindings.{of_pairs}
use Rattle.rdx_lang.specs.BindingView.{pairs_of}
use Rattle.rdx_why.proofs.choosing.nothing_where.Goals as goal

pub returns-then-holds-clause-some : goal.returns-then-holds-clause-some
returns-then-holds-clause-some c = (c.if-holds.true, c.new-then-holds.ensures ∙ ap (λ ps. of_pairs (pairs_of ps)) c.new.ensures.items)
