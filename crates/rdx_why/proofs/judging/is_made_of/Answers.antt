use Rattle.rdx_term.specs.View.{tree_of}
use Rattle.rdx_why.proofs.judging.is_made_of.Goals as goal

pub returns-then-not-has_outputs-clause-made : goal.returns-then-not-has_outputs-clause-made
returns-then-not-has_outputs-clause-made g c = (
  λ k. absurd cc,
  λ m. let k = c.has_outputs.ensures (c.requires.only (tree_of c.args.o.now) m) in absurd cc,
)
