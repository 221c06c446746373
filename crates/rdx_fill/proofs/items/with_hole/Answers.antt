use Rattle.std.proofs.Common.{arith}
use Rattle.std.proofs.lemmas.Grind.{common_steps}
use Rattle.rdx_term.proofs.Measures.{limits_of}
use Rattle.rdx_fill.proofs.FilledItems.{set-context}
use Rattle.rdx_fill.proofs.items.with_hole.Goals as goal

pub replaced-requires-clause-limits : goal.replaced-requires-clause-limits
replaced-requires-clause-limits c = grind (arith, common_steps, set-context, limits_of)

pub returns : goal.returns
returns c = grind (arith, common_steps, set-context)
