use Rattle.std.proofs.Common.{arith}
use Rattle.std.proofs.lemmas.Grind.{common_steps}
use Rattle.rdx_term.proofs.Measures.{limits_of}
use Rattle.rdx_fill.proofs.FilledItems.{set-same_items}
use Rattle.rdx_fill.proofs.items.replaced.Goals as goal

pub built-requires-clause-limits : goal.built-requires-clause-limits
built-requires-clause-limits c = grind (arith, common_steps, set-same_items, limits_of)

pub returns : goal.returns
returns c = grind (arith, common_steps, set-same_items)
