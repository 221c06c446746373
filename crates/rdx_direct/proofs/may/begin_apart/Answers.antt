use Rattle.std.proofs.Common.{arith, ap}
use Rattle.std.proofs.lemmas.Grind.{common_steps}
use Rattle.rdx_term.specs.Tree.{trees}
use Rattle.rdx_term.specs.View.{tree_of}
use Rattle.rdx_lang.proofs.ItemsAhead.{ahead-one}
use Rattle.rdx_lang.proofs.Rest.{rest_at}
use Rattle.rdx_direct.proofs.MayLaws.{apart_first}
use Rattle.rdx_direct.proofs.may.begin_apart.Goals as goal

pub returns-else-is_empty-2 : goal.returns-else-is_empty-2
returns-else-is_empty-2 c h L =
    apart_first (ahead-one c.args.items.now 0 c.index-items-0.result (grind (arith, common_steps)) c.index-items-0.is c.in-One.pat c.in-One.is)
    (ap trees (rest_at tree_of c.args.ts.now 0 c.index-ts-0.result (grind (arith, common_steps)) c.index-ts-0.is)) (c.is_other_literal.ensures h L)
