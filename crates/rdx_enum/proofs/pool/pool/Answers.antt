use Rattle.rdx_lang.specs.PatternView.{language_of}
use Rattle.rdx_lang.proofs.Collecting.{In_along}
use Rattle.rdx_lang.proofs.MemberLaws.{append-left}
use Rattle.rdx_enum.specs.Inside.Rows.{row_of}
use Rattle.rdx_enum.specs.Pool.{pool}
use Rattle.rdx_enum.proofs.PoolNodes.{pool-ones}
use Rattle.rdx_enum.proofs.pool.pool.Goals as goal

pub returns-clause-atoms : goal.returns-clause-atoms
returns-clause-atoms c = λ t h. pool-ones (language_of c.args.language.now) t (In_along _ (pool (language_of c.args.language.now)) c.loop-alternatives.invariant (append-left (row_of c.loop-alternatives.found) _ t h))
