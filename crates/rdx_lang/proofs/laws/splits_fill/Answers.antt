use Rattle.rdx_lang.proofs.SplitLaws.{split-along, split-fills}
use Rattle.rdx_lang.proofs.laws.splits_fill.Goals as goal

pub returns-clause-fill : goal.returns-clause-fill
returns-clause-fill c L p t C s b h = split-fills h

pub returns-clause-path : goal.returns-clause-path
returns-clause-path c L p t C s b h = split-along h
