use Rattle.std.proofs.Common.{◌≡◌, drop}
use Rattle.rdx_lang.specs.Literals as literals
use Rattle.rdx_lang.specs.PatternView.{patterns_of}
use Rattle.rdx_bind.proofs.literals.any_mentions.Given as goal

abbrev pub invariant-loop-pat : goal.invariant-loop-pat
invariant-loop-pat l = literals.any_mentions l.name (patterns_of (drop l.pat-index l.pats)) ≡ literals.any_mentions l.name (patterns_of l.pats)
