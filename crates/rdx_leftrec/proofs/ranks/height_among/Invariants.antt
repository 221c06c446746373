use Rattle.std.proofs.Common.{◌≡◌, max, drop}
use Rattle.rdx_lang.specs.PatternView.{patterns_of}
use Rattle.rdx_leftrec.specs.Inside.Numbers.{height_among}
use Rattle.rdx_leftrec.proofs.ranks.height_among.Given as goal

abbrev pub invariant-loop-pat : goal.invariant-loop-pat
invariant-loop-pat l = max l.most (height_among (patterns_of (drop l.pat-index l.alternatives))) ≡ height_among (patterns_of l.alternatives)
