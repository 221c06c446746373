use Rattle.std.proofs.Common.{◌≡◌, drop, map}
use Rattle.rdx_lang.specs.PatternView.{definition_of}
use Rattle.rdx_lang.specs.References.{is_among}
use Rattle.rdx_lang.specs.declared.pattern.Ref.TheVariants.{Cross}
use Rattle.rdx_patterns.specs.Found.{heads}
use Rattle.rdx_patterns.proofs.crosses.completion.is_added.Given as goal

abbrev pub invariant-loop-nonterminal : goal.invariant-loop-nonterminal
invariant-loop-nonterminal l =
    is_among (Cross l.from l.to) (heads (map definition_of (drop l.nonterminal-index l.added))) ≡ is_among (Cross l.from l.to) (heads (map definition_of l.added))
