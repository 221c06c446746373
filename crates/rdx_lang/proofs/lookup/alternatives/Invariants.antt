use Rattle.std.proofs.Common.{◌≡◌, drop, map}
use Rattle.rdx_lang.specs.Lookup.{alternatives_among, alternatives_of}
use Rattle.rdx_lang.specs.PatternView.{definition_of, language_of}
use Rattle.rdx_lang.proofs.lookup.alternatives.Given as goal

abbrev pub invariant-loop-other : goal.invariant-loop-other
invariant-loop-other l = alternatives_among (map definition_of (drop l.other-index l.other-items)) l.name ≡ alternatives_of (language_of l.language) l.name
