use Rattle.std.proofs.Common.{◌≡◌, drop, map}
use Rattle.rdx_lang.specs.PatternView.{definition_of}
use Rattle.rdx_lang.specs.declared.pattern.Ref.{Ref}
use Rattle.rdx_patterns.specs.Found.{found_among}
use Rattle.rdx_patterns.specs.Model.Keys.{found_in}
use Rattle.rdx_patterns.specs.Refusal.{or_else}
use Rattle.rdx_patterns.proofs.lookup.Definitions.new.Given as goal

abbrev pub invariant-loop-nonterminal : goal.invariant-loop-nonterminal
invariant-loop-nonterminal l = (x : Ref)
    → or_else (found_in l.by_key x) (found_among (map definition_of (drop l.nonterminal-index l.all)) x) ≡ found_among (map definition_of l.all) x
