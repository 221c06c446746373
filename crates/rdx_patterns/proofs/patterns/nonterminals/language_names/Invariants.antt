use Rattle.std.proofs.Common.{◌≡◌, ◌++◌, drop, map}
use Rattle.std.specs.Prelude.{flat_map}
use Rattle.rdx_lang.specs.PatternView.{definition_of}
use Rattle.rdx_patterns.specs.Nonterminals.{ref_names}
use Rattle.rdx_patterns.proofs.patterns.nonterminals.language_names.Given as goal

abbrev pub invariant-loop-nonterminal : goal.invariant-loop-nonterminal
invariant-loop-nonterminal l =
    l.names.items ++ flat_map ref_names (map (λ d. d.0) (map definition_of (drop l.nonterminal-index l.nonterminal-items)))
    ≡ flat_map ref_names (map (λ d. d.0) (map definition_of l.nonterminal-items))
