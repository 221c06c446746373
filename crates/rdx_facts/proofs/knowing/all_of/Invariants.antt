use Rattle.std.proofs.Common.{◌≡◌, ◌++◌, drop, map}
use Rattle.rdx_lang.specs.PatternView.{definition_of, language_of}
use Rattle.rdx_facts.specs.Inside.Flags.{flags_of, flags_by, may_by}
use Rattle.rdx_facts.proofs.knowing.all_of.Given as goal

abbrev pub invariant-loop-name : goal.invariant-loop-name
invariant-loop-name l =
    map flags_of l.known.items ++ map (λ d. flags_by (may_by (language_of l.language) l.marks) d) (map definition_of (drop l.name-index l.name-items))
    ≡ map (λ d. flags_by (may_by (language_of l.language) l.marks) d) (language_of l.language).nonterminals
