use Rattle.std.proofs.Common.{◌≡◌, drop, map}
use Rattle.rdx_lang.specs.PatternView.{definition_of, language_of}
use Rattle.rdx_facts.specs.Inside.Flags.{may_by, is_closed}
use Rattle.rdx_facts.proofs.closing.is_closed.Given as goal

abbrev pub invariant-loop-name : goal.invariant-loop-name
invariant-loop-name l =
    is_closed (may_by (language_of l.language) l.marks) (map definition_of (drop l.name-index l.name-items))
    ≡ is_closed (may_by (language_of l.language) l.marks) (language_of l.language).nonterminals
