use Rattle.std.proofs.Common.{◌≡◌, ◌++◌, drop, map}
use Rattle.rdx_lang.specs.PatternView.{patterns_of, language_of}
use Rattle.rdx_facts.specs.Inside.Flags.{mays, may_of, may_by}
use Rattle.rdx_facts.proofs.knowing.each_of.Given as goal

abbrev pub invariant-loop-pat : goal.invariant-loop-pat
invariant-loop-pat l =
    mays l.each.items ++ map (λ p. may_of (may_by (language_of l.language) l.marks) p) (patterns_of (drop l.pat-index l.pats))
    ≡ map (λ p. may_of (may_by (language_of l.language) l.marks) p) (patterns_of l.pats)
