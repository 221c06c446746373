use Rattle.std.proofs.Common.{◌≡◌, ◌++◌, drop}
use Rattle.rdx_lang.specs.PatternView.{patterns_of, language_of}
use Rattle.rdx_lang.specs.WellFormed.{defined}
use Rattle.rdx_leftrec.specs.Inside.EmptyRules.{empty_by}
use Rattle.rdx_leftrec.specs.Inside.Leads.{places, all_leads}
use Rattle.rdx_leftrec.proofs.edges.all_leads.Given as goal

abbrev pub invariant-loop-pat : goal.invariant-loop-pat
invariant-loop-pat l =
    l.found.items ++ places (defined (language_of l.nonterminals.language.now)) (all_leads (empty_by (language_of l.nonterminals.language.now) l.empty) (patterns_of (drop l.pat-index l.alternatives)))
    ≡ places (defined (language_of l.nonterminals.language.now)) (all_leads (empty_by (language_of l.nonterminals.language.now) l.empty) (patterns_of l.alternatives))
