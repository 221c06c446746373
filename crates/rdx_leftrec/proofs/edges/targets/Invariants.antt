use Rattle.std.proofs.Common.{◌≡◌, ◌++◌, drop, map}
use Rattle.rdx_lang.specs.PatternView.{definition_of, language_of}
use Rattle.rdx_lang.specs.WellFormed.{defined}
use Rattle.rdx_leftrec.specs.Inside.EmptyRules.{empty_by}
use Rattle.rdx_leftrec.specs.Inside.Leads.{places, all_leads, targets_of, lists_of}
use Rattle.rdx_leftrec.proofs.edges.targets.Given as goal

abbrev pub invariant-loop-alternatives : goal.invariant-loop-alternatives
invariant-loop-alternatives l =
    lists_of l.targets.items
    ++ map (λ d. places (defined (language_of l.nonterminals.language.now)) (all_leads (empty_by (language_of l.nonterminals.language.now) l.empty) d.1))
    (map definition_of (drop l.alternatives-index l.alternatives-items))
    ≡ targets_of (empty_by (language_of l.nonterminals.language.now) l.empty) (language_of l.nonterminals.language.now)
