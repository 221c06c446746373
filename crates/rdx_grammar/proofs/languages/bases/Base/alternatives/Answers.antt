use Rattle.std.proofs.Common.{map, ap, ◌∙◌}
use Rattle.rdx_lang.specs.Checked.{language_in}
use Rattle.rdx_lang.specs.PatternView.{definition_of}
use Rattle.rdx_lang.specs.declared.checked.CheckedLang.{CheckedLang}
use Rattle.rdx_patterns.proofs.DefinitionKeys.{nothing-of}
use Rattle.rdx_grammar.proofs.languages.bases.Base.alternatives.Goals as goal

pub returns-in-None : goal.returns-in-None
returns-in-None c =
    nothing-of (language_in c.args.self.now) (map definition_of c.self.inside.definitions) c.args.nonterminal.now c.find.result
    (c.self.invariant ∙ ap (λ (l : CheckedLang). (language_in l).nonterminals) c.self.view_is) c.find.ensures c.in-None.is
