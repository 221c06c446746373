use Rattle.std.proofs.Common.{map, ap, ◌∙◌}
use Rattle.rdx_lang.specs.Checked.{language_in}
use Rattle.rdx_lang.specs.PatternView.{definition_of}
use Rattle.rdx_lang.specs.declared.checked.CheckedLang.{CheckedLang}
use Rattle.rdx_lang.specs.declared.pattern.Ref.TheVariants.{Nt}
use Rattle.rdx_grammar.specs.Checks.{is_some_pattern}
use Rattle.rdx_patterns.proofs.DefinitionKeys.{nothing-of}
use Rattle.rdx_grammar.proofs.languages.bases.Base.has_alternatives.Goals as goal

pub returns-in-None : goal.returns-in-None
returns-in-None c =
    ap is_some_pattern
    (nothing-of (language_in c.args.self.now) (map definition_of c.self.inside.definitions) (Nt c.args.name.now) c.find_named.result
    (c.self.invariant ∙ ap (λ (l : CheckedLang). (language_in l).nonterminals) c.self.view_is) c.find_named.ensures c.in-None.is)
