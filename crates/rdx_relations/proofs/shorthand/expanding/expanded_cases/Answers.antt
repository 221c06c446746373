use Rattle.std.proofs.Common.{◌∙◌, [], ap}
use Rattle.rdx_relations.specs.Expansion.{repeated_arrows}
use Rattle.rdx_relations.specs.Inside.ShortcutViews.{shortcuts_in}
use Rattle.rdx_relations.specs.Shorthand.{shortcuts_of}
use Rattle.rdx_relations.proofs.ShorthandRefused.{first-unrepeated}
use Rattle.rdx_relations.proofs.SpelledCases.{expanded-readable, expanded-so}
use Rattle.rdx_relations.proofs.shorthand.expanding.expanded_cases.Goals as goal

pub expand_cases-requires : goal.expand_cases-requires
expand_cases-requires c =
    ap (repeated_arrows []) (ap shortcuts_in c.in_ok-arrows.ensures ∙ c.in_ok-used.ensures) ∙ first-unrepeated [] (shortcuts_of c.args.cut.shortcuts.now)

pub returns-clause-readable : goal.returns-clause-readable
returns-clause-readable c =
    let cut = c.args.cut in
    expanded-readable c.expand_cases.result cut.cases.now cut.shortcuts.now (expanded-so c.expand_cases.result cut.cases.now cut.shortcuts.now (shortcuts_in c.in_ok-arrows.arrows.shortcuts.items) (ap shortcuts_in c.in_ok-arrows.ensures ∙ c.in_ok-used.ensures) c.expand_cases.ensures.made) c.expand_cases.ensures.depth
