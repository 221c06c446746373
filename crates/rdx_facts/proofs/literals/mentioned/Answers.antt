use Rattle.std.proofs.Common.{◌∙◌, List, ℕ, ap}
use Rattle.rdx_lang.specs.PatternView.{language_of}
use Rattle.rdx_lang.specs.Rules.{is_one_of}
use Rattle.rdx_facts.proofs.LiteralLaws.{language-listed}
use Rattle.rdx_facts.proofs.literals.mentioned.Goals as goal

pub returns : goal.returns
returns c = λ s.
    c.in_ok-each_once.ensures s
    ∙ ap (λ (ns : List (List ℕ)). is_one_of ns s) (c.deref.ensures.value ∙ c.in_ok-all.ensures)
    ∙ language-listed s (language_of c.args.language.now)
