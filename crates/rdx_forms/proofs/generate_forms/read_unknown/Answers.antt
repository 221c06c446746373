use Rattle.std.proofs.Common.{◌≡◌, ◌∙◌, [], subst}
use Rattle.rdx_lang.specs.Checked.{language_in}
use Rattle.rdx_patterns.specs.Answers.{ReadsPattern}
use Rattle.rdx_patterns.specs.Nonterminals.{names_of}
use Rattle.rdx_templates.specs.Answers.{ReadsHost}
use Rattle.rdx_templates.specs.Scope.{scope_of}
use Rattle.rdx_forms.specs.Inside.Generating.{names_to_read}
use Rattle.rdx_forms.proofs.GenerateChecks.{parts-read}
use Rattle.rdx_forms.proofs.generate_forms.read_unknown.Goals as goal

pub returns : goal.returns
returns c =
    let p = c.args.parts.pattern.now in
    let h = c.args.parts.third.now in
    let S = scope_of c.args.scope.now in
    let n : names_of (language_in c.in_ok-empty.empty) ≡ [] = c.in_ok-empty.ensures in
    let m : c.in_ok-names.names ≡ [] = c.in_ok-names.ensures ∙ n in
    parts-read S [] p h c.read_pattern.result c.read_bound-host.result c.both.result
    (subst (λ ms. ReadsPattern ms p c.read_pattern.result) n c.read_pattern.ensures.reads)
    (subst (λ ms. ReadsHost S (names_to_read ms p) h c.read_bound-host.result) m c.read_bound-host.ensures)
    c.both.ensures.refused c.both.ensures.read
