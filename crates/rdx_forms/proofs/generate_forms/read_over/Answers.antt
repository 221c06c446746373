use Rattle.std.proofs.Common.{◌≡◌, subst}
use Rattle.rdx_lang.specs.Checked.{language_in}
use Rattle.rdx_patterns.specs.Nonterminals.{names_of}
use Rattle.rdx_templates.specs.Answers.{ReadsHost}
use Rattle.rdx_templates.specs.Scope.{scope_of}
use Rattle.rdx_forms.specs.Inside.Generating.{names_to_read}
use Rattle.rdx_forms.proofs.GenerateChecks.{parts-read}
use Rattle.rdx_forms.proofs.KeptNames.{kept-at}
use Rattle.rdx_forms.proofs.generate_forms.read_over.Goals as goal

pub returns-clause-reads : goal.returns-clause-reads
returns-clause-reads c = λ l e.
    let K = c.args.known.now in
    let ns = names_of (language_in l) in
    let p = c.args.parts.pattern.now in
    let h = c.args.parts.third.now in
    let k : c.index-names.result.now ≡ ns =
    kept-at K.tables.nonterminals.items K.program.languages.items K.tabled.nonterminals c.args.place c.index-names.result.now l c.requires.within c.index-names.ensures e
    in
    parts-read (scope_of K.scope) ns p h c.read_over.result c.read_bound-host.result c.both.result (c.read_over.ensures.reads l e)
    (subst (λ ms. ReadsHost (scope_of K.scope) (names_to_read ms p) h c.read_bound-host.result) k c.read_bound-host.ensures)
    c.both.ensures.refused c.both.ensures.read
