use Rattle.std.proofs.Common.{option_map}
use Rattle.rdx_patterns.specs.Nonterminals.{names_of}
use Rattle.rdx_forms.specs.LanguageForms.{named_base}
use Rattle.rdx_forms.specs.KnownView.{known_of}
use Rattle.rdx_forms.proofs.RelationChecks.{relates-over, fits-over}
use Rattle.rdx_forms.proofs.relation_forms.define_by_cases.Goals as goal

pub returns-clause-relates : goal.returns-clause-relates
returns-clause-relates c =
    relates-over (known_of c.args.known.now) c.args.name.now c.args.body.now (option_map (λ d. d.now) c.language_item-language.result) c.in_ok-relation.relation c.in_ok-refusal.refusal
    c.read_over-read.result c.unless.result c.language_item-language.ensures c.in_ok-refusal.ensures c.in_ok-relation.ensures c.read_over-read.ensures.reads c.unless.ensures

pub returns-clause-fits : goal.returns-clause-fits
returns-clause-fits c =
    let K = known_of c.args.known.now in
    let l = option_map (λ d. d.now) c.language_item-language.result in
    fits-over K l (names_of (named_base K l)) c.args.name.now c.in_ok-relation.relation c.args.body.now c.in_ok-refusal.refusal c.read_over-read.result c.unless.result
    c.language_item-language.ensures c.in_ok-refusal.ensures c.read_over-read.ensures.reads c.read_over-read.ensures.fits c.unless.ensures
