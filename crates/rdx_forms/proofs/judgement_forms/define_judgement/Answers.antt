use Rattle.std.proofs.Common.{option_map}
use Rattle.rdx_forms.specs.KnownView.{known_of}
use Rattle.rdx_forms.proofs.JudgementChecks.{judgement-over}
use Rattle.rdx_forms.proofs.judgement_forms.define_judgement.Goals as goal

pub returns-clause-defines : goal.returns-clause-defines
returns-clause-defines c =
    judgement-over (known_of c.args.known.now) c.args.known.now.tabled.nameable c.args.form.now (option_map (λ d. d.now) c.judgement_name.result) c.judgement_name.ensures.named
    (option_map (λ d. d.now) c.language_item-language.result) c.in_ok-refusal.refusal c.read_over-read.result c.unless.result
    c.requires.judgement c.language_item-language.ensures c.in_ok-refusal.ensures c.read_over-read.ensures.reads c.unless.ensures
