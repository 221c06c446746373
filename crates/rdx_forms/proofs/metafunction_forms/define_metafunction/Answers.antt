use Rattle.std.proofs.Common.{option_map}
use Rattle.rdx_forms.specs.KnownView.{known_of}
use Rattle.rdx_forms.proofs.MetafunctionChecks.{function-over}
use Rattle.rdx_forms.proofs.metafunction_forms.define_metafunction.Goals as goal

pub returns-clause-defines : goal.returns-clause-defines
returns-clause-defines c =
    function-over (known_of c.args.known.now) c.args.known.now.tabled.nameable c.args.form.now (option_map (λ d. d.now) c.metafunction_name.result) c.metafunction_name.ensures.named
    (option_map (λ d. d.now) c.language_item-language.result) c.in_ok-refusal.refusal c.read_over-read.result c.unless.result
    c.requires.metafunction c.language_item-language.ensures c.in_ok-refusal.ensures c.read_over-read.ensures.reads c.unless.ensures
