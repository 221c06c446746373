use Rattle.std.proofs.Common.{map, sym, ap, ◌∙◌}
use Rattle.rdx_lang.proofs.PlainRecursion.{without_has_none}
use Rattle.rdx_lang.specs.Crosses.{plain_definitions}
use Rattle.rdx_lang.specs.PatternView.{definition_of}
use Rattle.rdx_lang.specs.References.{is_among}
use Rattle.rdx_lang.specs.declared.pattern.Ref.{Ref}
use Rattle.rdx_lang.specs.declared.pattern.Ref.TheVariants.{Nt}
use Rattle.rdx_patterns.specs.Found.{heads}
use Rattle.rdx_patterns.specs.Inside.CrossesTo.{language_among}
use Rattle.rdx_patterns.proofs.PlainDefinitions.{is_among-plain}
use Rattle.rdx_patterns.proofs.lookup.Definitions.has_plain.Goals as goal

pub returns-in-Nt : goal.returns-in-Nt
returns-in-Nt c =
    let ds = map definition_of c.args.self.now in
    let x = c.in-Nt.name in
    c.has_name.ensures ∙ ap (λ z. is_among (Nt z) (heads ds)) c.text.ensures.value ∙ sym (is_among-plain ds x)
    ∙ ap (λ (y : Ref). is_among y (heads (plain_definitions ds))) (sym c.in-Nt.is)

pub returns-in-Cross : goal.returns-in-Cross
returns-in-Cross c =
    let ds = map definition_of c.args.self.now in
    sym (without_has_none (language_among ds) c.in-Cross.field-0 c.in-Cross.field-1) ∙ ap (λ (y : Ref). is_among y (heads (plain_definitions ds))) (sym c.in-Cross.is)
