use Rattle.std.proofs.Common.{◌∙◌, ◌<◌, length, Some, ap, sym, arith}
use Rattle.std.proofs.lemmas.Grind.{common_steps}
use Rattle.std.specs.Rc.{rc_str_bytes}
use Rattle.rdx_forms.proofs.PlacesKnown.{no-pair, pair-stands}
use Rattle.rdx_forms.proofs.lookup.judgement_language.Goals as goal

pub index-requires : goal.index-requires
index-requires c =
    let h : c.in-Some.place < length c.args.known.now.languages.items =
    (pair-stands c.args.known.now.languages.items c.args.name.now c.copied.result
    (c.copied.ensures ∙ c.get.ensures.value ∙ c.args.known.now.asked c.args.name.now) c.in-Some.place c.in-Some.is).0 in
    grind (arith, common_steps, h)

pub returns-in-Some : goal.returns-in-Some
returns-in-Some c =
    ap Some c.as_str.ensures.value
    ∙ sym ((pair-stands c.args.known.now.languages.items c.args.name.now c.copied.result
    (c.copied.ensures ∙ c.get.ensures.value ∙ c.args.known.now.asked c.args.name.now) c.in-Some.place c.in-Some.is).1 c.index.result.now
    ∙ ap (λ p. Some (rc_str_bytes p.1)) (sym c.index.ensures))

pub returns-in-None : goal.returns-in-None
returns-in-None c =
    sym (no-pair c.args.known.now.languages.items c.args.name.now c.copied.result
    (c.copied.ensures ∙ c.get.ensures.value ∙ c.args.known.now.asked c.args.name.now) c.in-None.is)
