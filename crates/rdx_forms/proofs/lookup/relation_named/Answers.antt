use Rattle.std.proofs.Common.{◌∙◌, ◌<◌, length, Some, ap, sym, arith}
use Rattle.std.proofs.lemmas.Grind.{common_steps}
use Rattle.rdx_lang.specs.ProgramView.{relation_of}
use Rattle.rdx_forms.proofs.PlacesKnown.{no-relation, relation-stands}
use Rattle.rdx_forms.proofs.lookup.relation_named.Goals as goal

pub index-requires : goal.index-requires
index-requires c =
    let h : c.in-Some.place < length c.args.known.now.program.relations.items =
    (relation-stands c.args.known.now.program.relations.items c.args.name.now c.copied.result
    (c.copied.ensures ∙ c.get.ensures.value ∙ c.args.known.now.tabled.relations c.args.name.now) c.in-Some.place c.in-Some.is).0 in
    grind (arith, common_steps, h)

pub returns-in-Some : goal.returns-in-Some
returns-in-Some c =
    sym ((relation-stands c.args.known.now.program.relations.items c.args.name.now c.copied.result
    (c.copied.ensures ∙ c.get.ensures.value ∙ c.args.known.now.tabled.relations c.args.name.now) c.in-Some.place c.in-Some.is).1 c.index.result.now
    ∙ ap (λ r. Some (relation_of r)) (sym c.index.ensures))

pub returns-in-None : goal.returns-in-None
returns-in-None c =
    sym (no-relation c.args.known.now.program.relations.items c.args.name.now c.copied.result
    (c.copied.ensures ∙ c.get.ensures.value ∙ c.args.known.now.tabled.relations c.args.name.now) c.in-None.is)
