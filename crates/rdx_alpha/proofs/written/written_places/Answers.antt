use Rattle.std.proofs.Common.{◌∙◌, ap, sym}
use Rattle.std.specs.Prelude.{option_map}
use Rattle.rdx_alpha.specs.Inside.WrittenView.{written_place_of}
use Rattle.rdx_alpha.proofs.WrittenForms.{next-places}
use Rattle.rdx_alpha.proofs.written.written_places.Goals as goal

pub loop-datum-preserved : goal.loop-datum-preserved
loop-datum-preserved c =
    next-places c.loop-datum.places.items c.push.new.self.items c.in-Some-place_before.place c.loop-datum.left.now c.in-Some.datum.now c.in-Some.behind.now
    c.in-Some-place_before.others.now c.in_ok-push.ensures.items c.in-Some.ensures.cases.0
    (sym (ap (option_map (λ p. (written_place_of p.0, p.1.now))) c.in-Some-place_before.is) ∙ c.place_before.ensures.place)
    ∙ c.loop-datum.invariant
