use Rattle.std.proofs.Common.{◌∙◌, ap, map}
use Rattle.std.specs.Prelude.{option_map}
use Rattle.rdx_alpha.specs.Inside.WrittenView.{rows_of}
use Rattle.rdx_alpha.proofs.WrittenForms.{place-numbers}
use Rattle.rdx_alpha.proofs.read.place_meant.Goals as goal

pub returns-in_ok-found-in-Some : goal.returns-in_ok-found-in-Some
returns-in_ok-found-in-Some c ps h =
    place-numbers ps (map (λ n. n.now) c.args.all.now) (option_map (λ d. d.now) c.args.place.now.refers) c.in-Some.reference.now c.args.place.now.datum.now
    (map (λ n. n.now) c.deref.result.now) (rows_of c.args.rows.now) c.in_ok-found-in-Some.found.items c.in_ok-found-in-Some.ensures
    (ap (map (λ n. n.now)) c.deref.ensures.value ∙ c.in_ok-names-in-Some.ensures) (ap (option_map (λ d. d.now)) c.in-Some.is) h
