use Rattle.std.proofs.Common.{◌≡◌, ◌++◌, ◌∙◌, true, not, List, ◌∷◌, map, append-nil, sym, ap}
use Rattle.std.proofs.lemmas.Slice.Zip.{Zip-more, either_empty_from_Zip}
use Rattle.std.specs.Iterator.Adapters.{zip_first, zip_second}
use Rattle.std.specs.Prelude.{option_map}
use Rattle.std.specs.Slice.Iter.{iter_rest}
use Rattle.rdx_sexp.specs.Sexp.{Sexp}
use Rattle.rdx_lang.specs.TemplateView.{template_of}
use Rattle.rdx_templates.specs.Scope.{scope_of}
use Rattle.rdx_parts.specs.Arguments.{data_at, data_by}
use Rattle.rdx_parts.specs.ExtraReading.{templates_reading}
use Rattle.rdx_parts.specs.PartViews.{flag_at}
use Rattle.rdx_parts.proofs.ArgumentReadings.{templates-end}
use Rattle.rdx_parts.proofs.stands.readings.read_templates.Goals as goal

pub loop-flag-init : goal.loop-flag-init
loop-flag-init c =
    let S = scope_of c.args.scope.now in
    let es = c.args.bound.now in
    let pairs = c.into_iter-flag-iterator.result in
    let f = flag_at c.args.arguments.at_inputs in
    let items = c.args.arguments.items.now in
    let a : iter_rest (zip_first pairs) ≡ c.in-Some.mode.now =
    ap (λ s. iter_rest (zip_first s)) c.into_iter-flag-iterator.ensures.into_iter_gives ∙ ap iter_rest c.zip-flag-items.ensures.first ∙ c.iter.ensures.rest in
    let b : iter_rest (zip_second pairs) ≡ items =
    ap (λ s. iter_rest (zip_second s)) c.into_iter-flag-iterator.ensures.into_iter_gives ∙ c.zip-flag-items.ensures.second.0 in (
      (tt, tt),
      tt,
      (λ i. map template_of (c.new-read.ensures.items i) ++ templates_reading S es (data_at (map not (map f (a i))) (b i)))
          ∙ ap (λ o. templates_reading S es (data_by (option_map (map not) (option_map (λ m. map f m.now) o)) items)) (sym c.in-Some.is),
    )

pub loop-flag-preserved : goal.loop-flag-preserved
loop-flag-preserved c =
    let S = scope_of c.args.scope.now in
    let es = c.args.bound.now in
    let f = flag_at c.args.arguments.at_inputs in
    let d = c.in-Some-2.d.now in
    let bs = iter_rest (zip_first c.next.new.self) in
    let ds = iter_rest (zip_second c.next.new.self) in
    let z = Zip-more c.loop-flag.flag-iterator c.next.new.self c.next.result (c.in-Some-2.flag, c.in-Some-2.d) c.in-Some-2.is c.next.ensures.steps in
    let read = map template_of c.loop-flag.read.items in
    let e : true ≡ f c.in-Some-2.flag.now = sym c.if-not-is_pattern.false ∙ c.is_pattern.ensures in (
      (tt, tt),
      tt,
      (λ i. read ++ templates_reading S es (data_at (not (e i) ∷ map not (map f bs)) (d ∷ ds)))
          ∙ (λ i. read ++ templates_reading S es (data_at (map not (map f (sym z.0 i))) (sym z.1 i)))
          ∙ c.loop-flag.invariant.2,
    )

pub returns : goal.returns
returns c =
    let S = scope_of c.args.scope.now in
    let f = flag_at c.args.arguments.at_inputs in
    let s = c.loop-flag.flag-iterator in
    let read = map template_of c.loop-flag.read.items in
    sym (append-nil read)
    ∙ ap (λ (ds : List Sexp). read ++ templates_reading S c.args.bound.now ds)
    (sym (templates-end f (iter_rest (zip_first s)) (iter_rest (zip_second s)) (either_empty_from_Zip s c.next.new.self c.next.result c.in-None.is c.next.ensures.steps)))
    ∙ c.loop-flag.invariant.2
