use Rattle.std.proofs.Common.{◌≡◌, ◌++◌, ◌∙◌, List, [], ◌∷◌, map, append_assoc, append-nil, sym, ap}
use Rattle.std.proofs.lemmas.Slice.Zip.{Zip-more, either_empty_from_Zip}
use Rattle.std.specs.Iterator.Adapters.{zip_first, zip_second}
use Rattle.std.specs.Prelude.{option_map}
use Rattle.std.specs.Slice.Iter.{iter_rest}
use Rattle.rdx_sexp.specs.Sexp.{Sexp}
use Rattle.rdx_lang.specs.PatternView.{Slot, just, slot_of, items_of}
use Rattle.rdx_patterns.specs.Reading.{reading}
use Rattle.rdx_patterns.specs.declared.patterns.position.Position.TheVariants.{Query}
use Rattle.rdx_parts.specs.Arguments.{data_at, data_by, patterns_in}
use Rattle.rdx_parts.specs.PartViews.{arguments_of, flag_at}
use Rattle.rdx_parts.proofs.ArgumentLists.{data-end}
use Rattle.rdx_parts.proofs.ArgumentReadings.{mapped-first, items-each}
use Rattle.rdx_parts.proofs.stands.readings.read_items.Goals as goal

pub loop-flag-init : goal.loop-flag-init
loop-flag-init c =
    let ns = c.args.names.now in
    let pairs = c.into_iter-flag-iterator.result in
    let f = flag_at c.args.arguments.at_inputs in
    let items = c.args.arguments.items.now in
    let a : iter_rest (zip_first pairs) ≡ c.in-Some.mode.now =
    ap (λ s. iter_rest (zip_first s)) c.into_iter-flag-iterator.ensures.into_iter_gives ∙ ap iter_rest c.zip-flag-items.ensures.first ∙ c.iter.ensures.rest in
    let b : iter_rest (zip_second pairs) ≡ items =
    ap (λ s. iter_rest (zip_second s)) c.into_iter-flag-iterator.ensures.into_iter_gives ∙ c.zip-flag-items.ensures.second.0 in (
      (tt, tt),
      tt,
      (λ i. map slot_of (c.new-items.ensures.items i) ++ map (λ (d : Sexp). just (reading ns Query d)) (data_at (map f (a i)) (b i)))
          ∙ ap (λ o. map (λ (d : Sexp). just (reading ns Query d)) (data_by (option_map (λ m. map f m.now) o) items)) (sym c.in-Some.is),
    )

pub loop-flag-preserved : goal.loop-flag-preserved
loop-flag-preserved c =
    let ns = c.args.names.now in
    let slot : Sexp → Slot = λ d. just (reading ns Query d) in
    let f = flag_at c.args.arguments.at_inputs in
    let b = c.is_pattern.result in
    let d = c.in-Some-2.d.now in
    let bs = iter_rest (zip_first c.next.new.self) in
    let ds = iter_rest (zip_second c.next.new.self) in
    let z = Zip-more c.loop-flag.flag-iterator c.next.new.self c.next.result (c.in-Some-2.flag, c.in-Some-2.d) c.in-Some-2.is c.next.ensures.steps in
    let read = map slot_of c.loop-flag.items.items in
    let later = map slot (data_at (map f bs) ds) in (
      (tt, tt),
      tt,
      ap (λ (ss : List Slot). ss ++ later) c.in_ok-add_item.ensures ∙ append_assoc read (map slot (data_at (b ∷ []) (d ∷ []))) later
          ∙ ap (λ (ss : List Slot). read ++ ss) (sym (mapped-first slot b (map f bs) d ds))
          ∙ ap (λ a. read ++ map slot (data_at (a ∷ map f bs) (d ∷ ds))) c.is_pattern.ensures
          ∙ (λ i. read ++ map slot (data_at (map f (sym z.0 i)) (sym z.1 i))) ∙ c.loop-flag.invariant.2,
    )

pub returns : goal.returns
returns c =
    let ns = c.args.names.now in
    let slot : Sexp → Slot = λ d. just (reading ns Query d) in
    let f = flag_at c.args.arguments.at_inputs in
    let s = c.loop-flag.flag-iterator in
    let read = map slot_of c.loop-flag.items.items in
    ap items_of
    (sym (append-nil read)
    ∙ ap (λ (ds : List Sexp). read ++ map slot ds)
    (sym (data-end f (iter_rest (zip_first s)) (iter_rest (zip_second s)) (either_empty_from_Zip s c.next.new.self c.next.result c.in-None.is c.next.ensures.steps)))
    ∙ c.loop-flag.invariant.2)
    ∙ items-each ns (patterns_in (arguments_of c.args.arguments))
