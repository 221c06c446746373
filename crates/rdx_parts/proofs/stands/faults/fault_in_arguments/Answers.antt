use Rattle.std.proofs.Common.{◌≡◌, ◌++◌, ◌∙◌, List, [], ◌∷◌, map, sym, ap, subst, append-nil, append_assoc}
use Rattle.std.proofs.lemmas.Slice.Zip.{Zip-more, either_empty_from_Zip}
use Rattle.std.specs.Iterator.Adapters.{zip_first, zip_second}
use Rattle.std.specs.Prelude.{Option, option_map}
use Rattle.std.specs.Slice.Iter.{iter_rest}
use Rattle.rdx_sexp.specs.Sexp.{Sexp}
use Rattle.rdx_templates.specs.Bound.{Bound}
use Rattle.rdx_templates.specs.Earliest.{start, lesser, earliest}
use Rattle.rdx_templates.specs.Scope.{scope_of}
use Rattle.rdx_templates.proofs.EarliestPlaces.{lesser_none}
use Rattle.rdx_parts.specs.Arguments.{data_at, data_by}
use Rattle.rdx_parts.specs.Outlines.{each}
use Rattle.rdx_parts.specs.ByNames.{faults_by, flagged_faults, patterns_names}
use Rattle.rdx_parts.specs.PartViews.{flag_at}
use Rattle.rdx_parts.specs.PartsHave.{AreReadable, CanBind}
use Rattle.rdx_parts.proofs.ArgumentLists.{bind-argument, faults-end, earliest-first}
use Rattle.rdx_parts.proofs.stands.faults.fault_in_arguments.Goals as goal

pub loop-flag-init : goal.loop-flag-init
loop-flag-init c =
    let k = c.args.check in
    let S = scope_of c.args.scope.now in
    let ns = c.args.names.now in
    let es = c.args.before.now in
    let all = c.args.all.now in
    let pairs = c.into_iter-flag-iterator.result in
    let f = flag_at c.args.arguments.at_inputs in
    let items = c.args.arguments.items.now in
    let a : iter_rest (zip_first pairs) ≡ c.in-Some.mode.now =
    ap (λ s. iter_rest (zip_first s)) c.into_iter-flag-iterator.ensures.into_iter_gives ∙ ap iter_rest c.zip-flag-items.ensures.first ∙ c.iter.ensures.rest in
    let b : iter_rest (zip_second pairs) ≡ items =
    ap (λ s. iter_rest (zip_second s)) c.into_iter-flag-iterator.ensures.into_iter_gives ∙ c.zip-flag-items.ensures.second.0 in
    let same : data_by (option_map (λ m. map f m.now) c.args.arguments.mode) items ≡ data_at (map f (iter_rest (zip_first pairs))) (iter_rest (zip_second pairs)) =
    ap (λ o. data_by (option_map (λ m. map f m.now) o) items) c.in-Some.is ∙ (λ i. data_at (map f (sym a i)) (sym b i)) in (
      (tt, tt),
      tt,
      subst (λ (ds : List Sexp). CanBind ns (each ds)) same c.requires.patterns,
      subst AreReadable (sym b) c.requires.readable,
      ap (λ (gs : Bound). earliest start (flagged_faults k S ns gs all (map f (iter_rest (zip_first pairs))) (iter_rest (zip_second pairs))))
          (ap (λ (gs : Bound). es ++ gs) c.new-here.ensures ∙ append-nil es)
          ∙ (λ i. earliest start (flagged_faults k S ns es all (map f (a i)) (b i)))
          ∙ sym (ap (λ o. earliest start (faults_by k S ns es all (option_map (λ m. map f m.now) o) items)) c.in-Some.is),
    )

pub fault_in_argument-requires-clause-pattern : goal.fault_in_argument-requires-clause-pattern
fault_in_argument-requires-clause-pattern c =
    let ns = c.args.names.now in
    let f = flag_at c.args.arguments.at_inputs in
    let z = Zip-more c.loop-flag.flag-iterator c.next.new.self c.next.result (c.in-Some-2.flag, c.in-Some-2.d) c.in-Some-2.is c.next.ensures.steps in
    let h = subst (λ (ds : List Sexp). CanBind ns (each ds)) (λ i. data_at (map f (z.0 i)) (z.1 i)) c.loop-flag.invariant.2 in
    let k =
    bind-argument ns (f c.in-Some-2.flag.now) (map f (iter_rest (zip_first c.next.new.self))) c.in-Some-2.d.now (iter_rest (zip_second c.next.new.self)) h in
    λ t. k.0 (sym c.is_pattern-is_pattern.ensures ∙ t)

pub fault_in_argument-requires-clause-readable : goal.fault_in_argument-requires-clause-readable
fault_in_argument-requires-clause-readable c =
    let z = Zip-more c.loop-flag.flag-iterator c.next.new.self c.next.result (c.in-Some-2.flag, c.in-Some-2.d) c.in-Some-2.is c.next.ensures.steps in
    (subst AreReadable z.1 c.loop-flag.invariant.3).0

pub add_argument_names-requires : goal.add_argument_names-requires
add_argument_names-requires c =
    let ns = c.args.names.now in
    let f = flag_at c.args.arguments.at_inputs in
    let z = Zip-more c.loop-flag.flag-iterator c.next.new.self c.next.result (c.in-Some-2.flag, c.in-Some-2.d) c.in-Some-2.is c.next.ensures.steps in
    let h = subst (λ (ds : List Sexp). CanBind ns (each ds)) (λ i. data_at (map f (z.0 i)) (z.1 i)) c.loop-flag.invariant.2 in
    let k =
    bind-argument ns (f c.in-Some-2.flag.now) (map f (iter_rest (zip_first c.next.new.self))) c.in-Some-2.d.now (iter_rest (zip_second c.next.new.self)) h in
    λ t. k.0 (sym c.is_pattern-is_pattern.ensures ∙ t)

pub loop-flag-preserved : goal.loop-flag-preserved
loop-flag-preserved c =
    let k = c.args.check in
    let S = scope_of c.args.scope.now in
    let ns = c.args.names.now in
    let before = c.args.before.now in
    let here = c.loop-flag.here in
    let es = before ++ here in
    let all = c.args.all.now in
    let f = flag_at c.args.arguments.at_inputs in
    let b = f c.in-Some-2.flag.now in
    let d = c.in-Some-2.d.now in
    let bs = map f (iter_rest (zip_first c.next.new.self)) in
    let ds = iter_rest (zip_second c.next.new.self) in
    let z = Zip-more c.loop-flag.flag-iterator c.next.new.self c.next.result (c.in-Some-2.flag, c.in-Some-2.d) c.in-Some-2.is c.next.ensures.steps in
    let h = subst (λ (es : List Sexp). CanBind ns (each es)) (λ i. data_at (map f (z.0 i)) (z.1 i)) c.loop-flag.invariant.2 in
    let more : before ++ c.add_argument_names.new.out ≡ es ++ patterns_names ns (data_at (b ∷ []) (d ∷ [])) =
    ap (λ (gs : Bound). before ++ gs)
    (c.in_ok-add_argument_names.ensures ∙ ap (λ x. here ++ patterns_names ns (data_at (x ∷ []) (d ∷ []))) c.is_pattern-is_pattern.ensures)
    ∙ sym (append_assoc before here (patterns_names ns (data_at (b ∷ []) (d ∷ [])))) in (
      (tt, tt),
      tt,
      (bind-argument ns b bs d ds h).1,
      (subst AreReadable z.1 c.loop-flag.invariant.3).1,
      ap (λ (p : Option Sexp). lesser start p (earliest start (flagged_faults k S ns (before ++ c.add_argument_names.new.out) all bs ds)))
          (c.earlier-place.ensures
          ∙ ap (lesser start (option_map (λ d. d.now) c.loop-flag.place))
          (c.in_ok-fault.ensures ∙ (λ i. earliest start (flagged_faults k S ns es all (c.is_pattern-is_pattern.ensures i ∷ []) (d ∷ [])))))
          ∙ ap (λ (gs : Bound). lesser start (lesser start (option_map (λ d. d.now) c.loop-flag.place) (earliest start (flagged_faults k S ns es all (b ∷ []) (d ∷ []))))
          (earliest start (flagged_faults k S ns gs all bs ds))) more
          ∙ sym (earliest-first k S ns all es b bs d ds (option_map (λ d. d.now) c.loop-flag.place))
          ∙ (λ i. lesser start (option_map (λ d. d.now) c.loop-flag.place) (earliest start (flagged_faults k S ns es all (map f (sym z.0 i)) (sym z.1 i))))
          ∙ c.loop-flag.invariant.4,
    )

pub returns : goal.returns
returns c =
    let f = flag_at c.args.arguments.at_inputs in
    let s = c.loop-flag.flag-iterator in
    let place = option_map (λ d. d.now) c.loop-flag.place in
    sym (lesser_none start place)
    ∙ ap (λ (ds : List Sexp). lesser start place (earliest start ds))
    (sym (faults-end c.args.check (scope_of c.args.scope.now) c.args.names.now c.args.all.now (c.args.before.now ++ c.loop-flag.here) f (iter_rest (zip_first s)) (iter_rest (zip_second s))
    (either_empty_from_Zip s c.next.new.self c.next.result c.in-None.is c.next.ensures.steps)))
    ∙ c.loop-flag.invariant.4
