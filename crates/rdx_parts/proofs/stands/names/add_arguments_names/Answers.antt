use Rattle.std.proofs.Common.{◌≡◌, ◌++◌, ◌∙◌, List, [], ◌∷◌, map, sym, ap, subst, append-nil, append_assoc}
use Rattle.std.proofs.lemmas.Slice.Zip.{Zip-more, either_empty_from_Zip}
use Rattle.std.specs.Iterator.Adapters.{zip_first, zip_second}
use Rattle.std.specs.Prelude.{option_map}
use Rattle.std.specs.Slice.Iter.{iter_rest}
use Rattle.rdx_sexp.specs.Sexp.{Sexp}
use Rattle.rdx_templates.specs.Bound.{Bound}
use Rattle.rdx_parts.specs.Arguments.{data_at, data_by}
use Rattle.rdx_parts.specs.Outlines.{each}
use Rattle.rdx_parts.specs.ByNames.{patterns_names}
use Rattle.rdx_parts.specs.PartViews.{flag_at}
use Rattle.rdx_parts.specs.PartsHave.{CanBind}
use Rattle.rdx_parts.proofs.ArgumentLists.{bind-argument, data-end, names-first}
use Rattle.rdx_parts.proofs.stands.names.add_arguments_names.Goals as goal

pub loop-flag-init : goal.loop-flag-init
loop-flag-init c =
    let ns = c.args.names.now in
    let pairs = c.into_iter-flag-iterator.result in
    let f = flag_at c.args.arguments.at_inputs in
    let items = c.args.arguments.items.now in
    let a : iter_rest (zip_first pairs) ≡ c.in-Some.mode.now =
    ap (λ s. iter_rest (zip_first s)) c.into_iter-flag-iterator.ensures.into_iter_gives ∙ ap iter_rest c.zip-flag-items.ensures.first ∙ c.iter.ensures.rest in
    let b : iter_rest (zip_second pairs) ≡ items =
    ap (λ s. iter_rest (zip_second s)) c.into_iter-flag-iterator.ensures.into_iter_gives ∙ c.zip-flag-items.ensures.second.0 in
    let same : data_by (option_map (λ m. map f m.now) c.args.arguments.mode) items ≡ data_at (map f (iter_rest (zip_first pairs))) (iter_rest (zip_second pairs)) =
    ap (λ o. data_by (option_map (λ m. map f m.now) o) items) c.in-Some.is ∙ (λ i. data_at (map f (sym a i)) (sym b i)) in (
      (tt, tt),
      tt,
      subst (λ (ds : List Sexp). CanBind ns (each ds)) same c.requires,
      ap (λ (ds : List Sexp). c.args.out.now ++ patterns_names ns ds) (sym same),
    )

pub add_argument_names-requires : goal.add_argument_names-requires
add_argument_names-requires c =
    let ns = c.args.names.now in
    let f = flag_at c.args.arguments.at_inputs in
    let z = Zip-more c.loop-flag.flag-iterator c.next.new.self c.next.result (c.in-Some-2.flag, c.in-Some-2.d) c.in-Some-2.is c.next.ensures.steps in
    let h = subst (λ (ds : List Sexp). CanBind ns (each ds)) (λ i. data_at (map f (z.0 i)) (z.1 i)) c.loop-flag.invariant.2 in
    let k =
    bind-argument ns (f c.in-Some-2.flag.now) (map f (iter_rest (zip_first c.next.new.self))) c.in-Some-2.d.now (iter_rest (zip_second c.next.new.self)) h in
    λ t. k.0 (sym c.is_pattern.ensures ∙ t)

pub loop-flag-preserved : goal.loop-flag-preserved
loop-flag-preserved c =
    let ns = c.args.names.now in
    let f = flag_at c.args.arguments.at_inputs in
    let b = f c.in-Some-2.flag.now in
    let d = c.in-Some-2.d.now in
    let bs = map f (iter_rest (zip_first c.next.new.self)) in
    let ds = iter_rest (zip_second c.next.new.self) in
    let z = Zip-more c.loop-flag.flag-iterator c.next.new.self c.next.result (c.in-Some-2.flag, c.in-Some-2.d) c.in-Some-2.is c.next.ensures.steps in
    let h = subst (λ (es : List Sexp). CanBind ns (each es)) (λ i. data_at (map f (z.0 i)) (z.1 i)) c.loop-flag.invariant.2 in
    let out = c.loop-flag.out in
    let here = patterns_names ns (data_at (b ∷ []) (d ∷ [])) in
    let rest = patterns_names ns (data_at bs ds) in (
      (tt, tt),
      tt,
      (bind-argument ns b bs d ds h).1,
      ap (λ (es : Bound). es ++ rest)
          (c.in_ok-add_argument_names.ensures ∙ ap (λ x. out ++ patterns_names ns (data_at (x ∷ []) (d ∷ []))) c.is_pattern.ensures)
          ∙ append_assoc out here rest
          ∙ ap (λ (es : Bound). out ++ es) (sym (names-first ns b bs d ds) ∙ (λ i. patterns_names ns (data_at (map f (sym z.0 i)) (sym z.1 i))))
          ∙ c.loop-flag.invariant.3,
    )

pub returns : goal.returns
returns c =
    let ns = c.args.names.now in
    let f = flag_at c.args.arguments.at_inputs in
    let s = c.loop-flag.flag-iterator in
    let out = c.loop-flag.out in
    sym (append-nil out)
    ∙ ap (λ (ds : List Sexp). out ++ patterns_names ns ds)
    (sym (data-end f (iter_rest (zip_first s)) (iter_rest (zip_second s)) (either_empty_from_Zip s c.next.new.self c.next.result c.in-None.is c.next.ensures.steps)))
    ∙ c.loop-flag.invariant.3
