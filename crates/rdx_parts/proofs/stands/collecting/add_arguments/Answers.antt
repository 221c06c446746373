use Rattle.std.proofs.Common.{◌≡◌, ◌++◌, ◌∙◌, List, [], ◌∷◌, map, sym, ap, subst, append-nil, append_assoc}
use Rattle.std.proofs.lemmas.Slice.Zip.{Zip-more, either_empty_from_Zip}
use Rattle.std.specs.Iterator.Adapters.{zip_first, zip_second}
use Rattle.std.specs.Prelude.{option_map}
use Rattle.std.specs.Slice.Iter.{iter_rest}
use Rattle.rdx_parts.specs.BareStands.{arguments_by, flagged_stand}
use Rattle.rdx_parts.specs.PartViews.{flag_at, stands_of}
use Rattle.rdx_parts.specs.PartsHave.{AreReadable}
use Rattle.rdx_parts.specs.Stands.{Stand}
use Rattle.rdx_parts.proofs.ArgumentLists.{stands-first, stands-end}
use Rattle.rdx_parts.proofs.stands.collecting.add_arguments.Goals as goal

pub loop-flag-init : goal.loop-flag-init
loop-flag-init c =
    let pairs = c.into_iter-flag-iterator.result in
    let f = flag_at c.args.arguments.at_inputs in
    let ds = c.args.arguments.items.now in
    let a : iter_rest (zip_first pairs) ≡ c.in-Some.mode.now =
    ap (λ s. iter_rest (zip_first s)) c.into_iter-flag-iterator.ensures.into_iter_gives ∙ ap iter_rest c.zip-flag-items.ensures.first ∙ c.iter.ensures.rest in
    let b : iter_rest (zip_second pairs) ≡ ds =
    ap (λ s. iter_rest (zip_second s)) c.into_iter-flag-iterator.ensures.into_iter_gives ∙ c.zip-flag-items.ensures.second.0 in
    let out = stands_of c.args.out.now.items in (
      (tt, tt),
      tt,
      subst AreReadable (sym b) c.requires,
      (λ i. out ++ flagged_stand (map f (a i)) (b i)) ∙ ap (λ o. out ++ arguments_by (option_map (λ m. map f m.now) o) ds) (sym c.in-Some.is),
    )

pub add_argument-requires : goal.add_argument-requires
add_argument-requires c =
    let z = Zip-more c.loop-flag.flag-iterator c.next.new.self c.next.result (c.in-Some-2.flag, c.in-Some-2.d) c.in-Some-2.is c.next.ensures.steps in
    (subst AreReadable z.1 c.loop-flag.invariant.2).0

pub loop-flag-preserved : goal.loop-flag-preserved
loop-flag-preserved c =
    let f = flag_at c.args.arguments.at_inputs in
    let b = f c.in-Some-2.flag.now in
    let d = c.in-Some-2.d.now in
    let bs = map f (iter_rest (zip_first c.next.new.self)) in
    let ds = iter_rest (zip_second c.next.new.self) in
    let z = Zip-more c.loop-flag.flag-iterator c.next.new.self c.next.result (c.in-Some-2.flag, c.in-Some-2.d) c.in-Some-2.is c.next.ensures.steps in
    let out = stands_of c.loop-flag.out.items in (
      (tt, tt),
      tt,
      (subst AreReadable z.1 c.loop-flag.invariant.2).1,
      ap (λ (ss : List Stand). ss ++ flagged_stand bs ds) (c.in_ok-add_argument.ensures ∙ ap (λ x. out ++ flagged_stand (x ∷ []) (d ∷ [])) c.is_pattern.ensures)
          ∙ append_assoc out (flagged_stand (b ∷ []) (d ∷ [])) (flagged_stand bs ds)
          ∙ ap (λ (ss : List Stand). out ++ ss) (sym (stands-first b bs d ds) ∙ (λ i. flagged_stand (map f (sym z.0 i)) (sym z.1 i)))
          ∙ c.loop-flag.invariant.3,
    )

pub returns : goal.returns
returns c =
    let f = flag_at c.args.arguments.at_inputs in
    let s = c.loop-flag.flag-iterator in
    let out = stands_of c.loop-flag.out.items in
    sym (append-nil out)
    ∙ ap (λ (ss : List Stand). out ++ ss)
    (sym (stands-end f (iter_rest (zip_first s)) (iter_rest (zip_second s)) (either_empty_from_Zip s c.next.new.self c.next.result c.in-None.is c.next.ensures.steps)))
    ∙ c.loop-flag.invariant.3
