use Rattle.std.proofs.Common.{◌≡◌, ◌+◌, [], ◌∙◌, map, drop, sym, ap}
use Rattle.std.proofs.lemmas.Result.{on_ok_weaker}
use Rattle.std.specs.BTreeSet.{BTreeSet}
use Rattle.rdx_lang.specs.Inside.Keys.{names_in}
use Rattle.rdx_lang.specs.Names.{with_name, with_length_name, add_names, names, item_names}
use Rattle.rdx_lang.specs.Patterns.{Pattern, Items, named, in_hole}
use Rattle.rdx_lang.specs.PatternView.{pattern_of, slot_of, items_of}
use Rattle.rdx_lang.specs.declared.key.Key.{Key}
use Rattle.rdx_lang.specs.declared.pattern.Pat as code_pattern
use Rattle.rdx_lang.proofs.ItemsAhead.{ahead-one, ahead-many}
use Rattle.rdx_lang.proofs.NameSets.{in_turn-named, in_turn-in_hole, in_turn-one, in_turn-many}
use Rattle.rdx_lang.proofs.PatternEquations.{pattern_named, pattern_in_hole}
use Rattle.rdx_lang.proofs.names.+names.Goals as goal
use Rattle.rdx_lang.proofs.names.+names.Goals.{add_item_names-in-One+in_ok-add_names-in-One, add_item_names-in-Many+in_ok-add_names-in-Many+in_ok-add_length_name-in-Many}

pub add_item_names-loop-item-preserved : goal.add_item_names-loop-item-preserved
add_item_names-loop-item-preserved t c =
    let items = c.args.items.now in
    let i = c.loop-item.item-index in
    let rest = items_of (map slot_of (drop (i + 1) items)) in
    let old = names_in c.loop-item.out in
    elim c.match-item.branch [
      | add_item_names-in-One+in_ok-add_names-in-One w ↦
          let p = pattern_of w.in-One.pat in
          let ahead = ahead-one items i c.item-item.result c.loop-item-test.true c.item-item.is w.in-One.pat w.in-One.is in
          ap (λ (o : BTreeSet Key). add_names (item_names rest) (names_in o)) w.out-is
          ∙ ap (add_names (item_names rest)) w.in_ok-add_names-in-One.ensures
          ∙ sym (in_turn-one p rest old)
          ∙ ap (λ (ps : Items). add_names (item_names ps) old) (sym ahead)
          ∙ c.loop-item.invariant
      | add_item_names-in-Many+in_ok-add_names-in-Many+in_ok-add_length_name-in-Many w ↦
          let p = pattern_of w.in-Many.pat in
          let n = w.in-Many.length in
          let ahead = ahead-many items i c.item-item.result c.loop-item-test.true c.item-item.is w.in-Many.pat n w.in-Many.is in
          ap (λ (o : BTreeSet Key). add_names (item_names rest) (names_in o)) w.out-is
          ∙ ap (add_names (item_names rest)) w.in_ok-add_length_name-in-Many.ensures
          ∙ ap (λ ns. add_names (item_names rest) (add_names (with_length_name n []) ns)) w.in_ok-add_names-in-Many.ensures
          ∙ sym (in_turn-many p n rest old)
          ∙ ap (λ (ps : Items). add_names (item_names ps) old) (sym ahead)
          ∙ c.loop-item.invariant
    ]

pub add_names-returns-in_ok-add_names-in-Named : goal.add_names-returns-in_ok-add_names-in-Named
add_names-returns-in_ok-add_names-in-Named t c =
    let x = c.in-Named.name in
    let q = pattern_of c.deref.result.now in
    let old = names_in c.args.out.now in
    let e : pattern_of c.args.pat.now ≡ named x q = ap pattern_of c.in-Named.is ∙ pattern_named x c.in-Named.inner
    ∙ ap (λ (p : code_pattern.Pat). named x (pattern_of p)) (sym c.deref.ensures) in
    let f : names_in c.add_names.new.out ≡ add_names (names q) old = c.in_ok-add_names-in-Named.ensures in
    on_ok_weaker c.add_name.result
    (λ h. h ∙ ap (with_name x) f ∙ sym (in_turn-named x q old) ∙ ap (λ (p : Pattern). add_names (names p) old) (sym e))
    c.add_name.ensures

pub add_names-returns-in_ok-add_names-in-InHole : goal.add_names-returns-in_ok-add_names-in-InHole
add_names-returns-in_ok-add_names-in-InHole t c =
    let q = pattern_of c.deref-in-InHole.result.now in
    let r = pattern_of c.deref-in-InHole-2.result.now in
    let old = names_in c.args.out.now in
    let e : pattern_of c.args.pat.now ≡ in_hole q r =
    ap pattern_of c.in-InHole.is ∙ pattern_in_hole c.in-InHole.left c.in-InHole.right
    ∙ (λ i. in_hole (pattern_of (sym c.deref-in-InHole.ensures i)) (pattern_of (sym c.deref-in-InHole-2.ensures i))) in
    let f : names_in c.add_names-in-InHole.new.out ≡ add_names (names q) old = c.in_ok-add_names-in-InHole.ensures in
    on_ok_weaker c.add_names-in-InHole-2.result
    (λ h. h ∙ ap (add_names (names r)) f ∙ sym (in_turn-in_hole q r old) ∙ ap (λ (p : Pattern). add_names (names p) old) (sym e))
    c.add_names-in-InHole-2.ensures
