use Rattle.std.proofs.Common.{◌∙◌, get_or, map, sym, ap, subst}
use Rattle.rdx_term.specs.Tree.{Tree, list}
use Rattle.rdx_term.specs.View.{tree_of, trees_of}
use Rattle.rdx_lang.specs.Checked.{language_in}
use Rattle.rdx_lang.specs.PatternView.{pattern_of}
use Rattle.rdx_lang.specs.declared.pattern.Ref.{Ref}
use Rattle.rdx_why.specs.Inside.Around.{IsShared}
use Rattle.rdx_why.proofs.HoleQuestions.{read_there, count_there}
use Rattle.rdx_why.proofs.around.shared_path.Goals as goal

pub returns : goal.returns
returns c =
    let L = language_in c.args.language.now in
    let C = tree_of c.args.context.now in
    let qs = map pattern_of c.args.alternatives.now in
    let U = tree_of c.in_ok-around.around in
    let xs = c.in-Some.parts.items.now in
    let k = c.in-Some-mark.place in
    let there = c.if-place-parts.false in
    let D = tree_of (get_or xs k c.index-parts-place.result) in
    let s : IsShared L qs C c.in-Some-name_on_way.name.now D U = record {
      items = trees_of xs;
      place = k;
      context = c.in-Some.ensures.some ∙ ap (λ m. list m (trees_of xs)) c.in-Some-mark.is;
      there = count_there xs k there;
      inner = read_there xs k c.index-parts-place.result there c.index-parts-place.is ∙ ap tree_of c.index-parts-place.is;
      only = c.is_only_hole.ensures c.if-not-is_only_hole.false;
      around = c.in_ok-around.ensures;
      all = λ q j. c.all_go_by.ensures c.if-not-all_go_by.false q j;
    } in
    subst (λ (E : Tree). IsShared L qs C c.in_ok-share.field-0 E U) (sym c.in_ok-share-2.ensures)
    (subst (λ (x : Ref). IsShared L qs C x D U) (sym c.in_ok-share.ensures) s)
