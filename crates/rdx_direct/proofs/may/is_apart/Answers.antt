use Rattle.std.proofs.Common.{◌≡◌, ◌∙◌, List, ap, map, sym}
use Rattle.rdx_term.specs.Tree.{Tree, Contents, list, trees}
use Rattle.rdx_term.specs.View.{tree_of, trees_of}
use Rattle.rdx_lang.proofs.PatternEquations.{pattern_seq}
use Rattle.rdx_lang.specs.Patterns.{seq}
use Rattle.rdx_lang.specs.PatternView.{pattern_of, slot_of, items_of}
use Rattle.rdx_direct.proofs.MayLaws.{seq_apart}
use Rattle.rdx_direct.proofs.may.is_apart.Goals as goal

pub returns-in-List : goal.returns-in-List
returns-in-List c h L =
    let ts = c.items.result.now in
    let same : tree_of c.args.t.now ≡ list c.in-List.node.value.mark (trees_of ts) =
    ap tree_of c.in-List.is ∙ ap (λ (us : List Tree). list c.in-List.node.value.mark (trees us)) (ap (λ (l : Contents). l.items) (sym c.deref-in-List.ensures) ∙ sym c.items.ensures.value) in
    let e : pattern_of c.args.pat.now ≡ seq (items_of (map slot_of c.deref.result.now)) = ap pattern_of c.in-Seq.is ∙ pattern_seq c.in-Seq.items ∙ ap (λ x. seq (items_of (map slot_of x))) (sym c.deref.ensures.value) in
    seq_apart e same (c.begin_apart.ensures h L)
