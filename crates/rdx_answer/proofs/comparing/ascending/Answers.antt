use Rattle.std.proofs.Common.{◌≡◌, List, [], drop, map, ◌+◌, ap, sym, ◌∙◌, arith}
use Rattle.std.proofs.lemmas.Result.{IfOk-weaker}
use Rattle.rdx_lang.proofs.Rest.{rest_at, rest_none}
use Rattle.rdx_term.proofs.OrderLaws.{tree_cmp-equal}
use Rattle.rdx_term.specs.Model.TotalOrder.{tree_cmp-total}
use Rattle.rdx_term.specs.Order.{tree_cmp}
use Rattle.rdx_term.specs.Tree.{Tree}
use Rattle.rdx_term.specs.View.{tree_of}
use Rattle.rdx_answer.proofs.AllInserted.{all_inserted, all_inserted-next, listed-inserted}
use Rattle.rdx_answer.proofs.comparing.ascending.Goals as goal

pub loop-term-preserved : goal.loop-term-preserved
loop-term-preserved c =
    let i = c.loop-term.term-index in
    let terms = c.args.terms.now in
    all_inserted-next tree_of tree_cmp c.loop-term.set.keys c.insert.new.self.keys c.in_ok-share.field-0 (tree_of c.term-item.result)
    (map tree_of (drop i terms)) (map tree_of (drop (i + 1) terms)) (all_inserted tree_cmp [] (map tree_of terms))
    c.in_ok-insert.ensures.keys c.in_ok-share.ensures (rest_at tree_of terms i c.term-item.result c.loop-term-test.true c.term-item.is) c.loop-term.invariant

pub returns : goal.returns
returns c =
    let keys : List Tree = map tree_of c.loop-term.set.keys in
    let terms = c.args.terms.now in
    let r : map tree_of (drop c.loop-term.term-index terms) ≡ [] = rest_none tree_of terms c.loop-term.term-index (omega arith) in
    let e : keys ≡ all_inserted tree_cmp [] (map tree_of terms) = sym (ap (all_inserted tree_cmp keys) r) ∙ c.loop-term.invariant in
    IfOk-weaker c.terms_of.result _ _
    (λ v h. listed-inserted tree_cmp tree_cmp-total tree_cmp-equal (map tree_of terms) (map tree_of v.items) (ap (map tree_of) h ∙ e)) c.terms_of.ensures
