use Rattle.std.proofs.Common.{◌≡◌, ℕ, List, [], ◌∷◌, drop, map, ◌+◌, ap, sym, ◌∙◌, arith}
use Rattle.rdx_lang.proofs.OrderLaws.{name_cmp-tells}
use Rattle.rdx_lang.proofs.Rest.{rest_at, rest_none}
use Rattle.rdx_lang.specs.Bindings.{name_cmp}
use Rattle.rdx_lang.specs.Model.TotalOrders.{name_cmp-total}
use Rattle.rdx_term.specs.Terms.{IsTerm}
use Rattle.rdx_term.specs.Text.{tree_text}
use Rattle.rdx_term.specs.Tree.{Tree}
use Rattle.rdx_term.specs.View.{tree_of}
use Rattle.rdx_answer.proofs.AllInserted.{all_inserted, all_inserted-next, listed-inserted}
use Rattle.rdx_answer.proofs.EachSoFar.{each-next, each-end}
use Rattle.rdx_answer.specs.Inside.Comparing.{bytes_in}
use Rattle.rdx_answer.proofs.comparing.texts_of.Goals as goal

pub loop-term-preserved : goal.loop-term-preserved
loop-term-preserved c =
    let i = c.loop-term.term-index in
    let terms = c.args.terms.now in
    let t : Tree = tree_of c.term-item.result in
    let rest : List Tree = map tree_of (drop i terms) in
    let behind : List Tree = map tree_of (drop (i + 1) terms) in
    let r : rest ≡ t ∷ behind = rest_at tree_of terms i c.term-item.result c.loop-term-test.true c.term-item.is in
    record {
      texts = all_inserted-next (λ v. v.items) name_cmp c.loop-term.texts.keys c.insert.new.self.keys c.in_ok-text.field-0 (tree_text t)
          (map tree_text rest) (map tree_text behind) (all_inserted name_cmp [] (map tree_text (map tree_of terms)))
          c.in_ok-insert.ensures.keys c.in_ok-text.ensures.text (ap (map tree_text) r) c.loop-term.invariant.texts;
      terms = each-next IsTerm (map tree_of terms) rest behind t r c.text.ensures.valid c.loop-term.invariant.terms;
    }

pub returns-clause-texts : goal.returns-clause-texts
returns-clause-texts c =
    let keys : List (List ℕ) = bytes_in c.loop-term.texts in
    let terms = c.args.terms.now in
    let texts : List (List ℕ) = map tree_text (map tree_of terms) in
    let r : map tree_of (drop c.loop-term.term-index terms) ≡ [] = rest_none tree_of terms c.loop-term.term-index (omega arith) in
    listed-inserted name_cmp name_cmp-total name_cmp-tells texts keys
    (sym (ap (λ (ts : List Tree). all_inserted name_cmp keys (map tree_text ts)) r) ∙ c.loop-term.invariant.texts)

pub returns-clause-valid : goal.returns-clause-valid
returns-clause-valid c =
    let terms = c.args.terms.now in
    let i = c.loop-term.term-index in
    each-end IsTerm (map tree_of terms) (map tree_of (drop i terms)) (rest_none tree_of terms i (omega arith)) c.loop-term.invariant.terms
