use Rattle.std.proofs.Common.{◌≡◌, ◌++◌, List, [], ◌∷◌, drop, map, ◌+◌, ap, sym, ◌∙◌, subst, arith, append-nil}
use Rattle.std.proofs.lemmas.Bool.{OnFalse_at, not-true, not-false}
use Rattle.std.proofs.lemmas.Grind.{common_steps}
use Rattle.rdx_lang.proofs.Rest.{rest_at, rest_none}
use Rattle.rdx_lang.specs.Bindings.{name_cmp}
use Rattle.rdx_lang.specs.Listing.{IsListing}
use Rattle.rdx_lang.specs.Members.{In}
use Rattle.rdx_term.specs.Order.{tree_cmp}
use Rattle.rdx_term.specs.Terms.{IsTerm}
use Rattle.rdx_term.specs.Text.{tree_text}
use Rattle.rdx_term.specs.Tree.{Tree}
use Rattle.rdx_term.specs.View.{tree_of}
use Rattle.rdx_eval.specs.Views.{terms_in}
use Rattle.rdx_answer.proofs.EachSoFar.{each-next, each-end}
use Rattle.rdx_answer.proofs.FirstOfEach.{first_of_each, first-new, first-old}
use Rattle.rdx_answer.proofs.LeastAlike.{distinct-first}
use Rattle.rdx_answer.specs.Inside.Comparing.{AreTerms, bytes_in}
use Rattle.rdx_answer.proofs.comparing.distinct.Goals as goal
use Rattle.rdx_answer.proofs.comparing.distinct.Goals.{then-branch+in_ok-share+in_ok-push, else-branch}

pub loop-term-preserved : goal.loop-term-preserved
loop-term-preserved c =
    let i = c.loop-term.term-index in
    let terms = c.deref-term-items.result.now in
    let t : Tree = tree_of c.term-item.result in
    let rest : List Tree = map tree_of (drop i terms) in
    let behind : List Tree = map tree_of (drop (i + 1) terms) in
    let end : List Tree = first_of_each tree_text name_cmp [] (map tree_of terms) in
    let kept : List Tree = terms_in c.loop-term.kept in
    let r : rest ≡ t ∷ behind = rest_at tree_of terms i c.term-item.result c.loop-term-test.true c.term-item.is in
    record {
      kept = elim c.if-branch.branch [
        | then-branch+in_ok-share+in_ok-push w ↦
            let k : terms_in c.if-branch.kept ≡ kept ++ t ∷ [] = grind (arith, common_steps) in
            first-new tree_text (λ v. v.items) name_cmp c.loop-term.seen.keys c.in_ok-text.field-0 t c.in_ok-text.ensures.text c.insert.new.self.keys
            kept (terms_in c.if-branch.kept) rest behind end (not-true _ (sym c.in_ok-insert.ensures.added ∙ w.if-branch.true)) r
            c.in_ok-insert.ensures.keys k c.loop-term.invariant.kept
        | else-branch w ↦
            first-old tree_text (λ v. v.items) name_cmp c.loop-term.seen.keys c.in_ok-text.field-0 t c.in_ok-text.ensures.text c.insert.new.self.keys
            kept (terms_in c.if-branch.kept) rest behind end (not-false _ (sym c.in_ok-insert.ensures.added ∙ w.if-branch.false)) r
            (OnFalse_at w.if-branch.false c.in_ok-insert.ensures.unchanged) (ap terms_in w.kept-is) c.loop-term.invariant.kept
      ];
      terms = each-next IsTerm (map tree_of terms) rest behind t r c.text.ensures.valid c.loop-term.invariant.terms;
    }

pub returns : goal.returns
returns c =
    let i = c.loop-term.term-index in
    let terms = c.deref-term-items.result.now in
    let all : List Tree = map tree_of terms in
    let ts : List Tree = map tree_of c.args.terms.now in
    let kept : List Tree = terms_in c.loop-term.kept in
    let r : map tree_of (drop i terms) ≡ [] = rest_none tree_of terms i (omega arith) in
    let v : AreTerms all = each-end IsTerm all (map tree_of (drop i terms)) r c.loop-term.invariant.terms in
    let l : IsListing tree_cmp all (λ t. In t ts) =
    subst (λ xs. IsListing tree_cmp (map tree_of xs) (λ t. In t ts)) (sym c.deref-term-items.ensures.value) c.in_ok-listed.ensures in
    let k : kept ++ first_of_each tree_text name_cmp (bytes_in c.loop-term.seen) [] ≡ first_of_each tree_text name_cmp [] all =
    sym (ap (λ (ts : List Tree). kept ++ first_of_each tree_text name_cmp (bytes_in c.loop-term.seen) ts) r) ∙ c.loop-term.invariant.kept in
    distinct-first ts all kept v l (sym (append-nil kept) ∙ k)
