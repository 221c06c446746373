use Rattle.std.proofs.Common.{◌≡◌, [], ◌∷◌, map, refl, sym, ◌∙◌, subst, arith}
use Rattle.std.proofs.lemmas.Grind.{common_steps}
use Rattle.rdx_term.specs.Tree.{tree_nodes}
use Rattle.rdx_term.specs.View.{tree_of}
use Rattle.rdx_lang.specs.Members.{In, here}
use Rattle.rdx_lang.proofs.Collecting.{In_along}
use Rattle.rdx_enum.specs.Inside.Rows.{row_at, AreSized}
use Rattle.rdx_enum.proofs.GrownAtoms.{grown_lit, grown_lit_any}
use Rattle.rdx_enum.proofs.growing.Setting.literal.Goals as goal

pub returns-then-is_list : goal.returns-then-is_list
returns-then-is_list c = λ L. grown_lit_any L (map tree_of c.args.self.now.pool.now) (tree_of c.args.literal.now) c.args.n _ _ (subst (λ ts. AreSized ts.items) (sym c.terms_alone-grown.ensures.terms) c.in_ok-all.ensures.sized) c.terms_alone-grown.ensures.contexts
    (λ t o l. subst (λ ts. In t (row_at ts.items (tree_nodes t))) (sym c.terms_alone-grown.ensures.terms) (c.in_ok-all.ensures.all t o l))

pub returns : goal.returns
returns c =
    let e : map tree_of c.push.new.self.items ≡ tree_of c.args.literal.now ∷ [] = grind (arith, common_steps) in
    λ L. grown_lit L (map tree_of c.args.self.now.pool.now) (tree_of c.args.literal.now) c.args.n _ _ (subst (λ ts. AreSized ts.items) (sym c.terms_alone-alone.ensures.terms) c.in_ok-terms.ensures.sized) c.terms_alone-alone.ensures.contexts (sym c.is_list.ensures ∙ c.if-is_list.false)
    (subst (λ ts. In (tree_of c.args.literal.now) (row_at ts.items 1)) (sym c.terms_alone-alone.ensures.terms) (In_along _ _ (sym (c.in_ok-terms.ensures.one ∙ e)) (here refl)))
