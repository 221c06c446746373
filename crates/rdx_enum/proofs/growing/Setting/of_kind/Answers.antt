use Rattle.std.proofs.Common.{map, sym, ◌∙◌, subst}
use Rattle.rdx_term.specs.Tree.{tree_nodes}
use Rattle.rdx_term.specs.View.{tree_of}
use Rattle.rdx_lang.specs.Members.{In}
use Rattle.rdx_enum.specs.Inside.Rows.{row_at, AreSized}
use Rattle.rdx_enum.proofs.GrownAtoms.{grown_kind, grown_any}
use Rattle.rdx_enum.proofs.growing.Setting.of_kind.Goals as goal

pub returns-then-is_any : goal.returns-then-is_any
returns-then-is_any c = λ L. grown_any L (map tree_of c.args.self.now.pool.now) c.args.kind c.args.n _ _ (subst (λ ts. AreSized ts.items) (sym c.terms_alone-grown.ensures.terms) c.in_ok-all.ensures.sized) c.terms_alone-grown.ensures.contexts
    (λ t o l. subst (λ ts. In t (row_at ts.items (tree_nodes t))) (sym c.terms_alone-grown.ensures.terms) (c.in_ok-all.ensures.all t o l))

pub returns : goal.returns
returns c = λ L. grown_kind L (map tree_of c.args.self.now.pool.now) c.args.kind c.args.n _ _ (subst (λ ts. AreSized ts.items) (sym c.terms_alone-alone.ensures.terms) c.in_ok-terms.ensures.sized) c.terms_alone-alone.ensures.contexts (sym c.is_any.ensures ∙ c.if-is_any.false)
    (λ t i h. subst (λ ts. In t (row_at ts.items 1)) (sym c.terms_alone-alone.ensures.terms) (c.in_ok-terms.ensures.all L t i h))
