use Rattle.std.proofs.Common.{◌∙◌, ap}
use Rattle.std.proofs.lemmas.Result.{IfOk-weaker}
use Rattle.rdx_term.specs.View.{tree_of}
use Rattle.rdx_alpha.specs.Nameless.{nameless, nameless_in}
use Rattle.rdx_alpha.specs.View.{forms_of}
use Rattle.rdx_alpha.specs.Inside.Around.{around_of}
use Rattle.rdx_alpha.specs.Inside.Same as model
use Rattle.rdx_alpha.proofs.Sameness.{same-decides}
use Rattle.rdx_alpha.proofs.alpha.same_without_names.Goals as goal

pub returns : goal.returns
returns c =
    let fs = forms_of c.args.forms.now in
    let t = tree_of c.args.one.now in
    let u = tree_of c.args.two.now in
    let e = ap around_of c.new-around_one.ensures.items in
    let f = ap around_of c.new-around_two.ensures.items in
    IfOk-weaker c.same_terms.result _ _ (λ b h. same-decides (nameless fs t) (nameless fs u) b (h ∙ (λ i. model.same (nameless_in fs (e i) t) (nameless_in fs (f i) u)))) c.same_terms.ensures.value
