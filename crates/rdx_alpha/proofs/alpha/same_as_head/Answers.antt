use Rattle.std.proofs.Common.{◌∙◌, ◌∷◌, ap, sym}
use Rattle.rdx_term.specs.View.{tree_of}
use Rattle.rdx_alpha.specs.Nameless.{head_text, as_head}
use Rattle.rdx_alpha.specs.Inside.PartView.{role_of, part_tree}
use Rattle.rdx_alpha.specs.Inside.Same as model
use Rattle.rdx_alpha.specs.declared.part.Part.{Part}
use Rattle.rdx_alpha.proofs.Sameness.{head-binder, head-other}
use Rattle.rdx_alpha.proofs.alpha.same_as_head.Goals as goal

pub returns-in-Binder : goal.returns-in-Binder
returns-in-Binder c = λ fs around. sym (ap (λ (p : Part). model.same (as_head (tree_of c.args.head.now)) (model.nameless_item fs around (role_of p) (part_tree p))) c.in-Binder.is
    ∙ head-binder (head_text (tree_of c.args.head.now)) _)

pub returns-in-Plain : goal.returns-in-Plain
returns-in-Plain c = λ fs around. sym (ap (λ (p : Part). model.same (as_head (tree_of c.args.head.now)) (model.nameless_item fs around (role_of p) (part_tree p))) c.in-Plain.is
    ∙ head-other fs around (head_text (tree_of c.args.head.now)) _)

pub returns-in-Body : goal.returns-in-Body
returns-in-Body c = λ fs around. sym (ap (λ (p : Part). model.same (as_head (tree_of c.args.head.now)) (model.nameless_item fs around (role_of p) (part_tree p))) c.in-Body.is
    ∙ head-other fs (c.in-Body._names.items ∷ around) (head_text (tree_of c.args.head.now)) (tree_of c.in-Body._item))
