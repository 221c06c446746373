use Rattle.std.proofs.Common.{◌∙◌, ◌∷◌, ap, sym}
use Rattle.rdx_term.specs.View.{tree_of}
use Rattle.rdx_alpha.specs.Nameless.{blanked}
use Rattle.rdx_alpha.specs.Inside.PartView.{role_of, part_tree}
use Rattle.rdx_alpha.specs.Inside.Same as model
use Rattle.rdx_alpha.specs.declared.part.Part.{Part}
use Rattle.rdx_alpha.proofs.Sameness.{binder-other}
use Rattle.rdx_alpha.proofs.alpha.same_as_binder.Goals as goal

pub returns-in-Plain : goal.returns-in-Plain
returns-in-Plain c = λ fs around. c.are_empty.ensures ∙ binder-other fs around (tree_of c.args.binder.now) (tree_of c.in-Plain.item)
    ∙ sym (ap (λ (p : Part). model.same (blanked (tree_of c.args.binder.now)) (model.nameless_item fs around (role_of p) (part_tree p))) c.in-Plain.is)

pub returns-in-Body : goal.returns-in-Body
returns-in-Body c = λ fs around. c.are_empty-in-Body.ensures ∙ binder-other fs (c.in-Body._names.items ∷ around) (tree_of c.args.binder.now) (tree_of c.in-Body.item)
    ∙ sym (ap (λ (p : Part). model.same (blanked (tree_of c.args.binder.now)) (model.nameless_item fs around (role_of p) (part_tree p))) c.in-Body.is)
