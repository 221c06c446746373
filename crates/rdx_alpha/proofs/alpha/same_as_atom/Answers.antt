use Rattle.std.proofs.Common.{◌∙◌, sym}
use Rattle.rdx_term.specs.View.{tree_of}
use Rattle.rdx_alpha.proofs.Sameness.{atom-other}
use Rattle.rdx_alpha.proofs.alpha.same_as_atom.Goals as goal

pub returns-else-is_atom : goal.returns-else-is_atom
returns-else-is_atom c = λ fs one two.
    atom-other fs one two (tree_of c.args.atom.now) (tree_of c.args.term.now) c.requires (sym c.is_atom.ensures ∙ c.if-is_atom.false)
