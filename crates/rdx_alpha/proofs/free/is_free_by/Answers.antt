use Rattle.std.proofs.Common.{◌∙◌, sym}
use Rattle.rdx_term.specs.View.{tree_of}
use Rattle.rdx_alpha.specs.Substitution.{symbols_in}
use Rattle.rdx_alpha.specs.View.{forms_of}
use Rattle.rdx_alpha.proofs.OneName.{not_free}
use Rattle.rdx_alpha.proofs.free.is_free_by.Goals as goal

pub returns-else-is_in : goal.returns-else-is_in
returns-else-is_in c =
    let t = tree_of c.args.term.now in
    sym (not_free (forms_of c.args.forms.now) c.args.name.now t (c.is_in.ensures (symbols_in t) c.requires ∙ c.if-is_in.false))
