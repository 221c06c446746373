use Rattle.std.proofs.Common.{◌∙◌, sym, ap, subst}
use Rattle.std.specs.Prelude.{option_map}
use Rattle.rdx_patterns.specs.Readable.{IsReadable}
use Rattle.rdx_parts.specs.Outlines.{Branch}
use Rattle.rdx_defs.specs.Inside.FormViews.{clause_form_of}
use Rattle.rdx_templates.specs.Scope.{scope_of}
use Rattle.rdx_parts.specs.PartsHave.{BranchHas, readable, IsReadableTaken}
use Rattle.rdx_defs.proofs.InheritedParts.{clause-has}
use Rattle.rdx_relations.proofs.ReadableParts.{readable-inherited}
use Rattle.rdx_defs.proofs.metafunctions.stands.add_clause.Goals as goal

pub add_branch-requires : goal.add_branch-requires
add_branch-requires c =
    subst (λ (b : Branch). BranchHas (scope_of c.args.scope.now) readable b) (sym c.clause_branch.ensures)
    (clause-has IsReadable IsReadableTaken readable-inherited (scope_of c.args.scope.now) c.args.name.now c.args.d.now (clause_form_of c.in-Some.clause) c.requires (sym c.clause_of.ensures ∙ ap (option_map clause_form_of) c.in-Some.is))
