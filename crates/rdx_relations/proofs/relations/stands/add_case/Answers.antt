use Rattle.std.proofs.Common.{◌∙◌, sym, ap, subst}
use Rattle.std.specs.Prelude.{option_map}
use Rattle.rdx_patterns.specs.Readable.{IsReadable}
use Rattle.rdx_parts.specs.Outlines.{Branch}
use Rattle.rdx_relations.specs.Inside.FormViews.{case_form_of}
use Rattle.rdx_templates.specs.Scope.{scope_of}
use Rattle.rdx_parts.specs.PartsHave.{BranchHas, readable, IsReadableTaken}
use Rattle.rdx_relations.proofs.InheritedParts.{case-has}
use Rattle.rdx_relations.proofs.ReadableParts.{readable-inherited}
use Rattle.rdx_relations.proofs.relations.stands.add_case.Goals as goal

pub add_branch-requires : goal.add_branch-requires
add_branch-requires c =
    subst (λ (b : Branch). BranchHas (scope_of c.args.scope.now) readable b) (sym c.case_branch.ensures)
    (case-has IsReadable IsReadableTaken readable-inherited (scope_of c.args.scope.now) c.args.d.now (case_form_of c.in-Some.case) c.requires (sym c.case_form.ensures ∙ ap (option_map case_form_of) c.in-Some.is))
