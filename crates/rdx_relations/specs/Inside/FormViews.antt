-- The parts of relations that values of the code stand for.
use Rattle.std.specs.Prelude.{option_map}
use Rattle.rdx_relations.specs.RelationForms as relations
use Rattle.rdx_relations.specs.declared.relations.forms.CaseForm.{CaseForm}
use Rattle.rdx_relations.specs.declared.relations.forms.RelationForm.{RelationForm}

-- the case
abbrev pub case_form_of : CaseForm → relations.CaseForm
case_form_of c = record { arrow = c.arrow.now; pattern = c.pattern.now; result = c.result.now; extras = c.extras.now }

-- the relation
abbrev pub relation_form_of : RelationForm → relations.RelationForm
relation_form_of r = record { language = r.language.now; domain = option_map (λ d. d.now) r.domain; cases = r.cases.now }
