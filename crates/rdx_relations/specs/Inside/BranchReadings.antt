-- What the cases of a relation stand for, by their branches.
use Rattle.std.specs.Prelude.{ℕ, List, map}
use Rattle.rdx_lang.specs.Programs.{Rule}
use Rattle.rdx_parts.specs.ExtraReading.{extras_reading}
use Rattle.rdx_parts.specs.Outlines.{Branch, bound_by_taken, bound_by_branch, taken_reading}
use Rattle.rdx_relations.specs.RelationReading.{first_name}
use Rattle.rdx_templates.specs.Scope.{Scope}
use Rattle.rdx_templates.specs.TemplateReading.{template_reading}
use Rattle.rdx_parts.specs.Stands.{names_bound}

-- the rule of a case
abbrev pub branch_rule : Scope → List (List ℕ) → Branch → Rule
branch_rule S ns b = record {
  name = first_name b.extras;
  pattern = taken_reading ns b.takes;
  extras = extras_reading b.place S ns (bound_by_taken ns b.takes) b.extras;
  result = template_reading S (names_bound (bound_by_branch S ns b)) b.result;
}

-- of cases
abbrev pub branch_rules : Scope → List (List ℕ) → List Branch → List Rule
branch_rules S ns bs = map (branch_rule S ns) bs
