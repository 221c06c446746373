-- What the clauses of a metafunction stand for, by their branches.
use Rattle.std.specs.Prelude.{ℕ, List, map, option_map}
use Rattle.rdx_sexp.specs.Sexp.{Sexp}
use Rattle.rdx_lang.specs.Programs.{Clause, Metafunction}
use Rattle.rdx_patterns.specs.Parts.{text_of}
use Rattle.rdx_parts.specs.ExtraReading.{extras_reading}
use Rattle.rdx_parts.specs.Outlines.{Branch, bound_by_taken, bound_by_branch, taken_reading}
use Rattle.rdx_defs.specs.MetafunctionForms.{MetafunctionForm}
use Rattle.rdx_defs.specs.MetafunctionReading.{contract_reading}
use Rattle.rdx_templates.specs.Scope.{Scope}
use Rattle.rdx_templates.specs.TemplateReading.{template_reading}
use Rattle.rdx_parts.specs.Stands.{names_bound}

-- the clause
abbrev pub branch_clause : Scope → List (List ℕ) → Branch → Clause
branch_clause S ns b = record {
  arguments = taken_reading ns b.takes;
  extras = extras_reading b.place S ns (bound_by_taken ns b.takes) b.extras;
  result = template_reading S (names_bound (bound_by_branch S ns b)) b.result;
}

-- of clauses
abbrev pub branch_clauses : Scope → List (List ℕ) → List Branch → List Clause
branch_clauses S ns bs = map (branch_clause S ns) bs

-- the metafunction of this name that a form with these parts and these branches stands for
abbrev pub branch_metafunction : Scope → List (List ℕ) → MetafunctionForm → Sexp → List Branch → Metafunction
branch_metafunction S ns m f bs = record {
  name = text_of f;
  language = text_of m.language;
  contract = option_map (contract_reading ns) m.contract;
  clauses = branch_clauses S ns bs;
}
