-- The metafunction that a form stands for, over the nonterminals ns of its language. A form that is refused has one too, which counts for nothing.
use Rattle.std.specs.Prelude.{ℕ, List, [], ◌∷◌, Option, Some, None, option_map}
use Rattle.rdx_sexp.specs.Sexp.{Sexp}
use Rattle.rdx_lang.specs.Patterns as model
use Rattle.rdx_lang.specs.Patterns.{Pattern, closed, seq, Items}
use Rattle.rdx_lang.specs.Programs.{Clause, Metafunction}
use Rattle.rdx_patterns.specs.Parts.{text_of}
use Rattle.rdx_patterns.specs.Reading.{reading}
use Rattle.rdx_patterns.specs.declared.patterns.position.Position.TheVariants.{Query}
use Rattle.rdx_parts.specs.ExtraForms.{of_clause}
use Rattle.rdx_parts.specs.ExtraReading.{argument_items, extras_reading}
use Rattle.rdx_defs.specs.MetafunctionForms.{ClauseForm, clause_form, ContractForm, MetafunctionForm, function_in}
use Rattle.rdx_defs.specs.MetafunctionStands.{bound_by_arguments, bound_by_clause}
use Rattle.rdx_templates.specs.Scope.{Scope}
use Rattle.rdx_templates.specs.TemplateReading.{template_reading}
use Rattle.rdx_parts.specs.Stands.{names_bound}

-- ---- clauses

-- the clause of a form
abbrev pub clause_reading : Scope → List (List ℕ) → ClauseForm → Clause
clause_reading S ns c = record {
  arguments = seq (argument_items ns c.arguments);
  extras = extras_reading of_clause S ns (bound_by_arguments ns c) c.extras;
  result = template_reading S (names_bound (bound_by_clause S ns c)) c.result;
}

-- the same before the clauses behind it
abbrev pub with_clause : Scope → List (List ℕ) → Option ClauseForm → List Clause → List Clause
with_clause S ns None cs = cs
with_clause S ns (Some c) cs = clause_reading S ns c ∷ cs

-- the clauses of data
abbrev pub clauses_reading : Scope → List (List ℕ) → List Sexp → List Clause
clauses_reading S ns [] = []
clauses_reading S ns (d ∷ ds) = with_clause S ns (clause_form d) (clauses_reading S ns ds)

-- ---- contracts: each pattern is closed, so that equal names in two of them do not ask for equal terms

-- the same items with each pattern closed
abbrev pub closed_items : Items → Items
closed_items model.nil = model.nil
closed_items (model.one p ps) = model.one (closed p) (closed_items ps)
closed_items (model.many p n ps) = model.many (closed p) n (closed_items ps)

-- the contract of a form, of the list of arguments and of the value
abbrev pub contract_reading : List (List ℕ) → ContractForm → Pattern × Pattern
contract_reading ns c = (seq (closed_items (argument_items ns c.arguments)), closed (reading ns Query c.value))

-- ---- metafunctions

-- the text of a name, where there is one
abbrev pub text_in : Option Sexp → List ℕ
text_in None = []
text_in (Some f) = text_of f

-- the metafunction that a form with these parts stands for
abbrev pub metafunction_reading : Scope → List (List ℕ) → MetafunctionForm → Metafunction
metafunction_reading S ns m = record {
  name = text_in (function_in m);
  language = text_of m.language;
  contract = option_map (contract_reading ns) m.contract;
  clauses = clauses_reading S ns m.clauses;
}
