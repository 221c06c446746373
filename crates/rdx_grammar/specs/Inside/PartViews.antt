-- The parts that values of the code stand for.
use Rattle.std.specs.Prelude.{ℕ, ◌+◌, List, take, drop}
use Rattle.rdx_grammar.specs.Forms.{GrammarForm}
use Rattle.rdx_grammar.specs.Definitions.{Definition}
use Rattle.rdx_grammar.specs.declared.languages.form_parts.FormParts as code_parts
use Rattle.rdx_grammar.specs.declared.languages.parts.Definition as code_definition

-- the definition that a definition of the code stands for
abbrev pub definition_of : code_definition.Definition → Definition
definition_of d = record { names = d.names.now; alternatives = d.alternatives.now }

-- what stands before place k, and what stands behind it
abbrev pub around : {A : Type 0} → List A → ℕ → List A × List A
around xs k = (take k xs, drop (k + 1) xs)

-- the parts of a form that parts of the code stand for
abbrev pub parts_of : code_parts.FormParts → GrammarForm
parts_of g = record { name = g.name.now; definitions = g.definitions.now }
