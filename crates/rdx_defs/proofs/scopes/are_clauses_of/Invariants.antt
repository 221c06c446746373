use Rattle.std.proofs.Common.{◌≡◌, drop}
use Rattle.std.specs.List.{list_all}
use Rattle.rdx_defs.specs.MetafunctionForms.{clause_form}
use Rattle.rdx_defs.specs.Scopes.{is_clause_of}
use Rattle.rdx_defs.proofs.scopes.are_clauses_of.Given as goal

abbrev pub invariant-loop-d : goal.invariant-loop-d
invariant-loop-d l = list_all (λ d. is_clause_of l.name (clause_form d)) (drop l.d-index l.clauses) ≡ list_all (λ d. is_clause_of l.name (clause_form d)) l.clauses
