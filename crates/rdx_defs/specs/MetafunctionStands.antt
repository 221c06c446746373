-- What stands in a form of a metafunction.
use Rattle.std.specs.Prelude.{ℕ, true, List, [], ◌∷◌, ◌++◌, Option, Some, None, bytes_eq, if◌then◌else◌}
use Rattle.rdx_sexp.specs.Sexp.{Sexp, Sexps, sexps, nil, cons}
use Rattle.rdx_patterns.specs.Heads.{Roles, patterns as items_of_list, next, rest}
use Rattle.rdx_patterns.specs.Occurrences.{occurrences}
use Rattle.rdx_patterns.specs.Parts.{text_of}
use Rattle.rdx_patterns.specs.PatternChecks as patterns
use Rattle.rdx_patterns.specs.Reading.{is_pattern}
use Rattle.rdx_parts.specs.ExtraForms.{of_clause}
use Rattle.rdx_defs.specs.MetafunctionForms.{ClauseForm, clause_form, ContractForm, MetafunctionForm, function_in}
use Rattle.rdx_templates.specs.Scope.{Scope}
use Rattle.rdx_parts.specs.Stands.{Stand, misshaped, function, pattern, template, argument_occurrences, bound_among, names_bound, bound_by_extras, extras_stand}

-- ---- clauses

-- the symbols that bind names in the arguments of a clause
abbrev pub bound_by_arguments : List (List ℕ) → ClauseForm → List patterns.Bound
bound_by_arguments ns c = bound_among ns (argument_occurrences c.arguments)

-- in its arguments and its extras
abbrev pub bound_by_clause : Scope → List (List ℕ) → ClauseForm → List patterns.Bound
bound_by_clause S ns c = bound_by_arguments ns c ++ bound_by_extras of_clause S ns c.extras

-- what stands in the clause d of the metafunction x; a clause of another one has not its shape
abbrev pub clause_stands : Scope → List (List ℕ) → List ℕ → Sexp → Option ClauseForm → List Stand
clause_stands S ns x d None = misshaped d ∷ []
clause_stands S ns x d (Some c) =
    if bytes_eq (text_of c.function) x
    then pattern [] (argument_occurrences c.arguments) ∷ template (names_bound (bound_by_clause S ns c)) c.result
    ∷ extras_stand of_clause S ns (bound_by_arguments ns c) true c.extras
    else misshaped d ∷ []

-- what stands in clauses
abbrev pub clauses_stand : Scope → List (List ℕ) → List ℕ → List Sexp → List Stand
clauses_stand S ns x [] = []
clauses_stand S ns x (d ∷ ds) = clause_stands S ns x d (clause_form d) ++ clauses_stand S ns x ds

-- ---- contracts: each pattern stands by itself

-- the patterns among items in these roles
abbrev pub patterns_stand : Roles → Sexps → List Stand
patterns_stand rs nil = []
patterns_stand rs (cons d ds) = (if is_pattern (next rs d) then pattern [] (occurrences 0 d) ∷ [] else []) ++ patterns_stand (rest rs d) ds

-- what stands in a contract
abbrev pub contract_stands : Option ContractForm → List Stand
contract_stands None = []
contract_stands (Some c) = patterns_stand items_of_list (sexps c.arguments) ++ pattern [] (occurrences 0 c.value) ∷ []

-- ---- forms

-- what stands in a form with these parts, where its metafunction has this name; without one no clause has its shape
abbrev pub function_stands : Scope → List (List ℕ) → MetafunctionForm → Option Sexp → List Stand
function_stands S ns m None = clauses_stand S ns [] m.clauses
function_stands S ns m (Some f) = function f ∷ contract_stands m.contract ++ clauses_stand S ns (text_of f) m.clauses

-- what stands in the form d, which has these parts
abbrev pub metafunction_stands : Scope → List (List ℕ) → Sexp → Option MetafunctionForm → List Stand
metafunction_stands S ns d None = misshaped d ∷ []
metafunction_stands S ns d (Some m) = function_stands S ns m (function_in m)
