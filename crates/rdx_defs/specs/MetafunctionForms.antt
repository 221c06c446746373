-- The parts of `(define-metafunction L [f : p ... -> p] clause ...)` and of its clauses `((f p ...) t extra ...)` (after the Redex reference manual,
-- "Other Relations").
use Rattle.std.specs.Prelude.{◌&&◌, List, [], ◌∷◌, Option, Some, None, option_map, codes, if◌then◌else◌}
use Rattle.rdx_sexp.specs.Sexp.{Sexp}
use Rattle.rdx_patterns.specs.Parts.{parts, is_symbol, is_word}

-- ---- clauses

-- the name of the metafunction, argument patterns, a template and extras
pub record ClauseForm : Type 0 where
  pub function : Sexp
  pub arguments : List Sexp
  pub result : Sexp
  pub extras : List Sexp

-- a clause with a list of these parts in front
abbrev pub clause_behind : Option (List Sexp) → Sexp → List Sexp → Option ClauseForm
clause_behind (Some (f ∷ ps)) t es =
    if is_symbol f then Some (record { function = f; arguments = ps; result = t; extras = es }) else None
clause_behind o t es = None

-- a list of these parts as a clause
abbrev pub clause_among : Option (List Sexp) → Option ClauseForm
clause_among (Some (h ∷ t ∷ es)) = clause_behind (parts h) t es
clause_among o = None

-- a datum as a clause: `((f p ...) t extra ...)`, with any symbol for f
abbrev pub clause_form : Sexp → Option ClauseForm
clause_form d = clause_among (parts d)

-- ---- contracts

-- the name of the metafunction, a pattern for each argument, with ellipses, and one for the value
pub record ContractForm : Type 0 where
  pub function : Sexp
  pub arguments : List Sexp
  pub value : Sexp

-- what stands before the first `->`, and what behind it
abbrev pub cut_at_arrow : List Sexp → Option (List Sexp × List Sexp)
cut_at_arrow [] = None
cut_at_arrow (d ∷ ds) =
    if is_word (codes "->") d then Some ([], ds) else option_map (λ c. (d ∷ c.0, c.1)) (cut_at_arrow ds)

-- ---- metafunctions

-- the name of a language, the contract, where there is one, and clauses
pub record MetafunctionForm : Type 0 where
  pub language : Sexp
  pub contract : Option ContractForm
  pub clauses : List Sexp

-- the same, where there is a clause
abbrev pub with_clauses : Sexp → Option ContractForm → List Sexp → Option MetafunctionForm
with_clauses l c [] = None
with_clauses l c (d ∷ ds) = Some (record { language = l; contract = c; clauses = d ∷ ds })

-- behind the arguments of a contract and `->`: the pattern of the value, whatever it is, and then clauses
abbrev pub contracted : Sexp → Sexp → Option (List Sexp × List Sexp) → Option MetafunctionForm
contracted l f None = None
contracted l f (Some (ps, [])) = None
contracted l f (Some (ps, v ∷ cs)) = with_clauses l (Some (record { function = f; arguments = ps; value = v })) cs

-- a contract begins with a symbol and `:`; every other datum has to be a clause
abbrev pub metafunction_over : Sexp → List Sexp → Option MetafunctionForm
metafunction_over l (f ∷ c ∷ ds) =
    if is_symbol f && is_word (codes ":") c then contracted l f (cut_at_arrow ds) else with_clauses l None (f ∷ c ∷ ds)
metafunction_over l ds = with_clauses l None ds

-- a list of these parts as a metafunction
abbrev pub metafunction_among : Option (List Sexp) → Option MetafunctionForm
metafunction_among (Some (h ∷ l ∷ ds)) = if is_word (codes "define-metafunction") h && is_symbol l then metafunction_over l ds else None
metafunction_among o = None

-- a datum as a metafunction: a list headed by `define-metafunction`, of a symbol for the language's name, and then its contract and clauses
abbrev pub metafunction_form : Sexp → Option MetafunctionForm
metafunction_form d = metafunction_among (parts d)

-- ---- names

-- the name in such a clause, or else that in the others
abbrev pub function_or : Option ClauseForm → Option Sexp → Option Sexp
function_or None others = others
function_or (Some c) others = Some c.function

-- the name in the first of these that is a clause
abbrev pub clauses_function : List Sexp → Option Sexp
clauses_function [] = None
clauses_function (d ∷ ds) = function_or (clause_form d) (clauses_function ds)

-- the name that a form has: that of its contract, or else of its first clause
abbrev pub function_by : Option ContractForm → List Sexp → Option Sexp
function_by None ds = clauses_function ds
function_by (Some c) ds = Some c.function

-- the name that the metafunction goes by, at its first place
abbrev pub function_in : MetafunctionForm → Option Sexp
function_in m = function_by m.contract m.clauses
