-- The parts of `(reduction-relation L case ...)` and of its cases (after the Redex reference manual, "Reduction Relations").
use Rattle.std.specs.Prelude.{ℕ, Bool, false, ◌&&◌, List, ◌∷◌, Option, Some, None, codes, bytes_eq, if◌then◌else◌}
use Rattle.rdx_sexp.specs.Sexp.{keyword, Sexp, leaf}
use Rattle.rdx_patterns.specs.Parts.{parts, is_symbol, is_word}

-- ---- cases

-- an arrow, a pattern, a template and extras
pub record CaseForm : Type 0 where
  pub arrow : Sexp
  pub pattern : Sexp
  pub result : Sexp
  pub extras : List Sexp

-- a list of these parts as a case
abbrev pub case_among : Option (List Sexp) → Option CaseForm
case_among (Some (a ∷ p ∷ t ∷ es)) = if is_symbol a then Some (record { arrow = a; pattern = p; result = t; extras = es }) else None
case_among o = None

-- a datum as a case: `(--> p t extra ...)`, with any symbol for the arrow
abbrev pub case_form : Sexp → Option CaseForm
case_form d = case_among (parts d)

-- ---- relations

-- the name of a language, the domain, where there is one, and cases
pub record RelationForm : Type 0 where
  pub language : Sexp
  pub domain : Option Sexp
  pub cases : List Sexp

-- the datum is the keyword of this text
abbrev pub is_keyword : List ℕ → Sexp → Bool
is_keyword x (leaf (keyword k) s) = bytes_eq k x
is_keyword x d = false

-- `#:domain p` counts only directly behind the language
abbrev pub relation_over : Sexp → List Sexp → RelationForm
relation_over l (k ∷ p ∷ cs) =
    if is_keyword (codes "domain") k
    then record { language = l; domain = Some p; cases = cs }
    else record { language = l; domain = None; cases = k ∷ p ∷ cs }
relation_over l cs = record { language = l; domain = None; cases = cs }

-- a list of these parts as a relation
abbrev pub relation_among : Option (List Sexp) → Option RelationForm
relation_among (Some (h ∷ l ∷ ds)) =
    if is_word (codes "reduction-relation") h && is_symbol l then Some (relation_over l ds) else None
relation_among o = None

-- a datum as a relation: a list headed by `reduction-relation`, of a symbol for the language's name, and then its domain and cases
abbrev pub relation_form : Sexp → Option RelationForm
relation_form d = relation_among (parts d)
