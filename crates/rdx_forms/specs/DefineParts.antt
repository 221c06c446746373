-- The parts of forms that define a relation, `(define R list)`: the list gives cases, or says of which relation R is a closure. A `define` of
-- anything else is Racket that means nothing here.
use Rattle.std.specs.Prelude.{ℕ, ◌&&◌, List, [], ◌∷◌, Option, Some, None, codes, bytes_eq, if◌then◌else◌}
use Rattle.rdx_sexp.specs.Sexp.{symbol, Sexp, leaf}
use Rattle.rdx_patterns.specs.Parts.{parts, is_symbol}

-- ---- the list

-- what the list says
pub data DefineKind : Type 0 where
  -- `(reduction-relation L case ...)`
  by_cases : DefineKind
  -- `(context-closure r L p)`
  by_contexts : DefineKind
  -- `(compatible-closure r L e)`
  by_crosses : DefineKind

-- by the word at its head
abbrev pub kind_by_word : List ℕ → Option DefineKind
kind_by_word x =
    if bytes_eq x (codes "reduction-relation") then Some by_cases
    else if bytes_eq x (codes "context-closure") then Some by_contexts
    else if bytes_eq x (codes "compatible-closure") then Some by_crosses
    else None

-- by its head
abbrev pub kind_by_head : Sexp → Option DefineKind
kind_by_head (leaf (symbol x) s) = kind_by_word x
kind_by_head h = None

-- by its parts
abbrev pub kind_among : Option (List Sexp) → Option DefineKind
kind_among None = None
kind_among (Some []) = None
kind_among (Some (h ∷ ds)) = kind_by_head h

-- ---- the form

-- what the list says, the name, the list, and what stands behind it
pub record DefineParts : Type 0 where
  pub kind : DefineKind
  pub name : Sexp
  pub body : Sexp
  pub rest : List Sexp

-- a name with a list that says this, if it says anything
abbrev pub define_by : Option DefineKind → Sexp → Sexp → List Sexp → Option DefineParts
define_by None x body ds = None
define_by (Some k) x body ds = Some (record { kind = k; name = x; body = body; rest = ds })

-- a name with such a list
abbrev pub define_named : Sexp → Sexp → List Sexp → Option DefineParts
define_named x body ds = if is_symbol x then define_by (kind_among (parts body)) x body ds else None

-- the parts of a list `(define R list ...)`
abbrev pub define_among : Option (List Sexp) → Option DefineParts
define_among (Some (h ∷ x ∷ body ∷ ds)) = define_named x body ds
define_among o = None

-- the parts of such a form
abbrev pub define_parts : Sexp → Option DefineParts
define_parts d = define_among (parts d)

-- ---- closures

-- the relation that is closed, a language, and what says by which contexts: a pattern or a nonterminal
pub record ClosureParts : Type 0 where
  pub relation : Sexp
  pub language : Sexp
  pub by : Sexp

-- the parts of a list `(head r L by)`
abbrev pub closure_among : Option (List Sexp) → Option ClosureParts
closure_among (Some (h ∷ r ∷ l ∷ p ∷ [])) = if is_symbol r && is_symbol l then Some (record { relation = r; language = l; by = p }) else None
closure_among o = None

-- the parts of a list that says of which relation R is a closure, if it has its shape
abbrev pub closure_parts : Sexp → Option ClosureParts
closure_parts d = closure_among (parts d)

-- those of `(compatible-closure r L e)`, where e has to be a symbol
abbrev pub with_symbol : Option ClosureParts → Option ClosureParts
with_symbol None = None
with_symbol (Some q) = if is_symbol q.by then Some q else None
