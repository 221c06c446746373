-- The cross nonterminals that the languages of a file have beside those that their own alternatives need. They are made for the whole file:
-- where some form of it asks for those to a nonterminal e, each of its languages that has an e has them, from where it is defined on. One that no
-- pattern speaks of changes no answer.
use Rattle.std.specs.Prelude.{ℕ, List, [], ◌++◌, Option, Some, None, flat_map}
use Rattle.rdx_sexp.specs.Sexp.{Sexp}
use Rattle.rdx_patterns.specs.Ends.{ends_in}
use Rattle.rdx_patterns.specs.Reading.{name_in}
use Rattle.rdx_relations.specs.RelationEnds.{relation_ends}
use Rattle.rdx_forms.specs.DefineParts.{DefineKind, by_cases, by_contexts, by_crosses, DefineParts, ClosureParts, define_parts, closure_parts, with_symbol}

-- the nonterminal of a compatible closure
abbrev pub closure_ends : Option ClosureParts → List (List ℕ)
closure_ends None = []
closure_ends (Some q) = name_in q.by

-- of a form with such a list, where that says so: cases ask for those of what they are without shorthand
abbrev pub kind_ends : DefineKind → Sexp → List (List ℕ)
kind_ends by_cases body = relation_ends body
kind_ends by_contexts body = []
kind_ends by_crosses body = closure_ends (with_symbol (closure_parts body))

-- of a form with these parts
abbrev pub define_ends : Option DefineParts → List (List ℕ)
define_ends None = []
define_ends (Some q) = kind_ends q.kind q.body

-- the nonterminals to which a form asks for cross nonterminals: `(define R (compatible-closure r L e))` for those to e, and so each list
-- `(cross e)` in it, and in what a relation is without its shorthand, where such a list may stand that stands nowhere in the form
abbrev pub form_ends : Sexp → List (List ℕ)
form_ends d = define_ends (define_parts d) ++ ends_in d

-- those to which the forms of a file do
abbrev pub file_ends : List Sexp → List (List ℕ)
file_ends ds = flat_map form_ends ds
