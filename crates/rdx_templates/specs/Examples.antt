-- Worked examples: data that are templates, and data that are refused as ones.
use Rattle.std.specs.Prelude.{◌≡◌, ℕ, pos, List, [], ◌∷◌, Option, Some, None, codes}
use Rattle.rdx_base.specs.declared.place.Span.{Span}
use Rattle.rdx_sexp.specs.Sexp.{integer, keyword, Sexp, leaf}
use Rattle.rdx_term.specs.Tree.{symbol}
use Rattle.rdx_lang.specs.Templates.{Template, lit, var, fill, call, host, seq, nil, one, many, term, number, apply, none, more}
use Rattle.rdx_lang.specs.declared.operation.HostOp.TheVariants.{Add}
use Rattle.rdx_patterns.specs.Examples.{word, group, columns}
use Rattle.rdx_patterns.specs.declared.shape.fault.DefKind.{DefKind}
use Rattle.rdx_patterns.specs.declared.shape.fault.DefKind.TheVariants.{Shape, BadPattern, EllipsisDepth, EllipsisVariable, RacketEscape}
use Rattle.rdx_templates.specs.Bound.{Bound}
use Rattle.rdx_templates.specs.Scope.{Scope}
use Rattle.rdx_templates.specs.TemplateReading.{template_reading}
use Rattle.rdx_templates.specs.TemplateRefusal.{template_refusal}

-- E and y are bound under no ellipsis, and x under one; the name that comes later with x counts for nothing
abbrev pub names : Bound
names = (codes "E", 0) ∷ (codes "x", 1) ∷ (codes "y", 0) ∷ (codes "x", 0) ∷ []

-- `f` is the one metafunction
abbrev pub scope : Scope
scope = record { metafunctions = codes "f" ∷ []; judgements = [] }

-- the datum passes the checks, and is this template
abbrev pub IsTemplate : Sexp → Template → Type 0
IsTemplate d t = (template_refusal scope names d ≡ None) × (template_reading scope names d ≡ t)

-- the datum is refused so, in this column of the first line
abbrev pub IsRefusedAt : Sexp → DefKind → ℕ → Option (List ℕ) → Type 0
IsRefusedAt d k n x = template_refusal scope names d ≡ Some (record { kind = k; place = record { line = 1; column = n }; name = x })

-- ---- templates

-- `(x ...)` has as many items as x has turns
abbrev pub Repeats : Type 0
Repeats = (s : Span) → IsTemplate (group s (word s (codes "x") ∷ word s (codes "...") ∷ [])) (seq (many (var (codes "x") 1) nil))

-- `(in-hole E y)` is the context E, filled with y
abbrev pub Fills : Type 0
Fills =
    (s : Span)
    → IsTemplate (group s (word s (codes "in-hole") ∷ word s (codes "E") ∷ word s (codes "y") ∷ [])) (fill (var (codes "E") 0) (var (codes "y") 0))

-- `z`, which is not bound, stands for itself
abbrev pub StandsForItself : Type 0
StandsForItself = (s : Span) → IsTemplate (word s (codes "z")) (lit (symbol (codes "z")))

-- `(f y)` is a call of the metafunction f
abbrev pub Calls : Type 0
Calls = (s : Span) → IsTemplate (group s (word s (codes "f") ∷ word s (codes "y") ∷ [])) (call (codes "f") (one (var (codes "y") 0) nil))

-- `(y f)`, which has that name behind its head, is a list
abbrev pub ListsBehind : Type 0
ListsBehind =
    (s : Span)
    → IsTemplate (group s (word s (codes "y") ∷ word s (codes "f") ∷ [])) (seq (one (var (codes "y") 0) (one (lit (symbol (codes "f"))) nil)))

-- `,(+ 1 (term y))` adds one to what y stands for
abbrev pub Evaluates : Type 0
Evaluates =
    (s : Span)
    → IsTemplate
    (group s (word s (codes "unquote")
    ∷ group s (word s (codes "+") ∷ leaf (integer (pos 1)) s ∷ group s (word s (codes "term") ∷ word s (codes "y") ∷ []) ∷ []) ∷ []))
    (host (apply Add (more (number (pos 1)) (more (term (var (codes "y") 0)) none))))

-- ---- refusals

-- `(a #:k)`: the keyword
abbrev pub KeywordRefused : Type 0
KeywordRefused = IsRefusedAt (group (columns 1 8) (word (columns 2 3) (codes "a") ∷ leaf (keyword (codes "k")) (columns 4 7) ∷ [])) Shape 4 None

-- `(in-hole E #:k y)`: the keyword, be it that the list has not its shape
abbrev pub KeywordFirst : Type 0
KeywordFirst =
    IsRefusedAt
    (group (columns 1 18) (word (columns 2 9) (codes "in-hole") ∷ word (columns 10 11) (codes "E") ∷ leaf (keyword (codes "k")) (columns 12 15)
    ∷ word (columns 16 17) (codes "y") ∷ []))
    Shape 12 None

-- `(in-hole E)`: the list
abbrev pub ShapeRefused : Type 0
ShapeRefused = IsRefusedAt (group (columns 1 12) (word (columns 2 9) (codes "in-hole") ∷ word (columns 10 11) (codes "E") ∷ [])) BadPattern 1 None

-- `x`: the name, which stands under no ellipsis
abbrev pub DepthRefused : Type 0
DepthRefused = IsRefusedAt (word (columns 1 2) (codes "x")) EllipsisDepth 1 (Some (codes "x"))

-- `(1 ...)`: the number, which drives no ellipsis
abbrev pub UndrivenRefused : Type 0
UndrivenRefused = IsRefusedAt (group (columns 1 8) (leaf (integer (pos 1)) (columns 2 3) ∷ word (columns 4 7) (codes "...") ∷ [])) EllipsisVariable 2 None

-- `,(list 1)`, written `(unquote (list 1))`: the list, which is no host expression
abbrev pub EscapeRefused : Type 0
EscapeRefused =
    IsRefusedAt
    (group (columns 1 11) (word (columns 1 2) (codes "unquote")
    ∷ group (columns 2 10) (word (columns 3 7) (codes "list") ∷ leaf (integer (pos 1)) (columns 8 9) ∷ []) ∷ []))
    RacketEscape 2 None

-- `,(add1)`: the call, which has no argument
abbrev pub CountRefused : Type 0
CountRefused =
    IsRefusedAt
    (group (columns 1 8) (word (columns 1 2) (codes "unquote") ∷ group (columns 2 8) (word (columns 3 7) (codes "add1") ∷ []) ∷ []))
    Shape 2 None

-- `(f ...)`: the ellipsis, which repeats nothing behind the name of a metafunction
abbrev pub BareEllipsisRefused : Type 0
BareEllipsisRefused = IsRefusedAt (group (columns 1 8) (word (columns 2 3) (codes "f") ∷ word (columns 4 7) (codes "...") ∷ [])) BadPattern 4 None
